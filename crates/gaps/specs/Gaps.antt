-- Slots cleared, and a gap opened and closed, in a list of slots of any type: z is a gap.
use Rattle.std.specs.Prelude.{ℕ, ◌+◌, ◌-◌, List, ◌∷◌, ◌++◌, take, drop, replicate}
use Rattle.lists.specs.Lists.{insert_at, without}

module _ {A : Type 0} where
  -- the elements from index a to index e replaced by z
  abbrev pub cleared : ℕ → ℕ → A → List A → List A
  cleared a e z l = take a l ++ replicate (e - a) z ++ drop e l

  -- in a part whose first n slots are keys: v put in front of key at, and key at taken out
  unfoldable pub opened : ℕ → ℕ → A → List A → List A
  opened n at v l = insert_at at v (take n l) ++ drop (n + 1) l

  unfoldable pub closed : A → ℕ → ℕ → List A → List A
  closed z n at l = without at (take n l) ++ z ∷ drop n l
