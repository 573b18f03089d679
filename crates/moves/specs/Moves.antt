-- What the movements of slots do to a list, for slots of any type.
use Rattle.std.specs.Prelude.{ℕ, ◌≡◌, List, [], ◌∷◌, ◌++◌, take, drop}
use Rattle.std.proofs.Math.Seq.{paste}
use Rattle.lists.specs.Lists.{total}

module _ {A : Type 0} where
  -- count elements from index from, copied to index to
  abbrev pub moved : ℕ → ℕ → ℕ → List A → List A
  moved from to count l = paste l to (drop from l) count

  -- the keys of a window whose segments have so many each
  unfoldable pub gather : List ℕ → List A → List A
  gather [] l = []
  gather (c ∷ cs) l = take c l ++ gather cs (drop 64 l)

-- l' is the window l with the keys of its segments, r in all, moved to the front; the slots after those are as they were
pub record Packed {A : Type 0} (counts : List ℕ) (l : List A) (r : ℕ) (l' : List A) : Type 0 where
  pub many : r ≡ total counts
  pub slots : l' ≡ gather counts l ++ drop r l
