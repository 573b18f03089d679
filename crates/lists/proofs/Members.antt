-- Members of lists: their places, and those of a part, a changed list and a mapped one.
use mathlib.Core.Path.{◌≡◌, refl, sym, subst}
use mathlib.Core.Logic.{◌⊎◌, inl, inr}
use mathlib.Core.List.Memᴰ.{head as here}
use mathlib.Core.List.Memᴰ.{tail as there}
use mathlib.Core.List.{List, [], ◌∷◌, map, Memᴰ as Mem}
use mathlib.Core.List.Memᴰ.{append_cases as in_either}
use mathlib.Core.List.Memᴰ.{cases_cons as mem-cases}
use mathlib.Core.List.Memᴰ.{not-nil as nowhere}
use mathlib.Core.List.Memᴰ.{append_left as in_left}
use mathlib.Core.List.Memᴰ.{append_right as in_right}
use Prim.Native.Nat.{ℕ, zero, suc, ◌<◌}
use native.Mathlib.Nat.{zero-lt-suc}
use native.Mathlib.Omega.{arith}
use lib.ListN.{length, take, drop, get_or, set, take-append-drop}
use lib.Seq.{set_split}
use Rattle.lists.specs.Lists.{All}

module _ {A : Type 0} where
  -- an element has a place
  pub mem-at : (x : A) (xs : List A) (d : A) → Mem x xs → (t : ℕ) × (t < length xs) × (get_or xs t d ≡ x)
  mem-at x [] d m = absurd (nowhere m)
  mem-at x (y ∷ xs) d m =
      elim (mem-cases m) [
        | inl e ↦ (0, zero-lt-suc _, sym e)
        | inr n ↦ (suc (mem-at x xs d n).0, omega (arith, (mem-at x xs d n).1), (mem-at x xs d n).2)
      ]

  pub at_mem : (xs : List A) (t : ℕ) (d : A) → t < length xs → Mem (get_or xs t d) xs
  at_mem [] t d h = absurd (omega arith)
  at_mem (x ∷ xs) zero d h = here refl
  at_mem (x ∷ xs) (suc t) d h = there (at_mem xs t d (omega arith))

  -- a part's elements are the list's
  pub mem-take : (n : ℕ) (xs : List A) (x : A) → Mem x (take n xs) → Mem x xs
  mem-take n xs x m = subst (Mem x) (take-append-drop n xs) (in_left (drop n xs) m)

  pub mem-drop : (n : ℕ) (xs : List A) (x : A) → Mem x (drop n xs) → Mem x xs
  mem-drop n xs x m = subst (Mem x) (take-append-drop n xs) (in_right (take n xs) m)

  pub mem-set : (xs : List A) (s : ℕ) (new x : A) → s < length xs → Mem x (set xs s new) → (x ≡ new) ⊎ Mem x xs
  mem-set xs s new x h m =
      elim (in_either (take s xs) (subst (Mem x) (set_split xs s new h) m)) [
        | inl n ↦ inr (mem-take s xs x n)
        | inr n ↦ elim (mem-cases n) [ inl e ↦ inl e | inr o ↦ inr (mem-drop (suc s) xs x o) ]
      ]

pub map-all : {A B : Type 0} (Q : B → Type 0) (f : A → B) (xs : List A) → All (λ x. Q (f x)) xs → All Q (map f xs)
map-all Q f [] h y m = absurd (nowhere m)
map-all Q f (x ∷ xs) h y m = elim (mem-cases m) [ inl e ↦ subst Q (sym e) (h x (here refl)) | inr n ↦ map-all Q f xs (λ z k. h z (there k)) y n ]
