-- A list with an element put in: its parts and its elements.
use mathlib.Core.Path.{◌≡◌, refl, ap}
use mathlib.Core.Logic.{inl, inr}
use mathlib.Core.List.Memᴰ.{append_cases as in_either}
use mathlib.Core.List.Memᴰ.{cases_cons as mem-cases}
use mathlib.Core.List.{List, [], ◌∷◌}
use Prim.Native.Nat.{ℕ, zero, suc, ◌≤◌}
use native.Mathlib.Omega.{arith}
use lib.ListN.{length, take, get_or}
use Rattle.lists.specs.Lists.{All, insert_at}
use Rattle.lists.proofs.Members.{mem-take, mem-drop}

module _ {A : Type 0} (v : A) where
  -- as far as its place the list is the same
  pub take-before : (k n : ℕ) (xs : List A) → n ≤ k → n ≤ length xs → take n (insert_at k v xs) ≡ take n xs
  unfolding insert_at
  take-before k zero xs h w = refl
  take-before zero (suc n) xs h w = absurd (omega arith)
  take-before (suc k) (suc n) [] h w = absurd (omega arith)
  take-before (suc k) (suc n) (x ∷ xs) h w = ap {B = List A} (λ r. x ∷ r) (take-before k n xs (omega arith) (omega arith))

  -- a part with the place in it is the part with the element put in
  pub take_inserted : (k n : ℕ) (xs : List A) → k ≤ n → take (suc n) (insert_at k v xs) ≡ insert_at k v (take n xs)
  unfolding insert_at
  take_inserted zero n xs h = refl
  take_inserted (suc k) zero xs h = absurd (omega arith)
  take_inserted (suc k) (suc n) [] h = refl
  take_inserted (suc k) (suc n) (x ∷ xs) h = ap {B = List A} (λ r. x ∷ r) (take_inserted k n xs (omega arith))

  pub length_inserted : (k : ℕ) (xs : List A) → k ≤ length xs → length (insert_at k v xs) ≡ suc (length xs)
  unfolding insert_at
  length_inserted zero xs h = refl
  length_inserted (suc k) [] h = absurd (omega arith)
  length_inserted (suc k) (x ∷ xs) h = ap suc (length_inserted k xs (omega arith))

  -- it stands at its place, and those after it one further on
  pub at_place : (k : ℕ) (xs : List A) (d : A) → k ≤ length xs → get_or (insert_at k v xs) k d ≡ v
  unfolding insert_at
  at_place zero xs d h = refl
  at_place (suc k) [] d h = absurd (omega arith)
  at_place (suc k) (x ∷ xs) d h = at_place k xs d (omega arith)

  pub past-place : (k i : ℕ) (xs : List A) (d : A) → k ≤ i → k ≤ length xs → get_or (insert_at k v xs) (suc i) d ≡ get_or xs i d
  unfolding insert_at
  past-place zero i xs d h w = refl
  past-place (suc k) i [] d h w = absurd (omega arith)
  past-place (suc k) zero (x ∷ xs) d h w = absurd (omega arith)
  past-place (suc k) (suc i) (x ∷ xs) d h w = past-place k i xs d (omega arith) (omega arith)

  -- what holds of it and of the others holds of all
  pub all_inserted : (P : A → Type 0) (k : ℕ) (xs : List A) → P v → All P xs → All P (insert_at k v xs)
  unfolding insert_at
  all_inserted P k xs p h x m =
      elim (in_either (take k xs) m) [
        | inl n ↦ h x (mem-take k xs x n)
        | inr n ↦ elim (mem-cases n) [ inl e ↦ rw e p | inr o ↦ h x (mem-drop k xs x o) ]
      ]
