-- Four elements of a list, written one after the other.
use mathlib.Core.Path.{◌≡◌}
use Prim.Native.Nat.{ℕ, suc, ◌+◌, ◌≤◌}
use native.Mathlib.Omega.{arith}
use mathlib.Core.List.{List, [], ◌∷◌}
use lib.ListN.{length, set}
use lib.Seq.{paste, sets-eq}

module _ {A : Type 0} where
  pub four-put : (l : List A) (to : ℕ) (w x y z : A) → to + 4 ≤ length l → set (set (set (set l to w) (to + 1) x) (to + 2) y) (to + 3) z ≡ paste l to (w ∷ x ∷ y ∷ z ∷ []) 4
  four-put l to w x y z h =
      let e₁ : to + 1 ≡ suc to = omega arith in
      let e₂ : to + 2 ≡ suc (suc to) = omega arith in
      let e₃ : to + 3 ≡ suc (suc (suc to)) = omega arith in
      rw (e₁, e₂, e₃) (sets-eq (w ∷ x ∷ y ∷ z ∷ []) l to h)
