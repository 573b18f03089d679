-- A list cut into parts of k elements each, and joined again.
use mathlib.Core.Path.{◌≡◌, refl, ap, ap₂, ◌∙◌}
use mathlib.Core.Logic.{inl, inr}
use mathlib.Core.List.Memᴰ.{cases_cons as mem-cases}
use mathlib.Core.List.Memᴰ.{head as here}
use mathlib.Core.List.Memᴰ.{not-nil as nowhere}
use mathlib.Core.List.Memᴰ.{tail as there}
use mathlib.Core.List.{List, [], ◌∷◌, ◌++◌}
use Prim.Native.Nat.{ℕ, zero, suc, ◌*◌}
use native.Mathlib.Omega.{arith}
use lib.ListN.{length, take, drop, length-append, length-drop, take-append-drop}
use lib.Seq.{length-take-le, take_at, drop_at}
use Rattle.lists.specs.Lists.{All, joined, parts}

module _ {A : Type 0} (k : ℕ) where
  pub joined-parts : (n : ℕ) (xs : List A) → length xs ≡ k * n → joined (parts k n xs) ≡ xs
  joined-parts zero [] e = refl
  joined-parts zero (x ∷ xs) e = absurd (omega arith)
  joined-parts (suc n) xs e =
      ap {B = List A} (λ r. take k xs ++ r) (joined-parts n (drop k xs) (omega (arith, length-drop k xs))) ∙ take-append-drop k xs

  pub part_length : (n : ℕ) (xs : List A) → length xs ≡ k * n → All (λ c. length c ≡ k) (parts k n xs)
  part_length zero xs e c m = absurd (nowhere m)
  part_length (suc n) xs e c m =
      elim (mem-cases m) [
        | inl q ↦ rw q (length-take-le k xs (omega arith))
        | inr m' ↦ part_length n (drop k xs) (omega (arith, length-drop k xs)) c m'
      ]

  pub parts-joined : (css : List (List A)) → All (λ c. length c ≡ k) css → parts k (length css) (joined css) ≡ css
  parts-joined [] h = refl
  parts-joined (c ∷ css) h =
      ap₂ {C = List (List A)} ◌∷◌ (take_at c (joined css) k (h c (here refl)))
      (ap (parts k (length css)) (drop_at c (joined css) k (h c (here refl))) ∙ parts-joined css (λ d m. h d (there m)))

  pub length-parts : (n : ℕ) (xs : List A) → length (parts k n xs) ≡ n
  length-parts zero xs = refl
  length-parts (suc n) xs = ap suc (length-parts n (drop k xs))

  pub length-joined-parts : (css : List (List A)) → All (λ c. length c ≡ k) css → length (joined css) ≡ k * length css
  length-joined-parts [] h = omega arith
  length-joined-parts (c ∷ css) h =
      length-append c (joined css) ∙ omega (arith, h c (here refl), length-joined-parts css (λ d m. h d (there m)))
