-- A test that antt computes over a list or over numbers, and what it says of each entry.
use mathlib.Core.Path.{◌≡◌, refl, ap₂, subst, sym}
use mathlib.Core.Bool.{Bool, true, false, ◌&&◌}
use mathlib.Core.List.Memᴰ
use mathlib.Core.List.{List, [], ◌∷◌, Memᴰ}
use mathlib.Core.Logic.{inl, inr}
use Prim.Native.Nat.{ℕ, zero, suc, ◌<◌}
use native.Mathlib.Nat.{le_of_suc-le-suc, not-suc-le-zero, eq-or-lt_of_le}
use lib.Dec.{T, eqb, eqb→eq}
use Rattle.lists.proofs.Tests.{and_left, and_right}

module _ {ℓ} {A : Type ℓ} where
  -- each element passes
  abbrev pub all_of : (A → Bool) → List A → Bool
  all_of p [] = true
  all_of p (x ∷ xs) = p x && all_of p xs

  pub all-at : (p : A → Bool) (xs : List A) → T (all_of p xs) → (x : A) → Memᴰ x xs → T (p x)
  all-at p [] t x h = absurd (Memᴰ.not-nil h)
  all-at p (y ∷ ys) t x h =
      elim (Memᴰ.cases_cons h) [
        | inl e ↦ subst (λ (z : A). T (p z)) (sym e) (and_left (p y) (all_of p ys) t)
        | inr m ↦ all-at p ys (and_right (p y) (all_of p ys) t) x m
      ]

abbrev pub same : List ℕ → List ℕ → Bool
same [] [] = true
same [] (y ∷ ys) = false
same (x ∷ xs) [] = false
same (x ∷ xs) (y ∷ ys) = eqb x y && same xs ys

pub same→eq : (xs ys : List ℕ) → T (same xs ys) → xs ≡ ys
same→eq [] [] t = refl
same→eq [] (y ∷ ys) t = absurd t
same→eq (x ∷ xs) [] t = absurd t
same→eq (x ∷ xs) (y ∷ ys) t =
    ap₂ {C = List ℕ} ◌∷◌ (eqb→eq x y (and_left (eqb x y) (same xs ys) t)) (same→eq xs ys (and_right (eqb x y) (same xs ys) t))

-- each number below n passes
abbrev pub all_below : ℕ → (ℕ → Bool) → Bool
all_below zero p = true
all_below (suc n) p = p n && all_below n p

pub below_at : (n : ℕ) (p : ℕ → Bool) → T (all_below n p) → (k : ℕ) → k < n → T (p k)
below_at zero p t k h = absurd (not-suc-le-zero h)
below_at (suc n) p t k h =
    elim (eq-or-lt_of_le (le_of_suc-le-suc h)) [
      | inl e ↦ subst (λ (z : ℕ). T (p z)) (sym e) (and_left (p n) (all_below n p) t)
      | inr l ↦ below_at n p (and_right (p n) (all_below n p) t) k l
    ]
