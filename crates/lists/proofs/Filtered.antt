-- The elements that pass a test, and whether one does.
use mathlib.Core.Path.{◌≡◌, refl, sym, ap, subst}
use mathlib.Core.Bool.{Bool, true, false, ◌||◌, not}
use mathlib.Core.Logic.{inl, inr}
use mathlib.Core.List.Memᴰ.{head as here}
use mathlib.Core.List.Memᴰ.{tail as there}
use mathlib.Core.List.{List, [], ◌∷◌, ◌++◌, Memᴰ as Mem}
use mathlib.Core.List.Memᴰ.{cases_cons as mem-cases}
use mathlib.Core.List.Memᴰ.{not-nil as nowhere}
use Prim.Native.Nat.{suc, ◌≤◌}
use native.Mathlib.Omega.{arith}
use lib.Dec.{T}
use lib.ListN.{length}
use Rattle.std.proofs.Common.{if◌then◌else◌}
use Rattle.lists.specs.Lists.{All, only, any_of}
use Rattle.lists.proofs.Tests.{either, or_left, or_right}

module _ {A : Type 0} where
  pub only-append : (p : A → Bool) (xs ys : List A) → only p (xs ++ ys) ≡ only p xs ++ only p ys
  only-append p [] ys = refl
  only-append p (x ∷ xs) ys = go (p x) (only-append p xs ys)
    where
      go : (b : Bool) → only p (xs ++ ys) ≡ only p xs ++ only p ys → (if b then x ∷ only p (xs ++ ys) else only p (xs ++ ys)) ≡ (if b then x ∷ only p xs else only p xs) ++ only p ys
      go true e = ap {B = List A} (λ r. x ∷ r) e
      go false e = e

  -- all pass, or none
  pub only-all : (p : A → Bool) (xs : List A) → All (λ x. T (p x)) xs → only p xs ≡ xs
  only-all p [] h = refl
  only-all p (x ∷ xs) h = go (p x) (h x (here refl)) (only-all p xs (λ y m. h y (there m)))
    where
      go : (b : Bool) → T b → only p xs ≡ xs → (if b then x ∷ only p xs else only p xs) ≡ x ∷ xs
      go true t e = ap {B = List A} (λ r. x ∷ r) e
      go false t e = absurd t

  pub only_none : (p : A → Bool) (xs : List A) → All (λ x. T (not (p x))) xs → only p xs ≡ []
  only_none p [] h = refl
  only_none p (x ∷ xs) h = go (p x) (h x (here refl)) (only_none p xs (λ y m. h y (there m)))
    where
      go : (b : Bool) → T (not b) → only p xs ≡ [] → (if b then x ∷ only p xs else only p xs) ≡ []
      go true t e = absurd t
      go false t e = e

  -- what passes, and what was tested
  pub only-mem : (p : A → Bool) (xs : List A) (y : A) → Mem y (only p xs) → T (p y) × Mem y xs
  only-mem p [] y m = absurd (nowhere m)
  only-mem p (x ∷ xs) y m = go (p x) refl m (only-mem p xs y)
    where
      go : (b : Bool) → p x ≡ b → Mem y (if b then x ∷ only p xs else only p xs) → (Mem y (only p xs) → T (p y) × Mem y xs) → T (p y) × Mem y (x ∷ xs)
      go true e m h =
          elim (mem-cases m) [
            | inl q ↦ (subst (λ (z : A). T (p z)) (sym q) (rw e tt), here q)
            | inr k ↦ ((h k).0, there (h k).1)
          ]
      go false e m h = ((h m).0, there (h m).1)

  pub mem-only : (p : A → Bool) (xs : List A) (y : A) → Mem y xs → T (p y) → Mem y (only p xs)
  mem-only p [] y m t = absurd (nowhere m)
  mem-only p (x ∷ xs) y m t =
      elim (mem-cases m) [
        | inl e ↦ go (p x) (subst (λ (z : A). T (p z)) e t) e
        | inr n ↦ either (Mem y) (p x) (there (mem-only p xs y n t)) (mem-only p xs y n t)
      ]
    where
      go : (b : Bool) → T b → y ≡ x → Mem y (if b then x ∷ only p xs else only p xs)
      go true t e = here e
      go false t e = absurd t

  pub only-length : (p : A → Bool) (xs : List A) → length (only p xs) ≤ length xs
  only-length p [] = omega arith
  only-length p (x ∷ xs) = either (λ (r : List A). length r ≤ suc (length xs)) (p x) (omega (arith, only-length p xs)) (omega (arith, only-length p xs))

  -- none passes, and some does
  pub any_none : (p : A → Bool) (xs : List A) → T (not (any_of p xs)) → All (λ x. T (not (p x))) xs
  any_none p [] t x m = absurd (nowhere m)
  any_none p (x ∷ xs) t y m = go (p x) refl t (any_none p xs)
    where
      go : (b : Bool) → p x ≡ b → T (not (b || any_of p xs)) → (T (not (any_of p xs)) → All (λ x. T (not (p x))) xs) → T (not (p y))
      go true e t rec = absurd t
      go false e t rec = elim (mem-cases m) [ inl q ↦ subst (λ (z : A). T (not (p z))) (sym q) (rw e tt) | inr n ↦ rec t y n ]

  pub none_any : (p : A → Bool) (xs : List A) → All (λ x. T (not (p x))) xs → T (not (any_of p xs))
  none_any p [] h = tt
  none_any p (x ∷ xs) h = go (p x) (h x (here refl)) (none_any p xs (λ y m. h y (there m)))
    where
      go : (b : Bool) → T (not b) → T (not (any_of p xs)) → T (not (b || any_of p xs))
      go true t u = absurd t
      go false t u = u

  pub any_some : (p : A → Bool) (xs : List A) → T (any_of p xs) → (x : A) × Mem x xs × T (p x)
  any_some p [] t = absurd t
  any_some p (x ∷ xs) t = go (p x) refl t (any_some p xs)
    where
      go : (b : Bool) → p x ≡ b → T (b || any_of p xs) → (T (any_of p xs) → (y : A) × Mem y xs × T (p y)) → (y : A) × Mem y (x ∷ xs) × T (p y)
      go true e t rec = (x, here refl, rw e tt)
      go false e t rec = ((rec t).0, there (rec t).1, (rec t).2)

  pub some-any : (p : A → Bool) (xs : List A) (x : A) → Mem x xs → T (p x) → T (any_of p xs)
  some-any p [] x m t = absurd (nowhere m)
  some-any p (y ∷ xs) x m t =
      elim (mem-cases m) [
        | inl e ↦ or_left (p y) (any_of p xs) (subst (λ (z : A). T (p z)) e t)
        | inr n ↦ or_right (p y) (any_of p xs) (some-any p xs x n t)
      ]
