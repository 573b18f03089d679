-- The first number, and the place of the first element, that passes a test.
use mathlib.Core.Path.{◌≡◌, refl, ap, subst}
use mathlib.Core.Bool.{Bool, true, false, not}
use mathlib.Core.Logic.{inl, inr}
use mathlib.Core.Option.{Option, none, some}
use mathlib.Core.List.{List, [], ◌∷◌, Memᴰ as Mem}
use mathlib.Core.List.Memᴰ.{cases_cons as mem-cases}
use mathlib.Core.List.Memᴰ.{not-nil as nowhere}
use Prim.Native.Nat.{ℕ, zero, suc, ◌+◌, ◌≤◌, ◌<◌}
use native.Mathlib.Nat.{eq-or-lt_of_le}
use native.Mathlib.Decide.{dec_lt}
use native.Mathlib.Omega.{arith}
use lib.Dec.{T, T_not}
use lib.ListN.{length, get_or}
use Rattle.std.proofs.Common.{if◌then◌else◌}
use Rattle.lists.specs.Search.{first, place_by}
use Rattle.lists.proofs.Tests.{either}

-- OF NUMBERS
-- k passes, and none from i up to k does
abbrev pub First : (ℕ → Bool) → ℕ → ℕ → Type 0
First ok i k = (i ≤ k) × T (ok k) × ((j : ℕ) → i ≤ j → j < k → T (not (ok j)))

abbrev pub Firsts : (ℕ → Bool) → ℕ → ℕ → Option ℕ → Type 0
Firsts ok i n none = (j : ℕ) → i ≤ j → j < i + n → T (not (ok j))
Firsts ok i n (some k) = First ok i k × (k < i + n)

from_next : (ok : ℕ → Bool) (i j : ℕ) → ok i ≡ false → i ≤ j → (i < j → T (not (ok j))) → T (not (ok j))
from_next ok i j e h k =
    elim (eq-or-lt_of_le h) [
      | inl q ↦ subst (λ (z : ℕ). T (not (ok z))) q (rw e tt)
      | inr q ↦ k q
    ]

pub firsts : (ok : ℕ → Bool) (i n : ℕ) → Firsts ok i n (first ok i n)
firsts ok i zero = λ j h k. absurd (omega arith)
firsts ok i (suc n) = go (ok i) refl (first ok (suc i) n) (firsts ok (suc i) n)
  where
    go : (b : Bool) → ok i ≡ b → (r : Option ℕ) → Firsts ok (suc i) n r → Firsts ok i (suc n) (if b then some i else r)
    go true e none h = ((omega arith, rw e tt, λ j p q. absurd (omega arith)), omega arith)
    go true e (some k) h = ((omega arith, rw e tt, λ j p q. absurd (omega arith)), omega arith)
    go false e none h = λ j p q. from_next ok i j e p (λ m. h j m (omega arith))
    go false e (some k) h = ((omega arith, h.0.1, λ j p q. from_next ok i j e p (λ m. h.0.2 j m q)), omega arith)

-- and there is no other
pub first-is : (ok : ℕ → Bool) (i n k : ℕ) → First ok i k → k < i + n → first ok i n ≡ some k
first-is ok i n k f h = go (first ok i n) (firsts ok i n)
  where
    same : (a b : ℕ) → First ok i a → First ok i b → a ≤ b
    same a b p q = elim (dec_lt b a) [ yes l ↦ absurd (T_not (ok b) (p.2 b q.0 l) q.1) | no l ↦ omega arith ]

    go : (r : Option ℕ) → Firsts ok i n r → r ≡ some k
    go none g = absurd (T_not (ok k) (g k f.0 h) f.1)
    go (some j) g =
        let e : j ≡ k = omega (arith, same j k g.0 f, same k j f g.0) in
        ap {B = Option ℕ} some e

pub first-none : (ok : ℕ → Bool) (i n : ℕ) → ((j : ℕ) → i ≤ j → j < i + n → T (not (ok j))) → first ok i n ≡ none
first-none ok i n h = go (first ok i n) (firsts ok i n)
  where
    go : (r : Option ℕ) → Firsts ok i n r → r ≡ none
    go none g = refl
    go (some j) g = absurd (T_not (ok j) (h j g.0.0 g.1) g.0.1)

-- OF ELEMENTS
module _ {A : Type 0} (p : A → Bool) where
  pub place-le : (xs : List A) → place_by p xs ≤ length xs
  place-le [] = omega arith
  place-le (x ∷ xs) = either (λ (n : ℕ). n ≤ suc (length xs)) (p x) (omega arith) (omega (arith, place-le xs))

  -- it passes, if it is a place of the list
  pub place-passes : (xs : List A) (d : A) → place_by p xs < length xs → T (p (get_or xs (place_by p xs) d))
  place-passes [] d h = absurd (omega arith)
  place-passes (x ∷ xs) d h = go (p x) refl h (place-passes xs d)
    where
      go : (b : Bool) → p x ≡ b → (if b then 0 else suc (place_by p xs)) < suc (length xs) → (place_by p xs < length xs → T (p (get_or xs (place_by p xs) d)))
          → T (p (get_or (x ∷ xs) (if b then 0 else suc (place_by p xs)) d))
      go true e h rec = rw e tt
      go false e h rec = rec (omega arith)

  -- an element that passes stands there or later
  pub place-mem : (xs : List A) (x : A) → Mem x xs → T (p x) → place_by p xs < length xs
  place-mem [] x m t = absurd (nowhere m)
  place-mem (y ∷ xs) x m t = go (p y) refl (λ n. place-mem xs x n t)
    where
      go : (b : Bool) → p y ≡ b → (Mem x xs → place_by p xs < length xs) → (if b then 0 else suc (place_by p xs)) < suc (length xs)
      go true e rec = omega arith
      go false e rec =
          elim (mem-cases m) [
            | inl q ↦ absurd (subst T e (subst (λ (z : A). T (p z)) q t))
            | inr n ↦ omega (arith, rec n)
          ]
