-- The next mark from a place on: where it stands, and how it moves with the place.
use mathlib.Core.Path.{◌≡◌, refl, sym}
use mathlib.Core.Bool.{Bool, true, false, not}
use mathlib.Core.List.{List, [], ◌∷◌}
use Prim.Native.Nat.{ℕ, zero, suc, ◌+◌, ◌≤◌, ◌<◌}
use native.Mathlib.Decide.{dec_lt}
use native.Mathlib.Omega.{arith}
use lib.Dec.{T, leb, ltb, leb→le, nltb→le}
use lib.ListN.{length, get_or}
use Rattle.std.specs.Prelude.{cond, Some, None, position, unwrap_or, if◌then◌else◌}
use Rattle.std.specs.List.{position_or_len}
use Rattle.std.proofs.lemmas.List.Recursion.{is_position_or_len}
use borrow.Author.Tests.{le-leb, lt-leb}
use Rattle.lists.specs.Lists.{All}
use Rattle.lists.specs.Search.{place_by}
use Rattle.lists.proofs.Members.{at_mem}
use Rattle.lists.proofs.Search.{place-le, place-passes}
use Rattle.slots.specs.Keys.{Rising}
use Rattle.slots.proofs.Halving.{rising-at}

-- the first that passes, by the library's search: the length where none does
place-is : {A : Type 0} (p : A → Bool) (xs : List A) → position_or_len p xs ≡ place_by p xs
place-is p xs = sym (is_position_or_len (place_by p) p refl (λ x xs. step (p x) (place_by p xs)) xs)
  where
    step : (b : Bool) (n : ℕ) → (if b then 0 else suc n) ≡ cond b 0 (1 + n)
    step true n = refl
    step false n = omega arith

pub place-or : {A : Type 0} (p : A → Bool) (xs : List A) {n : ℕ} → n ≡ length xs → unwrap_or (position p xs) n ≡ place_by p xs
place-or p xs {n} e = go (ltb (position_or_len p xs) (length xs)) (nltb→le _ _)
  where
    go : (b : Bool) → (T (not b) → length xs ≤ position_or_len p xs) → unwrap_or (cond b (Some (position_or_len p xs)) None) n ≡ place_by p xs
    go true h = place-is p xs
    go false h = omega (arith, h tt, place-is p xs, place-le p xs)

-- the first mark that stands at place x or past it
abbrev pub next : List ℕ → ℕ → ℕ
next at x = place_by (leb x) at

-- those before it stand before the place
before : (x : ℕ) (at : List ℕ) (k : ℕ) → k < next at x → get_or at k 0 < x
before x [] k h = absurd (omega arith)
before x (q ∷ qs) zero h = elim (dec_lt q x) [ yes l ↦ l | no l ↦ absurd (omega (arith, rw (le-leb x q (omega arith)) at h)) ]
before x (q ∷ qs) (suc k) h =
    elim (dec_lt q x) [
      | yes l ↦ before x qs k (omega (arith, rw (lt-leb x q l) at h))
      | no l ↦ absurd (omega (arith, rw (le-leb x q (omega arith)) at h))
    ]

module _ (at : List ℕ) where
  pub next-in : (x : ℕ) → next at x ≤ length at
  next-in x = place-le (leb x) at

  -- it stands there
  pub next-from : (x : ℕ) → next at x < length at → x ≤ get_or at (next at x) 0
  next-from x h = leb→le x _ (place-passes (leb x) at 0 h)

  -- it is no later than any mark that does
  pub next-hit : (x k : ℕ) → x ≤ get_or at k 0 → next at x ≤ k
  next-hit x k h = elim (dec_lt k (next at x)) [ yes l ↦ absurd (omega (arith, before x at k l)) | no l ↦ omega arith ]

  -- and it is later than a mark that does not, where all before that one do not
  pub next_more : (x k : ℕ) → k ≤ next at x → k < length at → get_or at k 0 < x → suc k ≤ next at x
  next_more x k h g l =
      elim (dec_lt k (next at x)) [
        | yes m ↦ m
        | no m ↦
            let e : next at x ≡ k = omega arith in
            absurd (omega (arith, rw e at (next-from x) g))
      ]

  next_past : (x k : ℕ) → k ≤ length at → ((j : ℕ) → j < k → get_or at j 0 < x) → k ≤ next at x
  next_past x zero h f = omega arith
  next_past x (suc k) h f = next_more x k (next_past x k (omega arith) (λ j l. f j (omega arith))) (omega arith) (f k (omega arith))

  pub next-all : (x : ℕ) → All (λ q. q < x) at → next at x ≡ length at
  next-all x h = omega (arith, next-in x, next_past x (length at) (omega arith) (λ j l. h _ (at_mem at j 0 l)))

  -- it grows with the place, stays up to the mark itself, and goes on past it
  module _ (x y : ℕ) (h : x ≤ y) where
    pub next_grows : next at x ≤ next at y
    next_grows = next_past y (next at x) (next-in x) (λ j l. omega (arith, before x at j l))

    pub next-stays : (next at x < length at → y ≤ get_or at (next at x) 0) → next at y ≡ next at x
    next-stays f =
        elim (dec_lt (next at x) (length at)) [
          | yes l ↦ omega (arith, next_grows, next-hit y (next at x) (f l))
          | no l ↦ omega (arith, next_grows, next-in y)
        ]

  pub next-on : (x : ℕ) → Rising at → next at x < length at → get_or at (next at x) 0 ≡ x → next at (suc x) ≡ suc (next at x)
  next-on x r h e =
      let more : suc (next at x) ≤ next at (suc x) = next_more (suc x) (next at x) (next_grows x (suc x) (omega arith)) h (omega arith) in
      elim (dec_lt (suc (next at x)) (length at)) [
        | yes l ↦ omega (arith, next-hit (suc x) (suc (next at x)) (omega (arith, rising-at at r (next at x) (suc (next at x)) (omega arith) l)))
        | no l ↦ omega (arith, next-in (suc x))
      ]
