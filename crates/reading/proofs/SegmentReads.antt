-- A segment read in two loops: keys that rise, then gaps. What is known of the slots before it is known after it, or its first fault is told.
use mathlib.Core.Path.{◌≡◌, refl, sym, ap, ◌∙◌, subst}
use mathlib.Core.Logic.{inl, inr, ◌≢◌}
use mathlib.Core.List.{List}
use Prim.Native.Nat.{ℕ, zero, suc, ◌+◌, ◌-◌, ◌*◌, ◌/◌, ◌≤◌, ◌<◌}
use native.Mathlib.Nat.{eq-or-lt_of_le}
use native.Mathlib.Omega.{arith}
use lib.Dec.{T}
use lib.ListN.{length}
use Rattle.lists.proofs.Tests.{or_left, or_right}
use Rattle.slots.specs.declared.Disorder.{Disorder}
use Rattle.slots.specs.Orders.{slot_at, not_rising, after_gap}
use Rattle.std.specs.Prelude.{Err}
use Rattle.slots.specs.Shown.{Reads}
use Rattle.reading.specs.Stretches.{before, Rises, AllGaps, Sound, break_of}
use Rattle.slots.proofs.Orders.{fault, gapping}
use Rattle.reading.proofs.Readers.{sound-as, sound-key, sound-gap, sound-low, sound-fault}
use Rattle.reading.proofs.Stretched.{before-first, before-next}

module _ (xs : List ℕ) where
  -- the slots from i up to r are gaps
  past-gaps : {i top keys : ℕ} → Sound xs i top keys → (r : ℕ) → i ≤ r → r ≤ length xs → ((k : ℕ) → i ≤ k → k < r → slot_at xs k ≡ 0) → Sound xs r top keys
  past-gaps s zero h l z = sound-as (omega arith) refl refl s
  past-gaps {i} {top} {keys} s (suc r) h l z =
      elim (eq-or-lt_of_le h) [
        | inl e ↦ sound-as e refl refl s
        | inr m ↦ sound-as (omega arith) refl refl (sound-gap (past-gaps s r (omega arith) (omega arith) (λ k p q. z k p (omega arith))) (omega arith) (z r (omega arith) (omega arith)))
      ]

  -- a segment begins at a, and last is the largest key before it
  module _ {a last keys : ℕ} (s : Sound xs a last keys) (begins : a / 64 * 64 ≡ a) where
    -- the slots from a up to r rise
    past-keys : (r : ℕ) → a ≤ r → r ≤ a + 64 → ((k : ℕ) → a ≤ k → k < r → before xs a last k < slot_at xs k) → Sound xs r (before xs a last r) (keys + (r - a))
    past-keys zero h l up = sound-as (omega arith) (sym (before-first xs a last 0 (omega arith))) (omega arith) s
    past-keys (suc r) h l up =
        elim (eq-or-lt_of_le h) [
          | inl e ↦ sound-as e (sym (before-first xs a last (suc r) (sym e))) (omega arith) s
          | inr m ↦ next (omega arith) (past-keys r (omega arith) (omega arith) (λ k p q. up k p (omega arith)))
        ]
      where
        next : a ≤ r → Sound xs r (before xs a last r) (keys + (r - a)) → Sound xs (suc r) (before xs a last (suc r)) (keys + (suc r - a))
        next m t =
            let e : r + 1 ≡ suc r = omega arith in
            sound-as e (sym (before-next xs a last r m) ∙ ap (before xs a last) e) (omega arith)
            (sound-key t (up r m (omega arith)) (λ i p q. let z : a ≤ i = omega arith in let b = up i z (omega arith) in omega (arith, b)))

    -- the two loops, from a up to i and up to j; top is the largest key then
    module _ {e i j top : ℕ} (short : e ≤ a + 64) (inside : e ≤ length xs) (rise : Rises xs a e last i) (rest : AllGaps xs i e j) (is : top ≡ before xs a last i) where
      to-stop : Sound xs j top (keys + (i - a))
      to-stop =
          let t = past-keys i rise.from (omega (arith, rise.to)) rise.rises in
          past-gaps (sound-as refl (sym is) refl t) j rest.from (omega (arith, rest.to)) rest.gaps

      -- they end at the segment's end
      pub segment-sound : e ≤ j → Sound xs e top (keys + (i - a))
      segment-sound h = sound-as (omega (arith, rest.to)) refl refl to-stop

      -- they end at a key before it
      pub segment-fault : j < e → {d : Disorder} → d ≡ break_of (slot_at xs j) top j → Reads xs (Err d)
      segment-fault h told = subst (λ (d : Disorder). Reads xs (Err d)) (sym told) (sound-fault to-stop key broken)
        where
          key : slot_at xs j ≢ 0
          key = rest.stops h

          low : i ≡ j → slot_at xs j ≤ top
          low q = rw is (subst (λ (z : ℕ). slot_at xs z ≤ before xs a last i) q (rise.stops (omega arith)))

          broken : T (fault xs j)
          broken =
              elim (eq-or-lt_of_le rest.from) [
                | inl q ↦ or_left (not_rising xs j) (after_gap xs j) (sound-low to-stop key (low q))
                | inr l ↦ or_right (not_rising xs j) (after_gap xs j) (gapping xs j i (l, omega (arith, rise.from), rest.gaps i (omega arith) l, key))
              ]
