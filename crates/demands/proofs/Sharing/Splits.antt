-- The split in words: allowed, least by formula 6, the least of those, and nothing else. Neither denominator is 0.
use mathlib.Core.Path.{◌≡◌, sym, ◌∙◌, subst}
use mathlib.Core.Bool.{Bool, true, false, not}
use mathlib.Core.Logic.{inl, inr, ◌≢◌, ◌↔◌}
use mathlib.Core.List.{List}
use Prim.Native.Nat.{ℕ, zero, suc, ◌+◌, ◌-◌, ◌*◌, ◌/◌, ◌^◌, ◌≤◌, ◌<◌, min, max}
use native.Mathlib.Nat.{ne_of_gt, eq-zero-or-pos, le_refl, mul-le-mul_left, mul-le-mul_right, mul-pos, le_of_mul-le-mul_right, eq-or-lt_of_le, mul-lt-mul_of_pos_right, lt_of_mul-lt-mul_right}
use native.Mathlib.Decide.{dec_lt}
use native.Mathlib.Omega.{arith}
use lib.Dec.{T, ltb→lt, nltb→le}
use borrow.Author.Tests.{ne_eqb}
use lib.ListN.{length}
use Rattle.std.proofs.Common.{if◌then◌else◌}
use Rattle.lists.specs.Lists.{total}
use Rattle.slots.proofs.Windows.{pow_pos, double}
use Rattle.rules.specs.Shares.{Shares, Lawful}
use Rattle.rules.specs.SharingOut.{Fraction, less, least, left_share}
use Rattle.rules.specs.Readings.{Limits, AtMost, Below, Allowed, six, Split, SplitIs, NoZero}
use Rattle.demands.proofs.Sharing.SharingOut.{left-fits, least-from, fair}

-- fractions through a third
at-most-through : (p q r : Fraction) → 0 < q.den → AtMost p q → AtMost q r → AtMost p r
at-most-through p q r h a b =
    le_of_mul-le-mul_right {k = q.den} (omega (arith, mul-le-mul_right r.den a, mul-le-mul_right p.den b)) h

below-through : (p q r : Fraction) → 0 < r.den → Below p q → AtMost q r → Below p r
below-through p q r k a b =
    lt_of_mul-lt-mul_right q.den (omega (arith, mul-lt-mul_of_pos_right a k, mul-le-mul_right p.den b))

-- for all up to i + n + 1: those up to i + n, and the last
to_last : (P : ℕ → Type 0) (i n k : ℕ) → k ≤ i + suc n → (k ≤ i + n → P k) → P (i + suc n) → P k
to_last P i n k h a b = elim (eq-or-lt_of_le h) [ inl e ↦ subst P (sym e) b | inr l ↦ a (omega arith) ]

module _ (d : ℕ → Fraction) where
  -- r is least of i .. i + n, and least among ties
  abbrev Least : ℕ → ℕ → ℕ → Type 0
  Least i n r = ((k : ℕ) → i ≤ k → k ≤ i + n → AtMost (d r) (d k)) × ((k : ℕ) → i ≤ k → k < r → Below (d r) (d k))

  least-least : (i n : ℕ) → ((k : ℕ) → i ≤ k → k ≤ i + n → 0 < (d k).den) → Least i n (least d i n)
  least-least i zero pos = (λ k p q. let e : k ≡ i = omega arith in subst (λ (z : ℕ). AtMost (d i) (d z)) (sym e) (le_refl _), λ k p q. absurd (omega arith))
  least-least i (suc n) pos =
      go (less (d (i + suc n)) (d (least d i n))) (ltb→lt _ _) (nltb→le _ _) (least-least i n (λ k p q. pos k p (omega arith))) (least-from d i n)
    where
      r : ℕ
      r = least d i n

      go : (b : Bool) → (T b → Below (d (i + suc n)) (d r)) → (T (not b) → AtMost (d r) (d (i + suc n))) → Least i n r → (i ≤ r) × (r ≤ i + n)
          → Least i (suc n) (if b then i + suc n else r)
      go true y x h f = (
        λ k p q. to_last (λ (z : ℕ). AtMost (d (i + suc n)) (d z)) i n k q
            (λ l. at-most-through (d (i + suc n)) (d r) (d k) (pos r f.0 (omega arith)) (omega (arith, y tt)) (h.0 k p l)) (le_refl _),
        λ k p q. below-through (d (i + suc n)) (d r) (d k) (pos k p (omega arith)) (y tt) (h.0 k p (omega arith)),
      )
      go false y x h f = (λ k p q. to_last (λ (z : ℕ). AtMost (d r) (d z)) i n k q (λ l. h.0 k p l) (x tt), λ k p q. h.1 k p q)

module _ (S : Shares) (l f : ℕ) (ws : List ℕ) where
  -- at most one
  split_one : (i j : ℕ) → Split S l f ws i → Split S l f ws j → i ≡ j
  split_one i j p q =
      elim (eq-zero-or-pos (f + total ws)) [
        | inl e ↦ p.even e ∙ sym (q.even e)
        | inr h ↦
            let n : f + total ws ≢ 0 = ne_of_gt h in
            elim (dec_lt i j) [
              | yes k ↦ absurd (omega (arith, q.ties n i p.allowed k, p.best n j q.allowed))
              | no k ↦
                  elim (dec_lt j i) [
                    | yes k' ↦ absurd (omega (arith, p.ties n j q.allowed k', q.best n i p.allowed))
                    | no k' ↦ omega arith
                  ]
            ]
      ]

  abbrev pub first-i : ℕ
  first-i = max (2 ^ l * S.low (suc l)) (length ws - 2 ^ l * S.high (suc l))

  abbrev pub last-i : ℕ
  last-i = min (2 ^ l * S.high (suc l)) (length ws - 2 ^ l * S.low (suc l))

  pub share-even : f + total ws ≡ 0 → left_share S l f ws ≡ (length ws + 1) / 2
  unfolding left_share
  share-even e = rw e

  pub share-least : f + total ws ≢ 0 → left_share S l f ws ≡ least (six S l f ws) first-i (last-i - first-i)
  unfolding left_share
  share-least n = rw (ne_eqb (f + total ws) 0 n)

  module _ (L : Lawful S) (h : l < S.height) where
    -- neither denominator can be 0
    gaps : (i : ℕ) → Allowed S l f ws i → (0 < 64 * 2 ^ l - i) × (0 < 64 * 2 ^ l + i - length ws)
    gaps i a = omega (arith, pow_pos l, mul-le-mul_left (2 ^ l) (L.gaps l h))

    tried : (k : ℕ) → 2 ^ l * S.low (suc l) ≤ 2 ^ l * S.high (suc l) → 2 * (2 ^ l * S.low (suc l)) ≤ length ws → length ws ≤ 2 * (2 ^ l * S.high (suc l))
        → (first-i ≤ k) × (k ≤ first-i + (last-i - first-i)) ↔ Allowed S l f ws k
    tried k p q r = omega arith

    split : Limits S (suc l) (suc l) (length ws) → Split S l f ws (left_share S l f ws)
    split k = record {
      allowed = left-fits S L l f ws h k;
      even = share-even;
      best = λ n j a. rw (share-least n) (c.0 j ((tried j p q r).1 a).0 ((tried j p q r).1 a).1);
      ties = λ n j a b. rw (share-least n) (c.1 j ((tried j p q r).1 a).0 (rw (share-least n) at b));
    }
      where
        p : 2 ^ l * S.low (suc l) ≤ 2 ^ l * S.high (suc l)
        p = mul-le-mul_left (2 ^ l) (omega (arith, fair S L (suc l) h))

        q : 2 * (2 ^ l * S.low (suc l)) ≤ length ws
        q = rw double at k.0

        r : length ws ≤ 2 * (2 ^ l * S.high (suc l))
        r = rw double at k.1

        c : Least (six S l f ws) first-i (last-i - first-i) (least (six S l f ws) first-i (last-i - first-i))
        c = least-least (six S l f ws) first-i (last-i - first-i) (λ j a b. mul-pos (gaps j ((tried j p q r).0 (a, b))).0 (gaps j ((tried j p q r).0 (a, b))).1)

pub split_is : SplitIs
split_is S L l f ws h k i = (
  λ p. split_one S l f ws i (left_share S l f ws) p (split S l f ws L h k),
  λ e. subst (Split S l f ws) (sym e) (split S l f ws L h k),
)

pub no_zero : NoZero
no_zero S L l ws h i a = gaps S l 0 ws L h i a
