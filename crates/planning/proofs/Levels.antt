-- A window within its limits, from its level to its halves: they are within theirs, and their plans are its plan.
use mathlib.Core.Path.{◌≡◌, refl, sym, ap, ap₂, ◌∙◌}
use mathlib.Core.List.{List, [], ◌∷◌, ◌++◌}
use Prim.Native.Nat.{ℕ, zero, suc, ◌+◌, ◌-◌, ◌/◌, ◌^◌, ◌≤◌}
use native.Mathlib.Nat.{pow-succ', pow-le-pow_right}
use native.Mathlib.Omega.{arith}
use lib.Dec.{lit≤}
use lib.ListN.{length, take, drop, set}
use Rattle.slots.proofs.Windows.{double, pow_pos}
use Rattle.rules.specs.Shares.{Shares}
use Rattle.rules.specs.SharingOut.{left_share, plan}
use Rattle.rules.specs.Readings.{Limits}
use Rattle.demands.proofs.Sharing.SharingOut.{inner}
use Rattle.planning.specs.Plans.{Splits, Planned}
use Rattle.stretches.proofs.Weighing.{first_part, other-part, length-stretch}
use Rattle.planning.proofs.Ranges.{Ranged}

-- WITHIN LIMITS
-- What is known of a window of level l above segments, with half the segments in each half.
pub record Down (S : Shares) (l n m half : ℕ) : Type 0 where
  pub whole : n ≡ half + half
  pub power : half ≡ 2 ^ (l - 1)
  pub splits : Splits half (S.low l) (S.high l) m
  pub left : (k i : ℕ) → k ≡ half → Ranged half (S.low l) (S.high l) m i → Planned S (l - 1) k i
  pub right : (k i : ℕ) → k ≡ half → Ranged half (S.low l) (S.high l) m i → Planned S (l - 1) k (m - i)

pub down : (S : Shares) (l n m : ℕ) → Planned S l n m → 1 ≤ l → Down S l n m (n / 2)
down S zero n m p q = absurd (omega arith)
down S (suc l) n m p q = record {
  whole = omega (arith, t, p.segments, pow-succ' 2 l);
  power = t ∙ ap (λ (k : ℕ). 2 ^ k) (sym e);
  splits = rw t (record {
    some = pow_pos l;
    small = pow-le-pow_right {n = 2} (lit≤ tt) {i = l} {j = 5} (omega (arith, p.level, p.height));
    gap = p.lawful.gaps l p.level;
    least = rw double at p.limits.0;
    most = rw double at p.limits.1;
  });
  left = λ k i f a. planned k i f (rw t at a.1, rw t at a.2);
  right = λ k i f a. planned k (m - i) f (rw (← t) (omega (arith, a.3)), rw (← t) (omega (arith, a.4)));
}
  where
    e : suc l - 1 ≡ l
    e = omega arith

    t : n / 2 ≡ 2 ^ l
    t = omega (arith, p.segments, pow-succ' 2 l)

    planned : (k i : ℕ) → k ≡ n / 2 → Limits S l (suc l) i → Planned S (suc l - 1) k i
    planned k i f b = rw e (record {
      lawful = p.lawful;
      height = p.height;
      level = omega (arith, p.level);
      segments = f ∙ t;
      limits = inner S p.lawful l i p.level b;
    })

-- PLANS
module _ (S : Shares) (f l : ℕ) (ws : List ℕ) where
  plan-zero : l ≡ 0 → plan S l f ws ≡ length ws ∷ []
  unfolding plan
  plan-zero e = rw e

plan-up : (S : Shares) (f l : ℕ) (ws : List ℕ) (i : ℕ) → 1 ≤ l → i ≡ left_share S (l - 1) f ws
    → plan S l f ws ≡ plan S (l - 1) f (take i ws) ++ plan S (l - 1) 0 (drop i ws)
unfolding plan
plan-up S f zero ws i q e = absurd (omega arith)
plan-up S f (suc l) ws i q e = let d : suc l - 1 ≡ l = omega arith in rw (e, d)

-- the only slot is written
set-only : (xs : List ℕ) (v : ℕ) → length xs ≡ 1 → set xs 0 v ≡ v ∷ []
set-only [] v h = absurd (omega arith)
set-only (x ∷ []) v h = refl
set-only (x ∷ y ∷ xs) v h = absurd (omega arith)

-- both slots are
set_both : (xs : List ℕ) (v w : ℕ) → length xs ≡ 2 → set (set xs 0 v) 1 w ≡ v ∷ w ∷ []
set_both [] v w h = absurd (omega arith)
set_both (x ∷ xs) v w h = ap (λ (l : List ℕ). v ∷ l) (set-only xs w (omega arith))

module _ (S : Shares) (f l a m : ℕ) (ws : List ℕ) (long : a + m ≤ length ws) where
  -- a segment takes all
  pub plan-one : (counts : List ℕ) → l ≡ 0 → length counts ≡ 2 ^ l → set counts 0 m ≡ plan S l f (take m (drop a ws))
  plan-one counts e h =
      set-only counts m (h ∙ ap (λ (k : ℕ). 2 ^ k) e) ∙ ap (λ (k : ℕ). k ∷ []) (sym (length-stretch ws a m long))
      ∙ sym (plan-zero S f l (take m (drop a ws)) e)

  -- two segments take a half each
  pub plan-pair : (counts : List ℕ) (i : ℕ) → l ≡ 1 → length counts ≡ 2 ^ l → i ≤ m → i ≡ left_share S (l - 1) f (take m (drop a ws))
      → set (set counts 0 i) 1 (m - i) ≡ plan S l f (take m (drop a ws))
  plan-pair counts i e h q p =
      let z : l - 1 ≡ 0 = omega arith in
      let u : length (take i (take m (drop a ws))) ≡ i = ap length (first_part ws a m i q) ∙ length-stretch ws a i (omega arith) in
      let v : length (drop i (take m (drop a ws))) ≡ m - i = ap length (other-part ws a m i q) ∙ length-stretch ws (a + i) (m - i) (omega arith) in
      set_both counts i (m - i) (h ∙ ap (λ (k : ℕ). 2 ^ k) e) ∙ ap₂ (λ (j k : ℕ). j ∷ k ∷ []) (sym u) (sym v)
      ∙ sym (plan-up S f l (take m (drop a ws)) i (omega arith) p
      ∙ ap₂ (λ (x y : List ℕ). x ++ y) (plan-zero S f (l - 1) (take i (take m (drop a ws))) z) (plan-zero S 0 (l - 1) (drop i (take m (drop a ws))) z))

-- the plans of the halves
pub plan-two : (S : Shares) (f l a m : ℕ) (ws xs ys : List ℕ) (i : ℕ) → 1 ≤ l → i ≤ m → i ≡ left_share S (l - 1) f (take m (drop a ws))
    → xs ≡ plan S (l - 1) f (take i (drop a ws)) → ys ≡ plan S (l - 1) 0 (take (m - i) (drop (a + i) ws)) → xs ++ ys ≡ plan S l f (take m (drop a ws))
plan-two S f l a m ws xs ys i q h e p r =
    ap₂ (λ u v. u ++ v) (p ∙ ap (plan S (l - 1) f) (sym (first_part ws a m i h))) (r ∙ ap (plan S (l - 1) 0) (sym (other-part ws a m i h)))
    ∙ sym (plan-up S f l (take m (drop a ws)) i q e)
