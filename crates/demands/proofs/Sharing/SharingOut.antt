-- Sharing out: nothing is lost, and every window strictly inside keeps to the shares of its parent's level.
use mathlib.Core.Path.{◌≡◌, sym, ap, ap₂, ◌∙◌}
use mathlib.Core.Logic.{inl, inr}
use mathlib.Core.List.{List, ◌++◌, map}
use Prim.Native.Nat.{ℕ, zero, suc, ◌+◌, ◌-◌, ◌*◌, ◌/◌, ◌^◌, ◌≤◌, ◌<◌, min, max}
use native.Mathlib.Nat.{le_trans, le_refl, le_of_lt, mul-le-mul_left, eq-or-lt_of_le, not-suc-le-zero, pow-zero}
use native.Mathlib.Decide.{dec_lt}
use native.Mathlib.Omega.{arith}
use lib.Dec.{eqb}
use lib.ListN.{length, take, drop, length-append, length-map, length-drop}
use lib.Seq.{length-take-le}
use Rattle.lists.specs.Lists.{total}
use Rattle.lists.proofs.Tests.{either}
use Rattle.lists.proofs.Joined.{total-append, two-parts, joined-deal, counts-deal, length-deal}
use Rattle.slots.specs.Segments.{keys}
use Rattle.slots.specs.Windows.{window, count}
use Rattle.slots.proofs.Windows.{double, window-left, window-right, window-all}
use Rattle.slots.proofs.Counts.{count-window}
use Rattle.rules.specs.Shares.{Shares, Lawful}
use Rattle.rules.specs.SharingOut.{formula6, Fraction, less, least, left_share, plan, share_out}
use Rattle.rules.specs.Readings.{Limits}

-- the counts of a plan add up, one for each segment
pub total-plan : (S : Shares) (l f : ℕ) (ws : List ℕ) → total (plan S l f ws) ≡ length ws
unfolding plan
total-plan S zero f ws = omega arith
total-plan S (suc l) f ws = total-append (plan S l f (take i ws)) (plan S l 0 (drop i ws)) ∙ ap₂ ◌+◌ (total-plan S l f (take i ws)) (total-plan S l 0 (drop i ws)) ∙ two-parts i ws
  where
    i : ℕ
    i = left_share S l f ws

pub length-plan : (S : Shares) (l f : ℕ) (ws : List ℕ) → length (plan S l f ws) ≡ 2 ^ l
unfolding plan
length-plan S zero f ws = sym (pow-zero 2)
length-plan S (suc l) f ws =
    length-append (plan S l f (take i ws)) (plan S l 0 (drop i ws))
    ∙ ap₂ ◌+◌ (length-plan S l f (take i ws)) (length-plan S l 0 (drop i ws)) ∙ omega arith
  where
    i : ℕ
    i = left_share S l f ws

module _ (S : Shares) (w : ℕ → ℕ) (f l : ℕ) (ks : List ℕ) where
  whole : length ks ≡ total (plan S l f (map w ks))
  whole = sym (total-plan S l f (map w ks) ∙ length-map ks w)

  pub keys-share_out : keys (share_out S w f l ks) ≡ ks
  unfolding share_out
  keys-share_out = joined-deal (plan S l f (map w ks)) ks whole

  pub counts-share_out : map length (share_out S w f l ks) ≡ plan S l f (map w ks)
  unfolding share_out
  counts-share_out = counts-deal (plan S l f (map w ks)) ks whole

  pub length-share_out : length (share_out S w f l ks) ≡ 2 ^ l
  unfolding share_out
  length-share_out = length-deal (plan S l f (map w ks)) ks ∙ length-plan S l f (map w ks)

-- the choice is among its candidates
pub least-from : (d : ℕ → Fraction) (i n : ℕ) → (i ≤ least d i n) × (least d i n ≤ i + n)
least-from d i zero = omega arith
least-from d i (suc n) =
    either (λ (k : ℕ). (i ≤ k) × (k ≤ i + suc n)) (less (d (i + suc n)) (d (least d i n))) (omega arith) (omega (arith, least-from d i n))

-- between 2a and 2b keys have a split with a to b on each side, and those tried have
abbrev Fit : ℕ → ℕ → ℕ → ℕ → Type 0
Fit a b m i = ((a ≤ i) × (i ≤ b)) × ((a ≤ m - i) × (m - i ≤ b)) × (i ≤ m)

even-fits : (a b m : ℕ) → 2 * a ≤ m → m ≤ 2 * b → Fit a b m ((m + 1) / 2)
even-fits a b m h k = omega arith

least_fits : (a b m i : ℕ) → a ≤ b → 2 * a ≤ m → m ≤ 2 * b → max a (m - b) ≤ i → i ≤ max a (m - b) + (min b (m - a) - max a (m - b)) → Fit a b m i
least_fits a b m i h₁ h₂ h₃ h₄ h₅ = omega arith

module _ (S : Shares) (L : Lawful S) where
  -- the shares of a level against those of the whole array
  apart : (n l : ℕ) → l + n ≡ S.height → (S.low l ≤ S.low S.height) × (S.high S.height ≤ S.high l)
  apart zero l e = rw p (le_refl _, le_refl _)
    where
      p : l ≡ S.height
      p = omega arith
  apart (suc n) l e = omega (arith, L.rises l (omega arith), L.falls l (omega arith), apart n (suc l) (omega arith))

  -- at each level the low share doubled is below the high share
  pub fair : (l : ℕ) → l ≤ S.height → 2 * S.low l < S.high l
  fair l h = omega (arith, apart (S.height - l) l (omega arith), L.doubled)

  -- what the left half takes, and what is left for the right half
  pub left-fits : (l f : ℕ) (ws : List ℕ) → l < S.height → Limits S (suc l) (suc l) (length ws)
      → Limits S l (suc l) (left_share S l f ws) × Limits S l (suc l) (length ws - left_share S l f ws) × (left_share S l f ws ≤ length ws)
  unfolding left_share
  left-fits l f ws h k =
      either (Fit a b (length ws)) (eqb (f + total ws) 0) (even-fits a b (length ws) lo hi)
      (least_fits a b (length ws) _ (mul-le-mul_left (2 ^ l) (omega (arith, fair (suc l) h))) lo hi
      (least-from (formula6 (64 * 2 ^ l) f ws) (max a (length ws - b)) (min b (length ws - a) - max a (length ws - b))).0
      (least-from (formula6 (64 * 2 ^ l) f ws) (max a (length ws - b)) (min b (length ws - a) - max a (length ws - b))).1)
    where
      a : ℕ
      a = 2 ^ l * S.low (suc l)

      b : ℕ
      b = 2 ^ l * S.high (suc l)

      lo : 2 * a ≤ length ws
      lo = rw double at k.0

      hi : length ws ≤ 2 * b
      hi = rw double at k.1

  -- a half, held to its parent's level, is within its own limits
  pub inner : (l c : ℕ) → l < S.height → Limits S l (suc l) c → Limits S l l c
  inner l c h k =
      (le_trans (mul-le-mul_left (2 ^ l) (le_of_lt (L.rises l h))) k.0, le_trans k.1 (mul-le-mul_left (2 ^ l) (le_of_lt (L.falls l h))))

  -- every window strictly inside one of level l keeps to the shares of its parent's level
  abbrev pub Inside : ℕ → List ℕ → Type 0
  Inside l ns = (j s : ℕ) → j < l → s < 2 ^ l → Limits S j (suc j) (total (window j s ns))

  one-half : (l : ℕ) (p : List ℕ) → length p ≡ 2 ^ l → Limits S l (suc l) (total p) → Inside l p
      → (j s : ℕ) → j ≤ l → s < 2 ^ l → Limits S j (suc j) (total (window j s p))
  one-half l p e k ih j s hj hs =
      elim (eq-or-lt_of_le hj) [
        | inl q ↦ rw q (rw (window-all l s p hs e) k)
        | inr q ↦ ih j s q hs
      ]

  two-halves : (l : ℕ) (p q : List ℕ) → length p ≡ 2 ^ l → length q ≡ 2 ^ l → Limits S l (suc l) (total p) → Limits S l (suc l) (total q)
      → Inside l p → Inside l q → Inside (suc l) (p ++ q)
  two-halves l p q ep eq kp kq ihp ihq j s hj hs =
      elim (dec_lt s (2 ^ l)) [
        | yes y ↦ rw (window-left j l s p q (omega arith) y ep) (one-half l p ep kp ihp j s (omega arith) y)
        | no n ↦
            let e : s ≡ 2 ^ l + (s - 2 ^ l) = omega arith in
            rw (ap (λ (t : ℕ). window j t (p ++ q)) e ∙ window-right j l (s - 2 ^ l) p q (omega arith) ep)
            (one-half l q eq kq ihq j (s - 2 ^ l) (omega arith) (omega arith))
      ]

  -- a plan keeps to them, from a window within its limits
  pub inside : (l f : ℕ) (ws : List ℕ) → l ≤ S.height → Limits S l l (length ws) → Inside l (plan S l f ws)
  unfolding plan
  inside zero f ws h k = λ j s hj hs. absurd (not-suc-le-zero hj)
  inside (suc l) f ws h k =
      two-halves l (plan S l f (take i ws)) (plan S l 0 (drop i ws)) (length-plan S l f (take i ws)) (length-plan S l 0 (drop i ws))
      (rw (total-plan S l f (take i ws)) a) (rw (total-plan S l 0 (drop i ws)) b)
      (inside l f (take i ws) (omega arith) (inner l _ h a)) (inside l 0 (drop i ws) (omega arith) (inner l _ h b))
    where
      i : ℕ
      i = left_share S l f ws

      a : Limits S l (suc l) (length (take i ws))
      a = rw (length-take-le i ws (left-fits l f ws h k).2) (left-fits l f ws h k).0

      b : Limits S l (suc l) (length (drop i ws))
      b = rw (length-drop i ws) (left-fits l f ws h k).1

  -- the same of the segments of a window that is shared out
  pub inside-share_out : (w : ℕ → ℕ) (f l : ℕ) (ks : List ℕ) → l ≤ S.height → Limits S l l (length ks)
      → (j s : ℕ) → j < l → s < 2 ^ l → Limits S j (suc j) (count j s (share_out S w f l ks))
  inside-share_out w f l ks h k j s hj hs =
      rw (count-window j s (share_out S w f l ks) ∙ ap (λ (ns : List ℕ). total (window j s ns)) (counts-share_out S w f l ks))
      (inside l f (map w ks) h (rw (length-map ks w) k) j s hj hs)
