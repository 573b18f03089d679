-- The split of a window within its limits: the numbers tried, and the rules' share from what was found.
use mathlib.Core.Path.{◌≡◌, sym, ap, ◌∙◌}
use mathlib.Core.Logic.{◌≢◌}
use mathlib.Core.List.{List}
use Prim.Native.Nat.{ℕ, suc, ◌+◌, ◌-◌, ◌*◌, ◌/◌, ◌^◌, ◌≤◌, min, max}
use native.Mathlib.Nat.{mul-le-mul_left}
use native.Mathlib.Omega.{arith}
use lib.ListN.{length}
use Rattle.lists.specs.Lists.{total}
use Rattle.rules.specs.Shares.{Shares}
use Rattle.rules.specs.SharingOut.{formula6, least, left_share}
use Rattle.demands.proofs.Sharing.Splits.{share-even, share-least}
use Rattle.planning.specs.Plans.{Splits}
use Rattle.stretches.specs.Tries.{Halves}

module _ (half low high m : ℕ) where
  -- the numbers tried
  abbrev pub first : ℕ
  first = max (half * low) (m - half * high)

  abbrev pub last : ℕ
  last = min (half * high) (m - half * low)

  -- what a split promises of its result
  abbrev pub Ranged : ℕ → Type 0
  Ranged r = (r ≤ m) × (half * low ≤ r) × (r ≤ half * high) × (half * low + r ≤ m) × (m ≤ half * high + r)

  module _ (s : Splits half low high m) where
    pub tops : half * high ≤ half * 63
    tops = mul-le-mul_left half (omega arith)

    pub tried : Halves (64 * half) m first last
    tried = omega (arith, tops)

    pub even-ranged : Ranged ((m + 1) / 2)
    even-ranged = omega arith

    pub scan-ranged : (r : ℕ) → first ≤ r → r ≤ last → Ranged r
    scan-ranged r p q = omega arith

  -- the numbers from f to t are those tried, with the sizes and shares of a window of level l + 1
  pub record Tried (S : Shares) (l f t : ℕ) : Type 0 where
    pub from : f ≡ first
    pub to : t ≡ last
    pub size : half ≡ 2 ^ l
    pub least-is : low ≡ S.low (suc l)
    pub most-is : high ≡ S.high (suc l)

  -- the rules' share, with no weight and with some
  module _ (S : Shares) (l front : ℕ) (ws : List ℕ) (long : length ws ≡ m) where
    pub even_is : front + total ws ≡ 0 → (m + 1) / 2 ≡ left_share S l front ws
    even_is e = sym (share-even S l front ws e ∙ ap (λ (n : ℕ). (n + 1) / 2) long)

    pub scan-is : (r f t : ℕ) → Tried S l f t → front + total ws ≢ 0 → r ≡ least (formula6 (64 * half) front ws) f (t - f) → r ≡ left_share S l front ws
    scan-is r f t x n e = e ∙ rw (x.from, x.to, x.size, x.least-is, x.most-is, ← long) (sym (share-least S l front ws n))
