-- Heights: 64 × 2^h slots have height h, no other number of slots has one, and none has two.
use mathlib.Core.Path.{◌≡◌, refl}
use mathlib.Core.Logic.{◌⊎◌, inl, inr, ◌≢◌}
use mathlib.Core.Option.{Option, none, some, get_or}
use Prim.Native.Nat.{ℕ, zero, suc, ◌*◌, ◌^◌, ◌≤◌, ◌<◌}
use native.Mathlib.Nat.{pow-le-pow_right, two-pow-succ, one-le-pow}
use native.Mathlib.Decide.{dec_lt}
use native.Mathlib.Omega.{arith}
use lib.Dec.{eqb, eqb→eq}
use Rattle.lists.specs.Search.{first}
use Rattle.lists.proofs.Tests.{neqb→ne}
use Rattle.lists.proofs.Computed.{below_at}
use Rattle.lists.proofs.Search.{Firsts, firsts}
use Rattle.slots.specs.Segments.{height_of}

-- the heights end at 6, and begin at 1
too-high : height_of (64 * 2 ^ 7) ≡ 0
unfolding height_of
too-high = refl

too-low : height_of 64 ≡ 0
unfolding height_of
too-low = refl

-- 64 × 2^h slots have height h
pub height-is : (h : ℕ) → 1 ≤ h → h ≤ 6 → height_of (64 * 2 ^ h) ≡ h
unfolding height_of
height-is zero p q = absurd (omega arith)
height-is (suc k) p q = eqb→eq _ _ (below_at 6 (λ k. eqb (height_of (64 * 2 ^ suc k)) (suc k)) tt k (omega arith))

-- a height from 1 to 6 is that of the number of slots; height 0 says that the number has none
pub height-cases : (n : ℕ) → ((height_of n ≡ 0) × ((h : ℕ) → 1 ≤ h → h ≤ 6 → n ≢ 64 * 2 ^ h)) ⊎ ((1 ≤ height_of n) × (height_of n ≤ 6) × (n ≡ 64 * 2 ^ height_of n))
unfolding height_of
height-cases n = go (first (λ h. eqb n (64 * 2 ^ h)) 1 6) (firsts (λ h. eqb n (64 * 2 ^ h)) 1 6)
  where
    go : (r : Option ℕ) → Firsts (λ h. eqb n (64 * 2 ^ h)) 1 6 r
        → ((get_or r 0 ≡ 0) × ((h : ℕ) → 1 ≤ h → h ≤ 6 → n ≢ 64 * 2 ^ h)) ⊎ ((1 ≤ get_or r 0) × (get_or r 0 ≤ 6) × (n ≡ 64 * 2 ^ get_or r 0))
    go none f = inl (refl, λ h p q. neqb→ne n (64 * 2 ^ h) (f h p (omega arith)))
    go (some h) f = inr (f.0.0, omega arith, eqb→eq n (64 * 2 ^ h) f.0.1)

-- no number of slots has two heights
pub height-one : (n a b : ℕ) → n ≡ 64 * 2 ^ a → n ≡ 64 * 2 ^ b → a ≡ b
height-one n a b p q =
    elim (dec_lt a b) [
      | yes l ↦ absurd (omega (arith, more a b l))
      | no l ↦ elim (dec_lt b a) [ yes m ↦ absurd (omega (arith, more b a m)) | no m ↦ omega arith ]
    ]
  where
    more : (c d : ℕ) → c < d → 2 ^ c < 2 ^ d
    more c d l = omega (arith, pow-le-pow_right {n = 2} (omega arith) {i = suc c} {j = d} l, two-pow-succ c, one-le-pow c 2 (omega arith))
