-- The slots of one segment: keys first, gaps after them.
use mathlib.Core.Path.{◌≡◌, refl, sym, ap, ap₂, ◌∙◌}
use mathlib.Core.List.{List, [], ◌∷◌, ◌++◌, append-nil}
use Prim.Native.Nat.{ℕ, zero, suc, ◌-◌, ◌≤◌, ◌<◌}
use native.Mathlib.Nat.{sub-zero, suc-sub-suc, suc-ne-zero}
use native.Mathlib.Decide.{dec_lt}
use native.Mathlib.Omega.{arith}
use borrow.Author.Tests.{ne_eqb}
use lib.ListN.{length, take, replicate, length-take, get_or-eq_default}
use lib.Seq.{get_or-take}
use Rattle.lists.specs.Lists.{All, padded}
use Rattle.lists.proofs.Tests.{ne→neqb}
use Rattle.lists.proofs.Members.{at_mem}
use Rattle.lists.proofs.Filtered.{only-append, only-all}
use Rattle.slots.specs.Segments.{is_key, live, pad}
use Rattle.slots.specs.Orders.{slot_at}
use Rattle.slots.proofs.Orders.{Solid}

-- slots that are all gaps have no keys
all-gaps : (xs : List ℕ) → ((i : ℕ) → slot_at xs i ≡ 0) → (live xs ≡ []) × (replicate (length xs) 0 ≡ xs)
all-gaps [] h = (refl, refl)
all-gaps (x ∷ xs) h = go x (h 0) (all-gaps xs (λ i. h (suc i)))
  where
    go : (x : ℕ) → x ≡ 0 → (live xs ≡ []) × (replicate (length xs) 0 ≡ xs) → (live (x ∷ xs) ≡ []) × (0 ∷ replicate (length xs) 0 ≡ x ∷ xs)
    go zero e r = (r.0, ap {B = List ℕ} (λ r. 0 ∷ r) r.1)
    go (suc x) e r = absurd (suc-ne-zero x e)

-- slots with only gaps after a gap are their keys, then gaps
filled : (xs : List ℕ) → ((i j : ℕ) → i < j → slot_at xs i ≡ 0 → slot_at xs j ≡ 0) → live xs ++ replicate (length xs - length (live xs)) 0 ≡ xs
filled [] h = refl
filled (x ∷ xs) h = go x h (filled xs (λ i j l. h (suc i) (suc j) (omega arith)))
  where
    go : (x : ℕ) → ((i j : ℕ) → i < j → slot_at (x ∷ xs) i ≡ 0 → slot_at (x ∷ xs) j ≡ 0) → live xs ++ replicate (length xs - length (live xs)) 0 ≡ xs
        → live (x ∷ xs) ++ replicate (suc (length xs) - length (live (x ∷ xs))) 0 ≡ x ∷ xs
    go zero h r =
        let g = all-gaps xs (λ i. h 0 (suc i) (omega arith) refl) in
        rw (g.0, sub-zero) (ap {B = List ℕ} (λ r. 0 ∷ r) g.1)
    go (suc x) h r = rw (ne_eqb (suc x) 0 (suc-ne-zero x), suc-sub-suc) (ap {B = List ℕ} (λ r. suc x ∷ r) r)

-- so a segment's slots are its keys, filled up
pub pad-live : (c : List ℕ) → length c ≡ 64 → ((i j : ℕ) → i < j → slot_at c i ≡ 0 → slot_at c j ≡ 0) → pad 0 (live c) ≡ c
unfolding padded
pad-live c e h = ap (λ (n : ℕ). live c ++ replicate (n - length (live c)) 0) (sym e) ∙ filled c h

live-gaps : (n : ℕ) → live (replicate n 0) ≡ []
live-gaps zero = refl
live-gaps (suc n) = live-gaps n

-- and keys that are filled up are the keys of their slots
pub live-pad : (ks : List ℕ) → All (λ k. 0 < k) ks → live (pad 0 ks) ≡ ks
unfolding padded
live-pad ks h =
    only-append is_key ks (replicate (64 - length ks) 0)
    ∙ ap₂ {C = List ℕ} ◌++◌ (only-all is_key ks (λ k m. ne→neqb k 0 (omega (arith, h k m)))) (live-gaps (64 - length ks)) ∙ append-nil ks

-- in the first segment of solid slots, keys stand first
pub solid-take : (xs : List ℕ) → Solid xs → (i j : ℕ) → i < j → slot_at (take 64 xs) i ≡ 0 → slot_at (take 64 xs) j ≡ 0
solid-take xs s i j l =
    elim (dec_lt j 64) [
      | yes p ↦ rw (get_or-take 64 xs i 0 (omega arith), get_or-take 64 xs j 0 p) (s i j l (omega arith))
      | no p ↦ λ e. get_or-eq_default (take 64 xs) 0 (omega (arith, length-take 64 xs))
    ]

-- a gap in a segment is past its keys
pub past-keys : (s : List ℕ) (b : ℕ) → All (λ k. 0 < k) s → slot_at s b ≡ 0 → length s ≤ b
past-keys s b h e = elim (dec_lt b (length s)) [ yes l ↦ absurd (omega (arith, h (slot_at s b) (at_mem s b 0 l))) | no l ↦ omega arith ]
