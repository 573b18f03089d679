-- Where a search ends: the segment of a key or of its predecessor, known by the first keys of the segments.
use mathlib.Core.Path.{◌≡◌, refl, sym, ap, ◌∙◌}
use mathlib.Core.Bool.{not}
use mathlib.Core.Logic.{◌⊎◌, inl, inr, ◌≢◌}
use mathlib.Core.List.Memᴰ.{head as here}
use mathlib.Core.List.Memᴰ.{not-nil as nowhere}
use mathlib.Core.List.{List, [], ◌∷◌, Memᴰ as Mem}
use Prim.Native.Nat.{ℕ, zero, suc, ◌-◌, ◌≤◌, ◌<◌}
use native.Mathlib.Decide.{dec_lt}
use native.Mathlib.Omega.{arith}
use lib.Dec.{T, ltb, eqb}
use borrow.Author.Tests.{ne_eqb, eq-eqb}
use lib.ListN.{length, drop, get_or}
use Rattle.std.proofs.Common.{if◌then◌else◌}
use Rattle.lists.specs.Lists.{All}
use Rattle.lists.proofs.Tests.{same_test, tested, is_true, is_false}
use Rattle.lists.proofs.Members.{mem-at, at_mem}
use Rattle.lists.proofs.Filtered.{only-length}
use Rattle.slots.specs.Segments.{Segments, keys}
use Rattle.slots.specs.Keys.{Rising, Listed, member, below, predecessor, segment_of}
use Rattle.slots.specs.Shown.{seat}
use Rattle.slots.proofs.Keys.{Between, member→mem, mem→member, not-member, pred-mem, pred-most, segment-front, segment-mem, in-part, rising_part, live-between, home-between}
use Rattle.slots.proofs.Halving.{rising-at, place-below, below-place, place_of}

-- the first key of segment k; 0 where it is empty
abbrev pub head : Segments → ℕ → ℕ
head ss k = get_or (get_or ss k []) 0 0

-- THE TWO CASES
pub seat-live : (y : ℕ) (ss : Segments) → T (member y (keys ss)) → seat y ss ≡ segment_of ss y
unfolding seat
seat-live y ss t = rw (is_true (member y (keys ss)) t) refl

pub seat-free : (y : ℕ) (ss : Segments) → T (not (member y (keys ss))) → seat y ss ≡ segment_of ss (predecessor y ss)
unfolding seat
seat-free y ss t = rw (is_false (member y (keys ss)) t) refl

-- THE FIRST KEYS
-- a first slot that is not 0 is a key of the segment
some_key : (s : List ℕ) → get_or s 0 0 ≢ 0 → Mem (get_or s 0 0) s
some_key [] h = absurd (h refl)
some_key (k ∷ s) h = here refl

-- it is the least of its segment
least : (s : List ℕ) → Rising s → (k : ℕ) → Mem k s → get_or s 0 0 ≤ k
least s r k m = go (mem-at k s 0 m)
  where
    go : (t : ℕ) × (t < length s) × (get_or s t 0 ≡ k) → get_or s 0 0 ≤ k
    go q = elim (dec_lt 0 q.0) [
      | yes h ↦ omega (arith, rising-at s r 0 q.0 h q.1, q.2)
      | no h ↦ let e : q.0 ≡ 0 = omega arith in omega (arith, ap (λ (t : ℕ). get_or s t 0) e, q.2)
    ]

-- a key of segment t is among the keys after an earlier segment s
later : (ss : Segments) (s t : ℕ) → s < t → t < length ss → (k : ℕ) → Mem k (get_or ss t []) → Mem k (keys (drop (suc s) ss))
later [] s t l h k m = absurd (omega arith)
later (x ∷ ss) s zero l h k m = absurd (omega arith)
later (x ∷ ss) zero (suc t) l h k m = in-part ss t (omega arith) k m
later (x ∷ ss) (suc s) (suc t) l h k m = later ss s t (omega arith) (omega arith) k m

-- a segment past the last has no key
within : (ss : Segments) (k x : ℕ) → Mem x (get_or ss k []) → k < length ss
within [] k x m = absurd (nowhere m)
within (s ∷ ss) zero x m = omega arith
within (s ∷ ss) (suc k) x m = omega (arith, within ss k x m)

-- THE SEAT is the last segment that begins with a key up to y, and the first segment where there is none
module _ (y : ℕ) (ss : Segments) (listed : Listed ss) (r : ℕ) (low : (r ≡ 0) ⊎ ((head ss r ≢ 0) × (head ss r ≤ y))) (high : (k : ℕ) → r < k → head ss k ≢ 0 → y < head ss k) where
  -- its first key is live, if it is not the first segment
  first_live : (head ss r ≢ 0) → Mem (head ss r) (get_or ss r []) × (r < length ss) × Mem (head ss r) (keys ss)
  first_live n =
      let m = some_key (get_or ss r []) n in
      let h = within ss r (head ss r) m in
      (m, h, in-part ss r h (head ss r) m)

  at_key : (x : ℕ) → Mem x (keys ss) → x ≤ y → All (λ k. k ≤ y → k ≤ x) (keys ss) → r ≡ segment_of ss x
  at_key x m p most = omega (arith, no_less, no_more low)
    where
      s : ℕ
      s = segment_of ss x

      at : (s < length ss) × Mem x (get_or ss s [])
      at = segment-mem ss x (listed.live x m) m

      begins : (head ss s ≢ 0) × (head ss s ≤ x)
      begins =
          let t = mem-at x (get_or ss s []) 0 at.1 in
          let m' = in-part ss s at.0 (head ss s) (at_mem (get_or ss s []) 0 0 (omega (arith, t.1))) in
          (omega (arith, listed.live (head ss s) m'), least (get_or ss s []) (rising_part ss s at.0 listed.rising) x at.1)

      no_less : s ≤ r
      no_less = elim (dec_lt r s) [
        | yes h ↦ absurd (omega (arith, high s h begins.0, begins.1))
        | no h ↦ omega arith
      ]

      no_more : (r ≡ 0) ⊎ ((head ss r ≢ 0) × (head ss r ≤ y)) → r ≤ s
      no_more (inl e) = omega arith
      no_more (inr q) = elim (dec_lt s r) [
        | yes h ↦
            let f = first_live q.0 in
            absurd (omega (arith, (live-between x ss listed m).2 (head ss r) (later ss s r h f.1 (head ss r) f.0), most (head ss r) f.2 q.1))
        | no h ↦ omega arith
      ]

  at_front : All (λ k. k ≤ y → k ≤ 0) (keys ss) → r ≡ 0
  at_front none = elim low [
    | inl e ↦ e
    | inr q ↦ let f = first_live q.0 in absurd (omega (arith, none (head ss r) f.2 q.1, q.0))
  ]

  pub seat-is : r ≡ seat y ss
  seat-is = elim (tested (member y (keys ss))) [
    | inl t ↦ at_key y (member→mem y (keys ss) t) (omega arith) (λ k m l. l) ∙ sym (seat-live y ss t)
    | inr t ↦ go (not-member y (keys ss) t) (pred-mem y ss) ∙ sym (seat-free y ss t)
  ]
    where
      most : All (λ k. k ≢ y) (keys ss) → All (λ k. k ≤ y → k ≤ predecessor y ss) (keys ss)
      most n k m l = pred-most y ss k m (omega (arith, n k m))

      go : All (λ k. k ≢ y) (keys ss) → (predecessor y ss ≡ 0) ⊎ ((predecessor y ss < y) × Mem (predecessor y ss) (keys ss)) → r ≡ segment_of ss (predecessor y ss)
      go n (inl e) = at_front (λ k m l. omega (arith, most n k m l)) ∙ sym (ap (segment_of ss) e ∙ segment-front ss)
      go n (inr q) = at_key (predecessor y ss) q.1 (omega (arith, q.0)) (most n)

-- WHAT STANDS THERE
-- every key before the seat is below y, and every key after it is above
pub seat-between : (y : ℕ) (ss : Segments) → Listed ss → 0 < length ss → Between y ss (seat y ss)
seat-between y ss listed h =
    elim (tested (member y (keys ss))) [
      | inl t ↦ rw (seat-live y ss t) (live-between y ss listed (member→mem y (keys ss) t))
      | inr t ↦ rw (seat-free y ss t) (home-between y ss listed h (not-member y (keys ss) t))
    ]

-- y is live where it is in that segment, and there only
pub seat-member : (y : ℕ) (ss : Segments) → Listed ss → 0 < length ss → member y (get_or ss (seat y ss) []) ≡ member y (keys ss)
seat-member y ss listed h =
    same_test (member y (get_or ss (seat y ss) [])) (member y (keys ss))
    (λ t. mem→member y (keys ss) (in-part ss (seat y ss) (seat-between y ss listed h).0 y (member→mem y (get_or ss (seat y ss) []) t)))
    (λ t. let m = member→mem y (keys ss) t in
    mem→member y (get_or ss (seat y ss) []) (rw (seat-live y ss t) (segment-mem ss y (listed.live y m) m).1))

-- THE PREDECESSOR is the key before y's place there; the front where that is the segment's first place
module _ (y : ℕ) (ss : Segments) (listed : Listed ss) (some : 0 < length ss) (t : T (not (member y (keys ss)))) where
  abbrev there : List ℕ
  there = get_or ss (seat y ss) []

  abbrev at : ℕ
  at = length (below y there)

  rises : Rising there
  rises = rising_part ss (seat y ss) (seat-between y ss listed some).0 listed.rising

  -- a key below y's place is live, and up to the predecessor
  before_at : (i : ℕ) → i < at → (0 < get_or there i 0) × (get_or there i 0 ≤ predecessor y ss)
  before_at i h =
      let m = in-part ss (seat y ss) (seat-between y ss listed some).0 (get_or there i 0) (at_mem there i 0 (omega (arith, only-length (λ k. ltb k y) there))) in
      (listed.live (get_or there i 0) m, pred-most y ss (get_or there i 0) m (place-below y there rises i h))

  pub pred-at : predecessor y ss ≡ (if eqb (length (below y (get_or ss (seat y ss) []))) 0 then 0 else get_or (get_or ss (seat y ss) []) (length (below y (get_or ss (seat y ss) [])) - 1) 0)
  pred-at = go (pred-mem y ss)
    where
      go : (predecessor y ss ≡ 0) ⊎ ((predecessor y ss < y) × Mem (predecessor y ss) (keys ss)) → predecessor y ss ≡ (if eqb at 0 then 0 else get_or there (at - 1) 0)
      go (inl e) =
          let z : at ≡ 0 = elim (dec_lt 0 at) [ yes h ↦ absurd (omega (arith, before_at 0 h)) | no h ↦ omega arith ] in
          rw (eq-eqb at 0 z) e
      go (inr q) =
          let x : ℕ = predecessor y ss in
          let m : Mem x there = rw (seat-free y ss t) (segment-mem ss x (listed.live x q.1) q.1).1 in
          let i : ℕ = length (below x there) in
          let p = place_of x there rises m in
          let l : i < at = below-place y there rises i p.0 (omega (arith, p.1, q.0)) in
          let n : i ≡ at - 1 =
          elim (dec_lt i (at - 1)) [
            | yes h ↦ absurd (omega (arith, rising-at there rises i (at - 1) h (omega (arith, only-length (λ k. ltb k y) there)), (before_at (at - 1) (omega arith)).1, p.1))
            | no h ↦ omega arith
          ] in
          rw (ne_eqb at 0 (omega arith)) (sym p.1 ∙ ap (λ (k : ℕ). get_or there k 0) n)
