-- The last segment whose bound is below a key is where a search for the key ends.
use mathlib.Core.Path.{◌≡◌, refl, sym, ap, ◌∙◌, subst}
use mathlib.Core.Bool.{Bool, true, false, not}
use mathlib.Core.Logic.{◌⊎◌, inl, inr, ◌≢◌}
use mathlib.Core.List.{List}
use Prim.Native.Nat.{ℕ, suc, ◌+◌, ◌-◌, ◌≤◌, ◌<◌}
use native.Mathlib.Decide.{dec_lt}
use native.Mathlib.Omega.{arith}
use lib.Dec.{T, ltb, ltb→lt, lt→ltb, nltb→le}
use borrow.Author.Tests.{ne_eqb, eq-eqb}
use lib.ListN.{length, take, drop, get_or, length-take, length-drop}
use lib.Seq.{get_or-take, get_or-drop}
use Rattle.std.specs.List.Sorted.{IsPartitionedBy, IsPartitionPoint}
use Rattle.std.proofs.lemmas.List.{get_or_default}
use Rattle.lists.proofs.Tests.{is_true}
use Rattle.slots.specs.Segments.{Segments}
use Rattle.slots.specs.Keys.{Listed}
use Rattle.slots.specs.Shown.{seat}
use Rattle.slots.proofs.Seats.{head, seat-is}
use Rattle.seats.specs.Bounds.{top, bound_at, Bounded}
use Rattle.seats.specs.Halves.{bound_below, Last}
use Rattle.seats.proofs.Bounds.{bound-past, bound-step, bound-falls}

module _ (key : ℕ) (ss : Segments) (bounds : List ℕ) (fits : key ≤ top) (listed : Listed ss) (few : length ss ≤ 64) (bounded : Bounded 1 ss bounds) where
  abbrev t : ℕ → Bool
  t = bound_below bounds key

  passes : (i : ℕ) → 0 < i → i < 64 → bound_at ss i < key → T (t i)
  passes i p h l = lt→ltb (get_or bounds i 0) key (rw (bounded.each i p h) l)

  is_below : (i : ℕ) → 0 < i → i < 64 → T (t i) → bound_at ss i < key
  is_below i p h u = rw (bounded.each i p h) at (ltb→lt (get_or bounds i 0) key u)

  -- the bounds after the first, which are parted by the key
  abbrev pub part : List ℕ
  part = take 63 (drop 1 bounds)

  part-long : length part ≡ 63
  part-long = omega (arith, bounded.long, length-take 63 (drop 1 bounds), length-drop 1 bounds)

  part-at : (k : ℕ) → 0 < k → k < 64 → get_or part (k - 1) 0 ≡ get_or bounds k 0
  part-at k p h =
      let e : 1 + (k - 1) ≡ k = omega arith in
      get_or-take 63 (drop 1 bounds) (k - 1) 0 (omega arith) ∙ get_or-drop 1 bounds (k - 1) 0 ∙ ap (λ (i : ℕ). get_or bounds i 0) e

  -- a later one is below the key only where an earlier one is
  pub parted : IsPartitionedBy (λ y. ltb y key) part
  parted i j d l h u =
      let below : T (t (j + 1)) = subst (λ (x : ℕ). T (ltb x key)) (at j h) (rw u tt) in
      let n : j < 63 = omega (arith, part-long) in
      ap (λ (x : ℕ). ltb x key) (at i (omega arith))
      ∙ is_true (t (i + 1)) (passes (i + 1) (omega arith) (omega arith) (bound-falls key ss fits listed (i + 1) (j + 1) (omega arith) (is_below (j + 1) (omega arith) (omega arith) below)))
    where
      at : (k : ℕ) → k < length part → get_or part k d ≡ get_or bounds (k + 1) 0
      at k h =
          let e : k + 1 - 1 ≡ k = omega arith in
          get_or_default part k d 0 h ∙ ap (λ (i : ℕ). get_or part i 0) (sym e) ∙ part-at (k + 1) (omega arith) (omega (arith, part-long))

  module _ (r : ℕ) (w : IsPartitionPoint (λ y. ltb y key ≡ true) (λ y. ltb y key ≡ false) part r) (inside : r ≤ length part) where
    last : Last t 0 r
    last = record {
      from = omega arith;
      to = omega (arith, part-long);
      low = elim (dec_lt 0 r) [
        | yes h ↦ inr (subst (λ (x : ℕ). T (ltb x key)) (part-at r h (omega (arith, part-long))) (rw (w.0 (r - 1) 0 (omega arith) (omega arith)) tt))
        | no h ↦ inl (omega arith)
      ];
      high = λ k l h. subst (λ (x : ℕ). T (not (ltb x key))) (part-at k (omega arith) (omega arith)) (rw (w.1 (k - 1) 0 (omega arith) (omega (arith, part-long))) tt);
    }

    -- the bounds after it are not below the key
    beyond : (k : ℕ) → r < k → key ≤ bound_at ss k
    beyond k l =
        elim (dec_lt k 64) [
          | yes h ↦ rw (bounded.each k (omega arith) h) at (nltb→le (get_or bounds k 0) key (last.high k l (omega arith)))
          | no h ↦ omega (arith, bound-past ss k (omega arith))
        ]

    -- a segment with keys has its own bound, and an empty one the next one's
    own : (k : ℕ) → head ss k ≢ 0 → bound_at ss k ≡ head ss k - 1
    own k n = bound-step ss k listed.live ∙ rw (ne_eqb (head ss k) 0 n) refl

    next : (k : ℕ) → head ss k ≡ 0 → bound_at ss k ≡ bound_at ss (suc k)
    next k e = bound-step ss k listed.live ∙ rw (eq-eqb (head ss k) 0 e) refl

    low : (r ≡ 0) ⊎ ((head ss r ≢ 0) × (head ss r ≤ key))
    low =
        elim last.low [
          | inl e ↦ inl e
          | inr p ↦
              elim (dec_lt 0 r) [
                | yes h ↦ inr (keyed (is_below r h (omega (arith, last.to)) p))
                | no h ↦ inl (omega arith)
              ]
        ]
      where
        some : bound_at ss r < key → head ss r ≢ 0
        some b e = absurd (omega (arith, next r e, beyond (suc r) (omega arith)))

        keyed : bound_at ss r < key → (head ss r ≢ 0) × (head ss r ≤ key)
        keyed b = (some b, omega (arith, own r (some b)))

    high : (k : ℕ) → r < k → head ss k ≢ 0 → key < head ss k
    high k l n = omega (arith, own k n, beyond k l)

    pub seat-last : r ≡ seat key ss
    seat-last = seat-is key ss listed r low high
