-- Row 4: a forecast has a fault exactly where a single cell, beside the single slots, is bad.
use mathlib.Core.Path.{◌≡◌, sym, ap, subst, ◌∙◌}
use mathlib.Core.Bool.{not}
use mathlib.Core.Logic.{inl, inr, ◌≢◌}
use mathlib.Core.List.{List, Memᴰ as Mem}
use Prim.Native.Nat.{ℕ, ◌+◌, ◌/◌, ◌^◌, ◌≤◌, ◌<◌}
use native.Mathlib.Decide.{dec_lt}
use native.Mathlib.Omega.{arith}
use lib.Dec.{T_not}
use lib.ListN.{length}
use Rattle.slots.specs.Segments.{keys, height_of, segments_of}
use Rattle.slots.specs.Keys.{segment_of}
use Rattle.slots.specs.Orders.{slot_at}
use Rattle.slots.proofs.HeightLaws.{height-one}
use Rattle.slots.proofs.Live.{live-key}
use Rattle.slots.proofs.Marks.{segment-at}
use Rattle.slots.proofs.Keys.{segment-front}
use Rattle.cells.specs.declared.Cell.{Cell}
use Rattle.forecast.specs.declared.Forecast.{Forecast}
use Rattle.forecast.specs.Faults.{fault_of, is_sound}
use Rattle.forecast.specs.Tidy.{Marker}
use Rattle.forecast.proofs.Readings.{BadBy}
use Rattle.forecast.proofs.Faults.{fault-bad, bad-fault}
use Rattle.rules.specs.Shares.{cells_of}
use Rattle.rules.specs.Checks.{shares_of}
use Rattle.forecast.specs.Cells.{cells}
use Rattle.forecast.specs.Tidy.{Roomy}
use Rattle.forecast.proofs.Stepping.{roomy-12}
use Rattle.demands.specs.Rows.{cell_of, WrongSegment, BadCell, no_count, over_count, anothers, not_live, wrong_segment, BadForecast, too_many, bad_cell, not_zero, row4}
use Rattle.demands.proofs.Requests.Checked.{Passed, keys-shown}
use Rattle.demands.proofs.Refusals.RowsInOrder.{Decides}
use Rattle.demands.proofs.Refusals.Rows.{in-slot}

module _ (profile : ℕ) (slots : List ℕ) (K : Passed profile slots) where
  -- a key of the segments is not 0
  mem-key : (x : ℕ) → Mem x (keys (segments_of slots)) → x ≢ 0
  mem-key x m = omega (arith, live-key slots x (subst (Mem x) (keys-shown profile slots K) m))

  -- a marker's segment: that of its slot, and 0 for the front
  slot-segment : (x t : ℕ) → x ≢ 0 → t < length slots → slot_at slots t ≡ x → segment_of (segments_of slots) x ≡ t / 64
  slot-segment x t h l e =
      subst (λ (z : ℕ). segment_of (segments_of slots) z ≡ t / 64) e
      (segment-at slots (2 ^ height_of (length slots)) K.number K.ordered t l (subst (λ (z : ℕ). z ≢ 0) (sym e) h))

  front-segment : (x : ℕ) → x ≡ 0 → segment_of (segments_of slots) x ≡ 0
  front-segment x e = ap (segment_of (segments_of slots)) e ∙ segment-front (segments_of slots)

  module _ (P : ℕ) (F : Forecast) where
    -- a marker that is live or 0, with another segment than its own, has a wrong one
    misplaced-wrong : (c : Cell) → Marker (segments_of slots) c.marker → c.segment ≢ segment_of (segments_of slots) c.marker → WrongSegment slots c
    misplaced-wrong c (inl e) n = inl (e, λ s. n (s ∙ sym (front-segment c.marker e)))
    misplaced-wrong c (inr m) n =
        let k : c.marker ≢ 0 = mem-key c.marker m in
        let p = (in-slot profile slots K c.marker k).0 m in
        inr (k, (p.0, p.1, p.2, λ s. n (s ∙ sym (slot-segment c.marker p.0 k p.1 p.2))))

    -- a fault that was found, in words about single slots and cells
    in_words : BadBy P (segments_of slots) F → BadForecast P slots F
    in_words (BadBy.too_many h) = too_many h
    in_words (BadBy.no_count i h n) = bad_cell i h (no_count n)
    in_words (BadBy.over_count i h n) = bad_cell i h (over_count n)
    in_words (BadBy.repeated i j l h k e) = bad_cell i h (anothers j (omega arith) (omega arith) e)
    in_words (BadBy.not_live i h a b) = bad_cell i h (not_live (a, λ t l e. b ((in-slot profile slots K (cell_of F i).marker a).1 (t, l, e))))
    in_words (BadBy.misplaced i h m n) = bad_cell i h (wrong_segment (misplaced-wrong (cell_of F i) m n))
    in_words (BadBy.not_zero i h l n) = not_zero i h l n

    -- two used cells with one marker: the later one repeats the earlier, or too many are used for their room
    twice : Roomy F → P ≤ 12 → (i j : ℕ) → i < F.used → j < F.used → j ≢ i → (cell_of F j).marker ≡ (cell_of F i).marker → BadBy P (segments_of slots) F
    twice r p i j h k n e =
        let m : length (cells F) ≡ 12 = roomy-12 F r in
        elim (dec_lt P F.used) [
          | yes u ↦ BadBy.too_many u
          | no u ↦ elim (dec_lt j i) [ yes l ↦ BadBy.repeated i j l h (omega arith) e | no l ↦ BadBy.repeated j i (omega arith) k (omega arith) (sym e) ]
        ]

    -- a wrong segment is not the marker's own
    wrong-misplaced : (i : ℕ) → i < F.used → WrongSegment slots (cell_of F i) → BadBy P (segments_of slots) F
    wrong-misplaced i h (inl (z, s)) = BadBy.misplaced i h (inl z) (λ e. s (e ∙ front-segment (cell_of F i).marker z))
    wrong-misplaced i h (inr (k, (t, l, e, s))) =
        BadBy.misplaced i h (inr ((in-slot profile slots K (cell_of F i).marker k).1 (t, l, e))) (λ q. s (q ∙ slot-segment (cell_of F i).marker t k l e))

    cell-found : Roomy F → P ≤ 12 → (i : ℕ) → i < F.used → BadCell P slots F i → BadBy P (segments_of slots) F
    cell-found r p i h (no_count n) = BadBy.no_count i h n
    cell-found r p i h (over_count n) = BadBy.over_count i h n
    cell-found r p i h (anothers j k n e) = twice r p i j h k n e
    cell-found r p i h (not_live (a, b)) = BadBy.not_live i h a (λ m. let q = (in-slot profile slots K (cell_of F i).marker a).0 m in b q.0 q.1 q.2)
    cell-found r p i h (wrong_segment w) = wrong-misplaced i h w

    -- and the other way round
    found : Roomy F → P ≤ 12 → BadForecast P slots F → BadBy P (segments_of slots) F
    found r p (too_many h) = BadBy.too_many h
    found r p (bad_cell i h b) = cell-found r p i h b
    found r p (not_zero i h l n) = BadBy.not_zero i h l n

  -- row 4, beside a list that has passed its check
  pub decides-4 : (F : Forecast) → Roomy F → Decides (not (is_sound (fault_of (cells_of (shares_of profile slots)) (segments_of slots) F))) (row4 slots F)
  decides-4 F r = (
    λ t. (height_of (length slots), K.number, in_words P F (fault-bad P (segments_of slots) F t)),
    λ t w. T_not (not (is_sound (fault_of P (segments_of slots) F))) t (bad-fault P (segments_of slots) F r few (found P F r few (same w))),
  )
    where
      P : ℕ
      P = cells_of (shares_of profile slots)

      few : cells_of (shares_of profile slots) ≤ 12
      few = omega (arith, K.to)

      same : (row4 slots F).when → BadForecast (cells_of (shares_of profile slots)) slots F
      same w = subst (λ (h : ℕ). BadForecast (6 + h) slots F) (height-one (length slots) w.0 (height_of (length slots)) w.1 K.number) w.2
