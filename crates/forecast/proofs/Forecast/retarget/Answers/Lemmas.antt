-- The row of segments of a tidy forecast while its cells are aimed, one after the other.
use Prim.Native.Nat.{ℕ, ◌+◌, ◌≤◌, ◌<◌}
use mathlib.Core.Path.{◌≡◌, refl, sym, ap, ◌∙◌, subst}
use mathlib.Core.List.{List, map, map-map}
use native.Mathlib.Omega.{arith}
use lib.ListN.{length, get_or, set, length-set, length-map}
use Rattle.lists.specs.Lists.{padded}
use Rattle.std.proofs.lemmas.List.{get_or-map}
use Rattle.lists.proofs.Members.{at_mem}
use Rattle.lists.proofs.Overwritten.{written, written-more, written-ahead, written-done}
use Rattle.slots.specs.Segments.{Segments}
use Rattle.slots.specs.Keys.{segment_of}
use Rattle.cells.specs.declared.Cell.{Cell}
use Rattle.cells.specs.Cells.{cell, zero_cell, row}
use Rattle.cells.specs.Steps.{aimed, retargeted}
use Rattle.forecast.specs.declared.Forecast.{Forecast}
use Rattle.forecast.specs.Cells.{used_cells}
use Rattle.forecast.specs.Tidy.{Tidy, Became, Marker, Live, Outside, Elsewhere}
use Rattle.forecast.proofs.Rows.{row-set, row_kept, row_at, row-long, row_drop}
use Rattle.forecast.proofs.Stepping.{became, cells-used, markers-row, segments-row, counts-row, marker-is}

-- overwritten by those that `place` gives, as far as i
abbrev pub aiming : (ℕ → ℕ) → List Cell → ℕ → List ℕ
aiming place cs i = written (row (λ c. c.segment) (map (aimed place) cs)) (row (λ c. c.segment) cs) i

module _ (F : Forecast) (t : Tidy F) where
  abbrev us : List Cell
  us = used_cells F

  few : length us ≤ 12
  few = let r = t.room in omega (arith, cells-used F t)

  -- a segment stored anew leaves it tidy
  pub tidy-aimed : (i s : ℕ) → i < F.used → Tidy (record { markers = F.markers; segments = set F.segments i s; counts = F.counts; used = F.used })
  tidy-aimed i s h =
      let c : Cell = cell (get_or us i zero_cell).marker s (get_or us i zero_cell).count in
      (became (set us i c) _ (simp length-set few) (sym (length-set us i c ∙ cells-used F t))
      (markers-row F t ∙ row_kept (λ c. c.marker) us i c refl)
      (ap (λ (l : List ℕ). set l i s) (segments-row F t) ∙ row-set (λ c. c.segment) us i c (omega (arith, cells-used F t)))
      (counts-row F t ∙ row_kept (λ c. c.count) us i c refl)).tidy

  -- the marker at i is live
  pub marked : (ss : Segments) → Live ss F → (i : ℕ) → i < F.used → (G : Forecast) → G.markers ≡ F.markers → Marker ss (get_or G.markers i 0)
  marked ss lv i h G e =
      subst (Marker ss) (sym (ap (λ (l : List ℕ). get_or l i 0) e ∙ marker-is F t i)) (lv _ (at_mem us i zero_cell (omega (arith, cells-used F t))))

  module _ (place : ℕ → ℕ) where
    abbrev new : List Cell
    new = map (aimed place) us

    new-long : length new ≡ F.used
    new-long = length-map us (aimed place) ∙ cells-used F t

    new-few : length new ≤ 12
    new-few = omega (arith, new-long, cells-used F t, few)

    -- those from i on are as they were
    ahead-is : (i : ℕ) → i < F.used → (G : Forecast) → G.segments ≡ aiming place us i → get_or G.segments i 0 ≡ (get_or us i zero_cell).segment
    ahead-is i h G e =
        ap (λ (l : List ℕ). get_or l i 0) e
        ∙ written-ahead (row (λ c. c.segment) new) (row (λ c. c.segment) us) i i 0 (omega arith) (omega (arith, row-long (λ c. c.segment) new new-few, few, cells-used F t))
        ∙ row_at (λ c. c.segment) us refl i

    -- one more
    pub aim-more : (i : ℕ) → i < F.used → (G : Forecast) → G.markers ≡ F.markers → G.segments ≡ aiming place us i
        → (s : ℕ) → s ≡ place (get_or G.markers i 0) → set G.segments i s ≡ aiming place us (i + 1)
    aim-more i h G m e s q =
        let r : s ≡ get_or (row (λ c. c.segment) new) i 0 =
        q ∙ ap place (ap (λ (l : List ℕ). get_or l i 0) m ∙ marker-is F t i)
        ∙ sym (row_at (λ c. c.segment) new refl i ∙ ap (λ (c : Cell). c.segment) (get_or-map (aimed place) us i zero_cell zero_cell (omega (arith, cells-used F t)))) in
        ap (set G.segments i) r ∙ ap (λ (l : List ℕ). set l i (get_or (row (λ c. c.segment) new) i 0)) e
        ∙ written-more (row (λ c. c.segment) new) (row (λ c. c.segment) us) i 0
        (omega (arith, row-long (λ c. c.segment) new new-few, few, cells-used F t)) (omega (arith, row-long (λ c. c.segment) us few, few, cells-used F t))

    -- all
    pub aimed-all : (i : ℕ) → F.used ≤ i → (G : Forecast) → G.used ≡ F.used → G.markers ≡ F.markers → G.counts ≡ F.counts → G.segments ≡ aiming place us i
        → Became (retargeted place us) G
    unfolding retargeted
    aimed-all i h G u m n e =
        became new G new-few (u ∙ sym new-long)
        (m ∙ markers-row F t ∙ ap (padded 12 0) (sym (map-map (λ c. c.marker) (aimed place) us)))
        (e ∙ written-done (row (λ c. c.segment) new) (row (λ c. c.segment) us) i
        (row_drop (λ c. c.segment) new i (omega (arith, new-long)) ∙ sym (row_drop (λ c. c.segment) us i (omega (arith, cells-used F t)))))
        (n ∙ counts-row F t ∙ ap (padded 12 0) (sym (map-map (λ c. c.count) (aimed place) us)))

  -- the segment at i is the marker's where it is none of these
  pub unaimed : (ss : Segments) (first n : ℕ) → Elsewhere ss first n F → (i : ℕ) → i < F.used → (G : Forecast) → G.markers ≡ F.markers → G.segments ≡ aiming (segment_of ss) us i
      → Outside first n (get_or G.segments i 0) → get_or G.segments i 0 ≡ segment_of ss (get_or G.markers i 0)
  unaimed ss first n el i h G m e o =
      let a : get_or G.segments i 0 ≡ (get_or us i zero_cell).segment = ahead-is (segment_of ss) i h G e in
      let b : get_or G.markers i 0 ≡ (get_or us i zero_cell).marker = ap (λ (l : List ℕ). get_or l i 0) m ∙ marker-is F t i in
      a ∙ el _ (at_mem us i zero_cell (omega (arith, cells-used F t))) (subst (Outside first n) a o) ∙ ap (segment_of ss) (sym b)
