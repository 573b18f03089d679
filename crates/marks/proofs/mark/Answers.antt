-- `mark` marks the keys that weigh. The loop's invariant: the first `i` cells are marked, with `n` marks, in a row that keeps its length.
use Rattle.std.proofs.Common.{◌<◌, ◌≤◌, length, get_or, take, sym, ◌∙◌, subst, arith, length-take, take_all}
use lib.ListN.{length-map}
use Rattle.lists.proofs.Members.{at_mem}
use Rattle.cells.specs.Cells.{zero_cell}
use Rattle.forecast.specs.Cells.{used_cells}
use Rattle.forecast.proofs.Stepping.{cells-used, cell-is}
use Rattle.stretches.specs.Marks.{places_of, weights_of}
use Rattle.marks.specs.Marking.{after, Aims}
use Rattle.marks.proofs.CellMarks.{marking-none, marking-next}
use Rattle.marks.proofs.Standing.{rises-after}
use Rattle.marks.proofs.mark.Goals as goal

pub loop-i-init : goal.loop-i-init
loop-i-init c = (omega arith, omega arith, λ ss q. marking-none _)

pub loop-i-preserved : goal.loop-i-preserved
loop-i-preserved c =
    let L = c.loop-i in
    let a = c.args in
    let t = c.requires.tidy in
    let h : L.i < a.f.used = omega arith in
    let is = c.cell.ensures in (
      omega arith,
      omega arith,
      λ ss q. marking-next a.f t q.fitting L.i h (after a.w ss) (places_of (take L.n L.row)) (weights_of (take L.n L.row)) _ _ (rises-after a.list.now a.counts.now a.w ss q.asked)
          (omega (arith, length-map (take c.mark_cell-n.result c.mark_cell-n.new.row) (λ m. m.place), length-take c.mark_cell-n.result c.mark_cell-n.new.row)) (L.invariant.2 ss q)
          _ is (c.mark_cell-n.ensures.marks ss q.asked
          (subst (Aims a.w ss) (sym (is ∙ cell-is a.f t L.i)) (q.cells (get_or (used_cells a.f) L.i zero_cell) (at_mem (used_cells a.f) L.i zero_cell (omega (arith, cells-used a.f t)))))),
    )

pub returns : goal.returns
returns c =
    let L = c.loop-i in
    let e : length (used_cells c.args.f) ≤ L.i = omega (arith, cells-used c.args.f c.requires.tidy) in
    record {
      range = omega arith;
      marks = λ ss q. rw (take_all L.i (used_cells c.args.f) e) at (L.invariant.2 ss q).marked;
    }
