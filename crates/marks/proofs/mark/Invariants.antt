-- `mark` marks the keys that weigh. The loop's invariant: the first `i` cells are marked, with `n` marks, in a row that keeps its length.
use Rattle.std.proofs.Common.{◌≡◌, ◌≤◌, length, take}
use Rattle.slots.specs.Segments.{Segments}
use Rattle.forecast.specs.Cells.{used_cells}
use Rattle.stretches.specs.Marks.{places_of, weights_of}
use Rattle.marks.specs.Marking.{after, Marking}
use Rattle.marks.proofs.CellMarks.{MarkedBy}
use Rattle.marks.proofs.mark.Given as goal

abbrev pub invariant-loop-i : goal.invariant-loop-i
invariant-loop-i l =
    (l.n ≤ l.i) × (length l.row ≡ 12) × ((ss : Segments) → Marking l.list l.counts l.f l.w ss → MarkedBy (take l.i (used_cells l.f)) (after l.w ss) (places_of (take l.n l.row)) (weights_of (take l.n l.row)))
