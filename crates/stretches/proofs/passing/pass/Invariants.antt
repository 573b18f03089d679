-- `pass` passes the marks on the first keys of a part. The loop's invariant: no mark is passed that stands past them, and those passed are counted.
use Rattle.std.proofs.Common.{◌≤◌}
use Rattle.stretches.specs.Marks.{places_of, weights_of}
use Rattle.stretches.proofs.NextMark.{next}
use Rattle.stretches.proofs.Parts.{Counted}
use Rattle.stretches.proofs.passing.pass.Given as goal

abbrev pub invariant-loop-next : goal.invariant-loop-next
invariant-loop-next l =
    (l.next ≤ next (places_of l.marks) l.place) × Counted (weights_of l.marks) (record { next = l.part.from; left = l.part.front }) (record { next = l.next; left = l.left })
