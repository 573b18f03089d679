-- `scan` goes over the stretches. The loop's invariant: the marks up to i are passed, and the best below i is found.
use Rattle.std.proofs.Common.{ℕ, ◌-◌, ◌≤◌, List}
use Rattle.stretches.specs.Marks.{places_of, weights_of}
use Rattle.stretches.specs.Parts.{PartOf}
use Rattle.stretches.specs.Tries.{Modest}
use Rattle.planning.proofs.Scanning.{Scanned}
use Rattle.planning.proofs.splitting.scan.Given as goal

abbrev pub invariant-loop-part : goal.invariant-loop-part
invariant-loop-part l =
    ((l.first ≤ l.i) × (l.i ≤ l.last)) × Modest l.found × ((ws : List ℕ) → PartOf ws (places_of l.marks) (weights_of l.marks) l.part → Scanned l.c l.first ws (places_of l.marks) l.part l.i l.passed l.found)

abbrev pub decreases-loop-part : goal.decreases-loop-part
decreases-loop-part l = l.last - l.i
