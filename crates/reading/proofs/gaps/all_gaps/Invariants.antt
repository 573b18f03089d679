-- The loop's invariant: the slots of the sixteens so far are gaps.
use Rattle.std.proofs.Common.{◌+◌, ◌*◌}
use Rattle.reading.proofs.Eights.{Bare}
use Rattle.reading.proofs.gaps.all_gaps.Given as goal

abbrev pub invariant-loop-k : goal.invariant-loop-k
invariant-loop-k l = Bare l.list l.a (l.a + 16 * l.k)
