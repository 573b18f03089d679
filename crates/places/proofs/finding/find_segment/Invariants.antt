-- `find_segment` finds the segment where a search ends. The loop's invariant is `Narrowed`.
use Prim.Native.Nat.{◌-◌}
use Rattle.places.proofs.Narrowing.{Narrowed}
use Rattle.places.proofs.finding.find_segment.Given as goal

abbrev pub invariant-loop-a : goal.invariant-loop-a
invariant-loop-a l = Narrowed l.list l.key l.best l.a l.b

abbrev pub decreases-loop-a : goal.decreases-loop-a
decreases-loop-a l = l.b - l.a
