-- `seek` finds the segment where a search ends. Invariant: it is one of the m from a on, which are under entry e.
use Prim.Native.Nat.{◌+◌, ◌*◌, ◌≤◌, ◌<◌}
use Rattle.descents.proofs.Searches.{Fit, Sought}
use Rattle.descents.proofs.seek.Given as goal

abbrev pub invariant-loop-e : goal.invariant-loop-e
invariant-loop-e l = (l.e + 1 < 2 * l.n) × (l.a + l.m ≤ l.n) × (Fit l.n l.list l.table → Sought l.n l.list l.key l.e l.a l.m)

abbrev pub decreases-loop-e : goal.decreases-loop-e
decreases-loop-e l = l.e
