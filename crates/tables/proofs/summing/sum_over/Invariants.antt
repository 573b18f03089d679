-- `sum_over` makes the table right. Invariant: what is still to be summed stands over entries a to z, of one level.
use mathlib.Core.Path.{◌≡◌}
use Prim.Native.Nat.{◌+◌, ◌-◌, ◌*◌, ◌≤◌, ◌<◌}
use lib.ListN.{length}
use Rattle.tables.proofs.Resums.{Rising}
use Rattle.tables.proofs.summing.sum_over.Given as goal

abbrev pub invariant-loop-z : goal.invariant-loop-z
invariant-loop-z l = (length l.table ≡ length l.initial.table) × (l.a ≤ l.z) × (l.z + 1 < 2 * l.n) × Rising l.n l.first l.last l.initial.table l.table l.a l.z

abbrev pub decreases-loop-z : goal.decreases-loop-z
decreases-loop-z l = 2 * l.n - l.z
