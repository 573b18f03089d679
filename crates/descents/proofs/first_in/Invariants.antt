-- `first_in` finds the first segment under an entry that is not empty. Invariant: it is under entry `at`.
use mathlib.Core.Logic.{◌≢◌}
use Prim.Native.Nat.{ℕ, ◌+◌, ◌*◌, ◌<◌}
use lib.ListN.{get_or}
use Rattle.tables.specs.Tree.{Sums}
use Rattle.descents.specs.Covers.{Covers}
use Rattle.descents.proofs.Trees.{Firsting}
use Rattle.descents.proofs.first_in.Given as goal

abbrev pub invariant-loop-at : goal.invariant-loop-at
invariant-loop-at l = (l.at + 1 < 2 * l.n) × (Sums l.n l.table → (m : ℕ) → Covers l.n l.e l.a m → get_or l.table l.e 0 ≢ 0 → Firsting l.n l.table l.a m l.at)

abbrev pub decreases-loop-at : goal.decreases-loop-at
decreases-loop-at l = l.at
