-- `change` changes each entry from the segment's to the root. Invariant: those of the walk before e are changed.
use Rattle.std.proofs.Common.{◌-◌, length}
use Rattle.tables.specs.Kept.{Summed}
use Rattle.tables.proofs.Walking.{Walked}
use Rattle.tables.proofs.keeping.change.Given as goal

abbrev pub invariant-loop-e : goal.invariant-loop-e
invariant-loop-e g l = (S : Summed l.n l.initial.table) → Walked g.to l.n l.s S.sized.height l.initial.table l.table l.e

abbrev pub decreases-loop-e : goal.decreases-loop-e
decreases-loop-e g l = length l.initial.table - l.e
