-- `sum_level` makes entries a to z the sums of their halves. Invariant: those below x are made.
use Rattle.tables.proofs.Resums.{Resumming}
use Rattle.tables.proofs.summing.sum_level.Given as goal

abbrev pub invariant-loop-x : goal.invariant-loop-x
invariant-loop-x l = Resumming l.n l.a l.x l.initial.table l.table
