-- `take_one` changes each count by one: what `change` is told that its closure computes.
use Rattle.std.proofs.Common.{◌-◌}
use Rattle.tables.proofs.keeping.take_one.Given as goal

abbrev pub ghost-change : goal.ghost-change
ghost-change a = λ x. x - 1
