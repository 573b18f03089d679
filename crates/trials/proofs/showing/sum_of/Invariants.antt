-- `sum_of` is safe. The loop's invariant: the sum stays below its modulus.
use Rattle.std.proofs.Common.{◌<◌}
use Rattle.trials.proofs.showing.sum_of.Given as goal

abbrev pub invariant-loop-x : goal.invariant-loop-x
invariant-loop-x g l = l.sum < 1000003
