-- `sum_of` is safe. The loop's invariant: the sum stays below its modulus.
use Rattle.std.proofs.Common.{◌<◌}
use Rattle.streams.proofs.sum_of.Given as goal

abbrev pub invariant-loop-card : goal.invariant-loop-card
invariant-loop-card l = l.sum < 1000003
