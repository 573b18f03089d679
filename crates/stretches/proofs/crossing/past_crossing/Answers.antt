-- `past_crossing` is the first number past the crossing.
use Rattle.std.proofs.Common.{arith}
use Rattle.stretches.specs.Tries.{past_crossing}
use Rattle.stretches.proofs.crossing.past_crossing.Goals as goal

pub returns : goal.returns
unfolding past_crossing
returns c = (rw c.saturating_sub.ensures, omega arith)
