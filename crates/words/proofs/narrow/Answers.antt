-- `words::narrow` meets its contract.
use Rattle.std.proofs.Common.{arith}
use Rattle.std.proofs.lemmas.Grind.{common_steps}
use Rattle.words.specs.Words.{capped}
use Rattle.words.proofs.narrow.Goals as goal

pub returns : goal.returns
unfolding capped
returns c = grind (arith, common_steps)
