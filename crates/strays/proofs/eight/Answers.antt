-- `eight` gathers eight cards, two in each lane.
use Rattle.strays.proofs.Gathered.{gathers-eight}
use Rattle.strays.proofs.eight.Goals as goal

pub returns : goal.returns
returns c = let s = c.args in gathers-eight s.cards.now s.i s.l
