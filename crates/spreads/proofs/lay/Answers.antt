-- lay meets its contract: with no newcomer it is a movement.
use Rattle.gaps.proofs.Natural.{moved-kept}
use Rattle.spreads.proofs.lay.Goals as goal

pub returns-in-None-clause-cards : goal.returns-in-None-clause-cards
returns-in-None-clause-cards c = λ f y h. let a = c.args in let moves = c.move_right.ensures in moved-kept f a.window.now h a.at a.to a.c moves.slots moves.cards
