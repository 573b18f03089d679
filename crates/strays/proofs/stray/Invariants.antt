-- `stray` gathers the gaps of each segment. The loop's invariant: `all` tells whether a gap of the first `s` segments has a card.
use Rattle.strays.proofs.GapCards.{Told}
use Rattle.strays.proofs.stray.Given as goal

abbrev pub invariant-loop-s : goal.invariant-loop-s
invariant-loop-s l = Told l.cards l.counts l.s l.all
