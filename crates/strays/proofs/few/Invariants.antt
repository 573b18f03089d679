-- `few` gathers one card at a time. The loop's invariant: `all` is `l` with the cards from `c` up to `i`.
use Rattle.strays.specs.Blanks.{Gathers}
use Rattle.strays.proofs.few.Given as goal

abbrev pub invariant-loop-i : goal.invariant-loop-i
invariant-loop-i l = Gathers l.cards l.c l.i l.initial.all l.all
