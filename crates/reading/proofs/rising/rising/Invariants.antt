-- The loop's invariant: each slot so far is above the one before it, and `top` is the last of them, or `last` at the first.
use Rattle.std.proofs.Common.{◌≡◌}
use Rattle.reading.specs.Stretches.{before}
use Rattle.reading.proofs.Stretched.{Up}
use Rattle.reading.proofs.rising.rising.Given as goal

abbrev pub invariant-loop-i : goal.invariant-loop-i
invariant-loop-i l = (l.top ≡ before l.part 0 l.last l.i) × Up l.part 0 l.last l.i
