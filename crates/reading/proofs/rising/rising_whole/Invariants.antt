-- The loop's invariant: up to the eights so far each slot is above the one before it, and `top` is the last of them, or `last` at `a`.
use Rattle.std.proofs.Common.{◌≡◌, ◌+◌, ◌*◌}
use Rattle.reading.specs.Stretches.{before}
use Rattle.reading.proofs.Stretched.{Up}
use Rattle.reading.proofs.rising.rising_whole.Given as goal

abbrev pub invariant-loop-k : goal.invariant-loop-k
invariant-loop-k l = (l.top ≡ before l.list l.a l.last (l.a + 8 * l.k)) × Up l.list l.a l.last (l.a + 8 * l.k)
