-- `reading::read_slots` meets its contract.
-- The loop's invariant: no slot before segment `s` breaks the order, `last` is the largest of them and `keys` of them are keys; the counts
-- of the segments before it are in their places.
use mathlib.Core.Path.{◌≡◌}
use Prim.Native.Nat.{◌*◌}
use lib.ListN.{length}
use Rattle.slots.specs.Segments.{segments_of}
use Rattle.slots.specs.Shown.{Counted}
use Rattle.reading.specs.Stretches.{Sound}
use Rattle.reading.proofs.read_slots.Given as goal

abbrev pub invariant-loop-s : goal.invariant-loop-s
invariant-loop-s l =
    (length l.counts ≡ length l.initial.counts) × Sound l.list (64 * l.s) l.last l.keys × Counted (segments_of l.list) 0 l.s l.initial.counts l.keys l.counts
