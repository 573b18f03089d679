-- `place_in` finds the last slot of a segment with a key up to this one, in six steps. The loop's invariant: the steps that are left end
-- where the six do, and stay within the segment.
use Rattle.std.proofs.Common.{◌≡◌, ◌+◌, ◌≤◌, drop}
use Rattle.lists.specs.Lists.{total}
use Rattle.seats.specs.Halves.{halved}
use Rattle.seats.proofs.Halves.{climbs}
use Rattle.seeking.specs.Spots.{key_up_to}
use Rattle.seeking.proofs.finding.place_in.Given as goal

abbrev pub invariant-loop-step : goal.invariant-loop-step
invariant-loop-step l =
    (l.a ≤ l.at) × (l.at + total (drop l.step-index l.step-items) ≤ l.a + 63)
    × (climbs (key_up_to l.list l.key) l.at (drop l.step-index l.step-items) ≡ halved (key_up_to l.list l.key) l.a)
