-- `last_filled` finds the last segment that begins with a key. The loop's invariant: the segments passed, from `s` up to `mid`, begin with a gap.
use Rattle.std.proofs.Common.{◌≡◌, ℕ, ◌*◌, ◌≤◌}
use Rattle.slots.specs.Orders.{slot_at}
use Rattle.places.proofs.finding.last_filled.Given as goal

abbrev pub invariant-loop-s : goal.invariant-loop-s
invariant-loop-s l = (k : ℕ) → l.s ≤ k → k ≤ l.mid → slot_at l.list (64 * k) ≡ 0
