-- `reading::gaps::gaps_rest` meets its contract. The loop's invariant: the slots from `a` up to `i` are gaps.
use mathlib.Core.Path.{◌≡◌}
use Prim.Native.Nat.{ℕ, ◌≤◌, ◌<◌}
use Rattle.slots.specs.Orders.{slot_at}
use Rattle.reading.proofs.gaps.gaps_rest.Given as goal

abbrev pub invariant-loop-i : goal.invariant-loop-i
invariant-loop-i l = (k : ℕ) → l.a ≤ k → k < l.i → slot_at l.list k ≡ 0
