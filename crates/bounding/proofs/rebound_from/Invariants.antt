-- `rebound_from` writes the bounds of a stretch of segments, the last one first. The loop's invariant: those from `s` on are right.
use Prim.Native.Nat.{ℕ, ◌≤◌}
use mathlib.Core.Path.{◌≡◌}
use Rattle.slots.specs.Segments.{Segments}
use Rattle.slots.specs.Shown.{Shows}
use Rattle.seats.specs.Bounds.{bound_at, Near}
use Rattle.bounding.proofs.rebound_from.Given as goal

abbrev pub invariant-loop-s : goal.invariant-loop-s
invariant-loop-s l =
    (l.a ≤ l.s)
    × ((m : ℕ) (ss : Segments) → Shows ss l.list → Near m ss l.a l.e l.initial.bounds → l.later ≡ bound_at ss l.e → Near m ss l.a l.s l.bounds × (l.b ≡ bound_at ss l.s))
