-- `rebound_before` writes the bounds of the empty segments before one. The loop's invariant: those from `s` on are right.
use Prim.Native.Nat.{ℕ}
use mathlib.Core.Path.{◌≡◌}
use Rattle.slots.specs.Segments.{Segments}
use Rattle.slots.specs.Shown.{Shows}
use Rattle.seats.specs.Bounds.{bound_at, Near}
use Rattle.bounding.proofs.rebound_before.Given as goal

abbrev pub invariant-loop-s : goal.invariant-loop-s
invariant-loop-s l = (m : ℕ) (ss : Segments) → Shows ss l.list → Near m ss l.a l.a l.initial.bounds → l.b ≡ bound_at ss l.a → Near m ss l.s l.s l.bounds × (l.b ≡ bound_at ss l.s)
