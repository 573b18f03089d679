-- `faults::fault_of` meets its contract: no cell below i has a fault.
use Prim.Native.Nat.{ℕ, ◌<◌}
use mathlib.Core.Path.{◌≡◌}
use mathlib.Core.Bool.{true}
use Rattle.slots.specs.Segments.{Segments}
use Rattle.slots.specs.Shown.{Shows}
use Rattle.forecast.specs.Faults.{fault_at, is_sound}
use Rattle.faults.proofs.fault_of.Given as goal

abbrev pub invariant-loop-i : goal.invariant-loop-i
invariant-loop-i l = (ss : Segments) → Shows ss l.list → (j : ℕ) → j < l.i → is_sound (fault_at l.p ss l.forecast j) ≡ true
