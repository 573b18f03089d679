-- A forecast without fault is tidy.
use Prim.Native.Nat.{ℕ, ◌≤◌}
use mathlib.Core.Path.{subst}
use native.Mathlib.Omega.{arith}
use lib.Dec.{T}
use lib.ListN.{length}
use Rattle.slots.specs.Segments.{Segments}
use Rattle.forecast.specs.declared.Forecast.{Forecast}
use Rattle.forecast.specs.Cells.{used_cells}
use Rattle.forecast.specs.Faults.{is_sound, fault_of}
use Rattle.forecast.specs.Tidy.{Tidy, Roomy}
use Rattle.forecast.proofs.Faults.{sound-ruled, sound-whole}
pub use Rattle.forecast.proofs.Stepping.{is-became, became-is}

-- a forecast without fault is tidy
pub tidy-of-sound : (P : ℕ) (ss : Segments) (F : Forecast) → T (is_sound (fault_of P ss F)) → Roomy F → P ≤ 12 → Tidy F
tidy-of-sound P ss F t n p =
    let few : length (used_cells F) ≤ P = (sound-ruled P ss F t).0.few in
    subst Tidy (sound-whole P ss F t n p) (is-became (used_cells F) (omega arith)).tidy
