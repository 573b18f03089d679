-- `forecast::Forecast::retarget` meets its contract: the cells below i name their markers' segments already.
use Prim.Native.Nat.{◌≤◌, ◌<◌}
use mathlib.Core.Path.{◌≡◌}
use lib.ListN.{length}
use Rattle.slots.specs.Segments.{Segments}
use Rattle.slots.specs.Keys.{Listed, segment_of}
use Rattle.seats.specs.Bounds.{Bounded}
use Rattle.forecast.specs.Cells.{used_cells}
use Rattle.forecast.specs.Tidy.{Tidy, Live, Elsewhere}
use Rattle.forecast.proofs.Forecast.retarget.Answers.Lemmas.{aiming}
use Rattle.forecast.proofs.Forecast.retarget.Given as goal

abbrev pub invariant-loop-i : goal.invariant-loop-i
invariant-loop-i l =
    (l.self.used ≡ l.initial.self.used) × Tidy l.self × (l.self.markers ≡ l.initial.self.markers) × (l.self.counts ≡ l.initial.self.counts)
    × ((ss : Segments) → Listed ss → 0 < length ss → length ss ≤ 64 → Bounded 1 ss l.bounds → Live ss l.initial.self → Elsewhere ss l.first l.n l.initial.self
    → l.self.segments ≡ aiming (segment_of ss) (used_cells l.initial.self) l.i)
