-- `words::read_forecast` meets its contract: the rows below i are those of the words.
use Prim.Native.Nat.{ℕ}
use mathlib.Core.Path.{◌≡◌}
use lib.ListN.{get_or}
use Rattle.lists.proofs.Overwritten.{written}
use Rattle.cells.specs.declared.Cell.{Cell}
use Rattle.forecast.specs.Tidy.{Roomy}
use Rattle.words.specs.Words.{capped}
use Rattle.words.proofs.ForecastLoops.{field}
use Rattle.words.proofs.read_forecast.Given as goal

abbrev pub segment : Cell → ℕ
segment c = capped c.segment

abbrev pub count : Cell → ℕ
count c = capped c.count

abbrev pub invariant-loop-i : goal.invariant-loop-i
invariant-loop-i l =
    Roomy l.initial.forecast × (l.forecast.used ≡ capped (get_or l.words 0 0)) × (l.forecast.markers ≡ written (field (λ c. c.marker) l.words) l.initial.forecast.markers l.i)
    × (l.forecast.segments ≡ written (field segment l.words) l.initial.forecast.segments l.i) × (l.forecast.counts ≡ written (field count l.words) l.initial.forecast.counts l.i)
