-- `words::write_forecast` meets its contract: the words before cell i are written.
use Prim.Native.Nat.{◌+◌, ◌*◌}
use mathlib.Core.Path.{◌≡◌}
use lib.ListN.{length}
use Rattle.lists.proofs.Overwritten.{written}
use Rattle.words.specs.Words.{forecast_words}
use Rattle.words.proofs.write_forecast.Given as goal

abbrev pub invariant-loop-i : goal.invariant-loop-i
invariant-loop-i l = (length l.initial.words ≡ 37) × (length l.words ≡ 37) × (l.words ≡ written (forecast_words l.forecast) l.initial.words (3 * l.i + 1))
