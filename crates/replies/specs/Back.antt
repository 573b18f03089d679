-- What a call leaves in the words of a forecast, by its number.
use Rattle.std.specs.Prelude.{ℕ, Bool, ◌||◌, List, eqb, if◌then◌else◌}
use Rattle.forecast.specs.declared.Forecast.{Forecast}
use Rattle.words.specs.Words.{forecast_words}

-- Done (0), or stopped by 9 or 10: earlier work is kept. Every other number leaves what was lent.
abbrev pub works_on : ℕ → Bool
works_on n = eqb n 0 || (eqb n 9 || eqb n 10)

unfoldable pub handed_back : ℕ → Forecast → List ℕ → List ℕ
handed_back n F ws = if works_on n then forecast_words F else ws
