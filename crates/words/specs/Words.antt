-- A forecast as words, and what bytes hold of it.
use Rattle.std.specs.Prelude.{ℕ, zero, suc, List, [], ◌∷◌, map, leb, drop, get_or, if◌then◌else◌}
use Rattle.cells.specs.declared.Cell.{Cell}
use Rattle.cells.specs.Cells.{cell}
use Rattle.forecast.specs.declared.Forecast.{Forecast}
use Rattle.forecast.specs.Cells.{cells}

-- A forecast travels as 37 words: used, then marker, segment and count of each of its 12 cells.
unfoldable pub cells_in : ℕ → List ℕ → List Cell
cells_in zero ws = []
cells_in (suc n) ws = cell (get_or ws 0 0) (get_or ws 1 0) (get_or ws 2 0) ∷ cells_in n (drop 3 ws)

unfoldable pub cell_words : List Cell → List ℕ
cell_words [] = []
cell_words (c ∷ cs) = c.marker ∷ c.segment ∷ c.count ∷ cell_words cs

-- The forecast whose rows show these cells, so many of them used.
abbrev pub showing : ℕ → List Cell → Forecast
showing n cs = record { markers = map (λ c. c.marker) cs; segments = map (λ c. c.segment) cs; counts = map (λ c. c.count) cs; used = n }

abbrev pub forecast_in : List ℕ → Forecast
forecast_in ws = showing (get_or ws 0 0) (cells_in 12 (drop 1 ws))

abbrev pub forecast_words : Forecast → List ℕ
forecast_words F = F.used ∷ cell_words (cells F)

-- A word over 255 is read as 255 for a segment, a count and the number used.
unfoldable pub capped : ℕ → ℕ
capped x = if leb x 255 then x else 255

abbrev pub saturated : Forecast → Forecast
saturated F = record { markers = F.markers; segments = map capped F.segments; counts = map capped F.counts; used = capped F.used }
