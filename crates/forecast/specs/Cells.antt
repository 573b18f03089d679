-- Document 01, "The forecast": room for 12 cells, and those used.
use Rattle.std.specs.Prelude.{List, length, take}
use Rattle.cells.specs.declared.Cell.{Cell}
use Rattle.cells.specs.Cells.{zip3, row}
use Rattle.forecast.specs.declared.Forecast.{Forecast}

-- The cells that a forecast's three rows show.
unfoldable pub cells : Forecast → List Cell
cells F = zip3 F.markers F.segments F.counts

-- The used cells.
abbrev pub used_cells : Forecast → List Cell
used_cells F = take F.used (cells F)

-- Room for 12 cells is kept, with the number used; unused cells are all zeros.
unfoldable pub forecast_of : List Cell → Forecast
forecast_of cs = record { markers = row (λ c. c.marker) cs; segments = row (λ c. c.segment) cs; counts = row (λ c. c.count) cs; used = length cs }
