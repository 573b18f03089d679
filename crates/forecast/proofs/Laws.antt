-- Laws of cells written into their room, so that nothing else has to open it.
use mathlib.Core.Path.{◌≡◌, refl, ap, ap₂, ◌∙◌}
use mathlib.Core.List.{List}
use Prim.Native.Nat.{◌-◌, ◌≤◌}
use lib.ListN.{length, take, length-map}
use Rattle.lists.specs.Lists.{padded}
use Rattle.lists.proofs.Fill.{take-padded-all, length-padded}
use Rattle.cells.specs.declared.Cell.{Cell}
use Rattle.cells.specs.Cells.{zero_cell}
use Rattle.cells.proofs.Zipped.{zip-fill}
use Rattle.forecast.specs.Cells.{cells, used_cells, forecast_of}

-- the number used is theirs
pub forecast_of-used : (cs : List Cell) → (forecast_of cs).used ≡ length cs
unfolding forecast_of
forecast_of-used cs = refl

-- their rows show them, and zeros after them
pub forecast_of-cells : (cs : List Cell) → cells (forecast_of cs) ≡ padded 12 zero_cell cs
unfolding forecast_of cells padded
forecast_of-cells cs = rw (length-map cs (λ c. c.marker), length-map cs (λ c. c.segment), length-map cs (λ c. c.count)) (zip-fill cs (12 - length cs))

-- those used are read back
pub used-forecast_of : (cs : List Cell) → used_cells (forecast_of cs) ≡ cs
used-forecast_of cs = ap₂ {C = List Cell} take (forecast_of-used cs) (forecast_of-cells cs) ∙ take-padded-all 12 zero_cell cs

-- there is room for 12
pub length-forecast_of : (cs : List Cell) → length cs ≤ 12 → length (cells (forecast_of cs)) ≡ 12
length-forecast_of cs h = ap length (forecast_of-cells cs) ∙ length-padded 12 zero_cell cs h
