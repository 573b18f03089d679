-- `forecast::Forecast::drop_marker` meets its contract: the cell at the marker's place goes, or all stay.
use mathlib.Core.Path.{refl}
use native.Mathlib.Omega.{arith}
use Rattle.cells.proofs.Laws.{dropped-is, dropped-none}
use Rattle.forecast.specs.Cells.{used_cells}
use Rattle.forecast.proofs.Placed.{cell-found, cell-missing}
use Rattle.forecast.proofs.Stepping.{cells-used}
use Rattle.forecast.proofs.Forecast.drop_marker.Goals as goal

pub returns-in-Some : goal.returns-in-Some
returns-in-Some c =
    let i = cell-found c.args.self c.requires _ _ c.place_of.ensures _ c.in-Some.is in
    rw (dropped-is c.args.marker (used_cells c.args.self), ← i.0) c.close_up.ensures

pub returns-in_default : goal.returns-in_default
returns-in_default c =
    let h = cell-missing c.args.self c.requires _ _ c.place_of.ensures c.in_default.is in
    rw (dropped-none c.args.marker (used_cells c.args.self) (omega (arith, cells-used c.args.self c.requires, h))) (record { tidy = c.requires; is = refl })
