-- `forecast::Forecast::weight_of` meets its contract.
use Prim.Native.Nat.{◌≤◌}
use mathlib.Core.Path.{sym, ◌∙◌}
use native.Mathlib.Omega.{arith}
use lib.ListN.{length}
use Rattle.cells.specs.Cells.{cell_at}
use Rattle.cells.proofs.Laws.{weight-at, weight-none}
use Rattle.forecast.specs.Cells.{used_cells}
use Rattle.forecast.proofs.Placed.{cell-found, cell-missing}
use Rattle.forecast.proofs.Stepping.{cells-used, count-is}
use Rattle.forecast.proofs.Forecast.weight_of.Goals as goal

pub returns-in-Some : goal.returns-in-Some
returns-in-Some c =
    let f = c.args.self in
    let i = cell-found f c.requires _ _ c.place_of.ensures _ c.in-Some.is in
    c.from.ensures ∙ count-is f c.requires c.in-Some.at ∙ sym (weight-at (used_cells f) c.args.marker c.in-Some.at (sym i.0))

pub returns-in-None : goal.returns-in-None
returns-in-None c =
    let f = c.args.self in
    let h : length (used_cells f) ≤ cell_at c.args.marker (used_cells f) = omega (arith, cells-used f c.requires, cell-missing f c.requires _ _ c.place_of.ensures c.in-None.is) in
    sym (weight-none (used_cells f) c.args.marker h)
