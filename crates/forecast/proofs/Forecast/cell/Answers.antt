-- `forecast::Forecast::cell` meets its contract: the rows have room for 12.
use borrow.Author.Rules.{rules}
use Rattle.forecast.specs.Tidy.{Roomy}
use Rattle.forecast.proofs.Stepping.{roomy-cell}
use Rattle.forecast.proofs.Forecast.cell.Goals as goal

pub returns : goal.returns
returns c =
    let r : Roomy c.args.self.now = record { markers = search rules; segments = search rules; counts = search rules } in
    (roomy-cell c.args.self.now r c.args.i c.requires _ _ c.from.ensures c.from-2.ensures).cell
