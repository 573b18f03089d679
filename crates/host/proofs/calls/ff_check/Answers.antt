-- `ff_check`: the size, then the check on words.
use Rattle.host.proofs.Misfits.{numbered, check-misfit}
use Rattle.host.proofs.Sized.{fit}
use Rattle.host.proofs.calls.ff_check.Goals as goal

pub returns-then-no_forecast : goal.returns-then-no_forecast
returns-then-no_forecast c =
    let a = c.args in
    numbered _ c.misfit.ensures (check-misfit a.profile a.list.now a.cards.now a.table.now a.forecast.now _ c.no_forecast.ensures c.if-no_forecast.true)

pub check-requires : goal.check-requires
check-requires c =
    let a = c.args in
    fit a.forecast.now _ c.no_forecast.ensures c.if-no_forecast.false
