-- `ff_make`: the size, then making on words.
use Rattle.host.proofs.Misfits.{numbered, make-misfit}
use Rattle.host.proofs.Sized.{fit}
use Rattle.host.proofs.calls.ff_make.Goals as goal

pub returns-then-no_forecast : goal.returns-then-no_forecast
returns-then-no_forecast c =
    let a = c.args in
    numbered _ c.misfit.ensures (make-misfit a.profile a.list.now a.cards.now a.table.now a.forecast.now _ c.no_forecast.ensures c.if-no_forecast.true)

pub make-requires : goal.make-requires
make-requires c =
    let a = c.args in
    fit a.forecast.now _ c.no_forecast.ensures c.if-no_forecast.false
