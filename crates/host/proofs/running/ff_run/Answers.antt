-- `ff_run`: the sizes, then the run on words.
use Rattle.host.proofs.Misfits.{numbered, run-misfit}
use Rattle.host.proofs.Sized.{all_fit}
use Rattle.host.proofs.running.ff_run.Goals as goal

pub returns-then-run_misfits : goal.returns-then-run_misfits
returns-then-run_misfits c =
    let a = c.args in
    numbered _ c.misfit.ensures (run-misfit a.profile a.list.now a.cards.now a.table.now a.forecast.now a.requests.now a.allowance a.totals.now a.reply.now _ c.run_misfits.ensures c.if-run_misfits.true)

pub run-requires : goal.run-requires
run-requires c =
    let a = c.args in
    all_fit a.forecast.now a.totals.now a.reply.now _ c.run_misfits.ensures c.if-run_misfits.false
