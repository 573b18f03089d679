-- `ff_delete`: the sizes, then the delete on words.
use Rattle.host.proofs.Misfits.{numbered, delete-misfit}
use Rattle.host.proofs.Sized.{both-fit}
use Rattle.host.proofs.changing.ff_delete.Goals as goal

pub returns-then-misfits : goal.returns-then-misfits
returns-then-misfits c =
    let a = c.args in
    numbered _ c.misfit.ensures (delete-misfit a.profile a.list.now a.cards.now a.table.now a.forecast.now a.key a.reply.now _ c.misfits.ensures c.if-misfits.true)

pub delete-requires : goal.delete-requires
delete-requires c =
    let a = c.args in
    both-fit a.forecast.now a.reply.now 2 _ c.misfits.ensures c.if-misfits.false
