-- `ff_insert`: the sizes, then the insert on words.
use Rattle.host.proofs.Misfits.{numbered, insert-misfit}
use Rattle.host.proofs.Sized.{both-fit}
use Rattle.host.proofs.changing.ff_insert.Goals as goal

pub returns-then-misfits : goal.returns-then-misfits
returns-then-misfits c =
    let a = c.args in
    numbered _ c.misfit.ensures (insert-misfit a.profile a.list.now a.cards.now a.table.now a.forecast.now a.key a.reply.now _ a.card c.misfits.ensures c.if-misfits.true)

pub insert-requires : goal.insert-requires
insert-requires c =
    let a = c.args in
    both-fit a.forecast.now a.reply.now 1 _ c.misfits.ensures c.if-misfits.false
