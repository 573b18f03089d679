-- `ff_lookup`: the size, then the lookup on words.
use Rattle.host.proofs.Misfits.{numbered, lookup-misfit}
use Rattle.host.proofs.calls.ff_lookup.Goals as goal

pub returns-then-reply-lt3 : goal.returns-then-reply-lt3
returns-then-reply-lt3 c =
    let a = c.args in
    numbered _ c.misfit.ensures (lookup-misfit a.profile a.list.now a.cards.now a.table.now a.key a.reply.now c.if-reply-lt3.true)
