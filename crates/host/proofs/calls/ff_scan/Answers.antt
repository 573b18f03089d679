-- `ff_scan`: the size, then the scan on words.
use Rattle.host.proofs.Misfits.{numbered, scan-misfit}
use Rattle.host.proofs.calls.ff_scan.Goals as goal

pub returns-then-reply-lt2 : goal.returns-then-reply-lt2
returns-then-reply-lt2 c =
    let a = c.args in
    numbered _ c.misfit.ensures (scan-misfit a.profile a.list.now a.cards.now a.table.now a.from a.reply.now a.output.now a.output_cards.now c.if-reply-lt2.true)
