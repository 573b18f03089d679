-- `scan` writes the keys, their cards, and the two words of its reply.
use Rattle.rules.specs.Lent.{lend}
use Rattle.stated.proofs.ReadGiven.{scan-given}
use Rattle.stated.proofs.scan.Goals as goal

pub returns : goal.returns
returns c =
    let scanned = c.scan-scanned in
    let told = c.scan_told in
    let tell = c.tell in
    scan-given c.args.profile (lend c.args.list.now c.args.cards.now c.args.table.now) c.args.from c.args.reply.now c.requires c.args.output.now c.args.output_cards.now scanned.result told.result tell.result _ _ _ scanned.ensures told.ensures tell.ensures.number tell.ensures.words
