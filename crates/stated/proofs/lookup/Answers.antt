-- `lookup` looks up, and writes the three words of its reply.
use Rattle.rules.specs.Lent.{lend}
use Rattle.stated.proofs.ReadGiven.{lookup-given}
use Rattle.stated.proofs.lookup.Goals as goal

pub returns : goal.returns
returns c =
    let found = c.lookup-found in
    let told = c.lookup_told in
    let tell = c.tell in
    lookup-given c.args.profile (lend c.args.list.now c.args.cards.now c.args.table.now) c.args.key c.args.reply.now c.requires found.result told.result tell.result _ found.ensures told.ensures tell.ensures.number tell.ensures.words
