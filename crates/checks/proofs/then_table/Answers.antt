-- `then_table` tests the table where nothing was found before it.
use Rattle.checks.proofs.Tabling.{table-asks, right-looked, wrong-looked}
use Rattle.checks.proofs.then_table.Goals as goal

pub is_right-requires : goal.is_right-requires
is_right-requires c =
    let p = c.requires in
    table-asks p.0 p.1 c.args.table.now p.2 c.args.n c.args.listing c.args.counts.now p.3 p.4 p.5 p.6

pub returns-then-is_right : goal.returns-then-is_right
returns-then-is_right c profile slots cards m look list e counting =
    right-looked profile slots c.args.table.now m c.args.n c.args.listing c.args.counts.now look list e counting cards _ c.is_right.ensures c.if-is_right.true

pub returns : goal.returns
returns c profile slots cards m look list e counting =
    wrong-looked profile slots c.args.table.now m c.args.n c.args.listing c.args.counts.now look list e counting cards _ c.is_right.ensures c.if-is_right.false
