-- `check` checks the list, the cards, the table and the forecast that the words show.
use Rattle.rules.specs.Lent.{lend}
use Rattle.stated.proofs.ReadGiven.{check-given}
use Rattle.stated.proofs.check.Goals as goal

pub returns : goal.returns
returns c =
    let read = c.read_forecast-given in
    let checked = c.check in
    check-given c.args.profile (lend c.args.list.now c.args.cards.now c.args.table.now) c.args.forecast.now c.requires read.result checked.result c.verdict_number.result read.ensures checked.ensures c.verdict_number.ensures
