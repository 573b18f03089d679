-- `make` makes, and writes the empty forecast's words.
use Rattle.rules.specs.Lent.{lend}
use Rattle.stated.proofs.ReadGiven.{make-given}
use Rattle.stated.proofs.make.Goals as goal

pub returns : goal.returns
returns c =
    let made = c.make-made in
    let number = c.verdict_number in
    let left = made.new in
    make-given c.args.profile (lend c.args.list.now c.args.cards.now c.args.table.now) c.args.forecast.now c.requires made.result number.result (lend left.list left.cards left.table) _ made.ensures c.write_forecast.ensures number.ensures
