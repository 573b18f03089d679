-- `look_lent` tests list, cards, forecast and table.
use mathlib.Core.Path.{refl, sym, ◌∙◌}
use Rattle.rules.specs.Lent.{lend}
use Rattle.rules.specs.Checks.{check}
use Rattle.demands.proofs.Requests.Tabled.{number-stays}
use Rattle.checks.specs.Listings.{LentLooked}
use Rattle.checks.proofs.Numbers.{handed, some-number}
use Rattle.checks.proofs.Tabling.{both-list}
use Rattle.checks.proofs.look_lent.Goals as goal

pub returns-in_err-listing : goal.returns-in_err-listing
unfolding check
returns-in_err-listing c =
    let L = lend c.args.list.now c.args.cards.now c.args.table.now in
    let number = c.in_err-listing.ensures.looked c.args.table.now in
    handed (LentLooked c.args.profile L c.args.forecast) _ _ c.from_residual.ensures.1 (number ∙ sym (number-stays _ L (some-number _ _ number)))

pub then_table-requires : goal.then_table-requires
then_table-requires c =
    let L = lend c.args.list.now c.args.cards.now c.args.table.now in
    let look = c.in_ok-listing.ensures in
    (c.args.profile, c.args.list.now, _, look.looked c.args.table.now, both-list c.args.profile L c.args.forecast, refl, look.counts)

pub returns : goal.returns
unfolding check
returns c =
    let L = lend c.args.list.now c.args.cards.now c.args.table.now in
    let look = c.in_ok-listing.ensures in
    c.then_table.ensures c.args.profile c.args.list.now c.args.cards.now _ (look.looked c.args.table.now) (both-list c.args.profile L c.args.forecast) refl look.counts
