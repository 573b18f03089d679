-- `look_read` tests list, cards and table.
use mathlib.Core.Path.{refl, sym, ◌∙◌}
use Rattle.rules.specs.Lent.{lend}
use Rattle.rules.specs.Checks.{check_read}
use Rattle.demands.proofs.Requests.Tabled.{number-stays}
use Rattle.checks.specs.Listings.{ReadLooked}
use Rattle.checks.proofs.Numbers.{handed, some-number}
use Rattle.checks.proofs.Tabling.{cards-list}
use Rattle.checks.proofs.look_read.Goals as goal

pub returns-in_err-listing : goal.returns-in_err-listing
unfolding check_read
returns-in_err-listing c =
    let L = lend c.args.list.now c.args.cards.now c.args.table.now in
    let number = c.in_err-listing.ensures.looked c.args.table.now in
    handed (ReadLooked c.args.profile L) _ _ c.from_residual.ensures.1 (number ∙ sym (number-stays _ L (some-number _ _ number)))

pub then_table-requires : goal.then_table-requires
then_table-requires c =
    let L = lend c.args.list.now c.args.cards.now c.args.table.now in
    let look = c.in_ok-listing.ensures in
    (c.args.profile, c.args.list.now, _, look.looked c.args.table.now, cards-list c.args.profile L, refl, look.counts)

pub returns : goal.returns
unfolding check_read
returns c =
    let L = lend c.args.list.now c.args.cards.now c.args.table.now in
    let look = c.in_ok-listing.ensures in
    c.then_table.ensures c.args.profile c.args.list.now c.args.cards.now _ (look.looked c.args.table.now) (cards-list c.args.profile L) refl look.counts
