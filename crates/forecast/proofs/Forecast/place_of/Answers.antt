-- `forecast::Forecast::place_of` meets its contract: the first place of the marker among all 12 is that among those used, where it is one of them.
use mathlib.Core.Path.{◌≡◌, sym}
use native.Mathlib.Omega.{arith}
use borrow.Author.Rules.{rules}
use lib.ListN.{length}
use Rattle.forecast.proofs.Placed.{near-some, far-some, none-none}
use Rattle.forecast.proofs.Forecast.place_of.Goals as goal

pub returns-in_err-at : goal.returns-in_err-at
returns-in_err-at c =
    let l : length c.args.self.now.markers ≡ 12 = search rules in
    rw c.from_residual.ensures (none-none _ c.args.self.now.used c.args.self.now.markers (sym c.in_err-at.ensures) (omega arith))

pub returns-then-at-self : goal.returns-then-at-self
returns-then-at-self c =
    let l : length c.args.self.now.markers ≡ 12 = search rules in
    near-some _ c.args.self.now.used _ c.args.self.now.markers (sym c.in_ok-at.ensures) c.if-at-self.true (omega arith)

pub returns-else-at-self : goal.returns-else-at-self
returns-else-at-self c = far-some _ c.args.self.now.used _ c.args.self.now.markers (sym c.in_ok-at.ensures) c.if-at-self.false
