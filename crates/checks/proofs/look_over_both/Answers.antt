-- `look_over_both` finds the number of the check of list, cards and forecast.
use mathlib.Core.Path.{◌≡◌, sym, ap, ◌∙◌}
use mathlib.Core.List.{List, []}
use Prim.Native.Nat.{ℕ, ◌+◌, ◌≤◌}
use native.Mathlib.Omega.{arith}
use lib.ListN.{length}
use Rattle.slots.specs.Segments.{segments_of}
use Rattle.forecast.specs.Faults.{fault_of, is_sound}
use Rattle.rules.specs.Shares.{cells_of}
use Rattle.rules.specs.Lent.{lend}
use Rattle.rules.specs.Checks.{shares_of, check_list}
use Rattle.demands.proofs.Requests.Shown.{shows-passed, long-passed}
use Rattle.demands.proofs.Requests.Checked.{forecast-stays, forecast-wrong, forecast-passes}
use Rattle.checks.specs.Listings.{BothLooked}
use Rattle.checks.proofs.Numbers.{handed, some-number}
use Rattle.checks.proofs.Tabling.{cards-list}
use Rattle.checks.proofs.look_over_both.Goals as goal
use Rattle.checks.proofs.look_over_both.Goals.{After-fault_of}

pub returns-in_err-listing-clause-looked : goal.returns-in_err-listing-clause-looked
returns-in_err-listing-clause-looked c table =
    let L = lend c.args.list.now c.args.cards.now table in
    let number = c.in_err-listing.ensures.looked table in
    handed (BothLooked c.args.profile L c.args.forecast) _ _ c.from_residual.ensures.1 (number ∙ sym (forecast-stays _ _ _ _ (some-number _ _ number)))

-- the fault that is found is the rules'
fault-is : (c : After-fault_of) → c.fault_of.result ≡ fault_of (cells_of (shares_of c.args.profile c.args.list.now)) (segments_of c.args.list.now) c.args.forecast
fault-is c =
    let slots : List ℕ = c.args.list.now in
    let look = c.in_ok-listing.ensures.looked [] in
    let passes : check_list c.args.profile slots ≡ 0 = cards-list c.args.profile (lend slots c.args.cards.now []) (sym look.0) in
    let long : 64 ≤ length slots = omega (arith, long-passed c.args.profile slots passes) in
    c.fault_of.ensures (segments_of slots) (shows-passed c.args.profile slots passes) long
    ∙ ap (λ (p : ℕ). fault_of p (segments_of slots) c.args.forecast) (look.1.shape.cells ∙ ap (λ (h : ℕ). 6 + h) look.1.height)

pub returns-in-Err-clause-looked : goal.returns-in-Err-clause-looked
returns-in-Err-clause-looked c table =
    let f = fault-is (goal.at.returns-in-Err-clause-looked c).After-fault_of in
    sym (forecast-wrong _ c.args.profile c.args.list.now c.args.forecast (sym (c.in_ok-listing.ensures.looked table).0) (sym (ap is_sound f) ∙ ap is_sound c.in-Err.is))

pub returns-clause-looked : goal.returns-clause-looked
returns-clause-looked c table =
    let f = fault-is (goal.at.returns-clause-looked c).After-fault_of in
    let look = c.in_ok-listing.ensures.looked table in
    (sym (forecast-passes _ c.args.profile c.args.list.now c.args.forecast (sym look.0) (sym (ap is_sound f) ∙ ap is_sound c.in_default.is)), look.1)
