-- `look_over` finds the number of the check of the list and its cards, and counts its segments.
use mathlib.Core.Path.{◌≡◌, sym, ap, ap₂, ◌∙◌}
use mathlib.Core.Bool.{true}
use mathlib.Core.Logic.{◌≢◌}
use Prim.Native.Nat.{ℕ}
use native.Mathlib.Omega.{arith}
use lib.ListN.{length}
use Rattle.slots.specs.Segments.{height_of}
use Rattle.slots.specs.Orders.{order_of, is_kept}
use Rattle.rules.specs.declared.Profile.{Profile}
use Rattle.rules.specs.Refusals.{refusal_number}
use Rattle.rules.specs.Profiles.{number_of}
use Rattle.rules.specs.Shares.{shares, capacity}
use Rattle.rules.specs.Cards.{gap_card}
use Rattle.rules.specs.Lent.{lend}
use Rattle.rules.specs.Checks.{shares_of}
use Rattle.demands.proofs.Refusals.CheckCases.{unknown-profile, wrong-length, wrong-cards, wrong-order, card-in-gap, too_many, cards-sound}
use Rattle.rules.proofs.Sharing.Profiles.{number-named}
use Rattle.checks.proofs.Kept.{lawful-length, gaps_asked, gaps-told}
use Rattle.checks.proofs.Numbers.{refetched, handed, counting_kept}
use Rattle.checks.specs.Listings.{ListLooked}
use Rattle.checks.proofs.look_over.Goals as goal
use Rattle.checks.proofs.look_over.Goals.{After-stray}

pub returns-in_err-profile-clause-looked : goal.returns-in_err-profile-clause-looked
returns-in_err-profile-clause-looked c table =
    let L = lend c.args.list.now c.args.cards.now table in
    let told = c.in_err-profile.ensures in
    handed (ListLooked c.args.profile L) _ _ c.from_residual.ensures.1 (ap refusal_number told.1 ∙ sym (unknown-profile c.args.profile L told.0))

pub returns-in_default-clause-looked : goal.returns-in_default-clause-looked
returns-in_default-clause-looked c table = sym (wrong-length _ (lend c.args.list.now c.args.cards.now table) c.in_ok-profile.ensures.0 c.in_default.ensures)

pub returns-then-cards-list-clause-looked : goal.returns-then-cards-list-clause-looked
returns-then-cards-list-clause-looked c table =
    sym (wrong-cards _ (lend c.args.list.now c.args.cards.now table) c.in_ok-profile.ensures.0 (omega (arith, c.in-Some.ensures)) c.if-cards-list.true)

pub read_slots-requires : goal.read_slots-requires
read_slots-requires c = omega (arith, lawful-length (length c.args.list.now) (omega (arith, c.in-Some.ensures)))

pub returns-in_default-read_slots-clause-looked : goal.returns-in_default-read_slots-clause-looked
returns-in_default-read_slots-clause-looked c table =
    sym (wrong-order _ (lend c.args.list.now c.args.cards.now table) c.in_ok-profile.ensures.0 (omega (arith, c.in-Some.ensures)) c.if-cards-list.false (ap is_kept c.in_default-read_slots.ensures.order))

pub stray-requires : goal.stray-requires
stray-requires c =
    let a = c.args in
    gaps_asked a.list.now a.counts.now (ap is_kept c.in-Ok.ensures.order.0) (omega (arith, c.in-Some.ensures)) c.read_slots.new.counts c.in-Ok.ensures.counts a.cards.now c.if-cards-list.false c.requires

-- the list has a height, and its order is kept
module _ (c : After-stray) where
  high : height_of (length c.args.list.now) ≢ 0
  high = omega (arith, c.in-Some.ensures)

  kept : is_kept (order_of c.args.list.now) ≡ true
  kept = ap is_kept c.in-Ok.ensures.order.0

  -- a gap has a card, or none has
  gaps : c.stray.result ≡ gap_card c.args.list.now c.args.cards.now
  gaps = gaps-told c.args.list.now c.args.counts.now kept high c.read_slots.new.counts c.in-Ok.ensures.counts c.args.cards.now _ c.stray.ensures

pub returns-then-stray-clause-looked : goal.returns-then-stray-clause-looked
returns-then-stray-clause-looked c table =
    let s = (goal.at.returns-then-stray-clause-looked c).After-stray in
    sym (card-in-gap _ (lend c.args.list.now c.args.cards.now table) c.in_ok-profile.ensures.0 (high s) c.if-cards-list.false (kept s) (sym (gaps s) ∙ c.if-stray.true))

pub returns-then-shape-keys-clause-looked : goal.returns-then-shape-keys-clause-looked
returns-then-shape-keys-clause-looked c table =
    let s = (goal.at.returns-then-shape-keys-clause-looked c).After-stray in
    let a = c.args in
    let fetched = c.shape_of-shape.ensures.1 in
    let most : c.shape_of-shape.result.capacity ≡ capacity (shares_of a.profile a.list.now) = fetched.capacity ∙ ap₂ (λ (p : Profile) (h : ℕ). capacity (shares p h)) c.in_ok-profile.ensures.1 c.in-Some.ensures.0 in
    sym (too_many _ (lend a.list.now a.cards.now table) c.in_ok-profile.ensures.0 (high s) c.if-cards-list.false (kept s) (sym (gaps s) ∙ c.if-stray.false) (omega (arith, most, c.in-Ok.ensures.order.1)))

pub returns-clause-looked : goal.returns-clause-looked
returns-clause-looked c table =
    let s = (goal.at.returns-clause-looked c).After-stray in
    let a = c.args in
    let fetched = c.shape_of-shape.ensures.1 in
    let most : c.shape_of-shape.result.capacity ≡ capacity (shares_of a.profile a.list.now) = fetched.capacity ∙ ap₂ (λ (p : Profile) (h : ℕ). capacity (shares p h)) c.in_ok-profile.ensures.1 c.in-Some.ensures.0 in (
      sym (cards-sound _ (lend a.list.now a.cards.now table) c.in_ok-profile.ensures.0 (high s) c.if-cards-list.false (kept s) (sym (gaps s) ∙ c.if-stray.false) (omega (arith, most, c.in-Ok.ensures.order.1))),
      record {
        named = ap number_of (c.shape_of-shape.ensures.0 ∙ c.in_ok-profile.ensures.1) ∙ number-named a.profile (rw c.in_ok-profile.ensures.0 tt);
        height = fetched.height ∙ c.in-Some.ensures.0;
        shape = refetched _ _ _ c.shape_of-shape.ensures.0 fetched;
        keys = c.in-Ok.ensures.order.1;
      },
    )

pub returns-clause-counts : goal.returns-clause-counts
returns-clause-counts c =
    counting_kept c.args.list.now _ _ _ c.requires c.in-Ok.ensures.counts (kept (goal.at.returns-clause-counts c).After-stray)
