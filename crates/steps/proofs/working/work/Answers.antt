-- `work` works the records in order. The loop's invariant: list, cards and forecast stand, the counts keep within bounds, and the whole run
-- of the rules is the work on the records that are left.
use mathlib.Core.Path.{◌≡◌, refl, sym, ap, ◌∙◌, subst}
use mathlib.Core.List.{List}
use Prim.Native.Nat.{ℕ, ◌<◌, ◌^◌}
use native.Mathlib.Nat.{pos_of_ne-zero}
use native.Mathlib.Omega.{arith}
use lib.ListN.{length}
use Rattle.forecast.specs.Tidy.{Roomy}
use Rattle.rules.specs.declared.Record.{Record}
use Rattle.rules.specs.Placing.{outcome}
use Rattle.rules.specs.Calls.{room_of}
use Rattle.rules.specs.Cards.{cards_beside, cards_after}
use Rattle.demands.proofs.Cards.Beside.{beside-length}
use Rattle.std.proofs.Common.{Result, Ok}
use Rattle.rules.specs.declared.Refusal.{Refusal}
use Rattle.aims.specs.declared.Aim.{Aim}
use Rattle.aims.specs.Aims.{Aimed}
use Rattle.aims.proofs.Standing.{few-stands}
use Rattle.tallies.specs.Counted.{next_of}
use Rattle.sweeps.specs.Acts.{Acting}
use Rattle.acts.proofs.ActedCells.{forecast-stays}
use Rattle.shares.specs.Rows.{shares_at}
use Rattle.steps.proofs.TurnOf.{keys-asked, acting, turned-accepted, turned-refused}
use Rattle.steps.proofs.CardTurn.{Carries, cards-refused, cards-accepted}
use Rattle.steps.proofs.MidWork.{Lent, Now, going_start, ends-whole, next, AtRecord, turning, nearer, ends-halt, OnRecord, on-record, fits, own_next, goes_on}
use borrow.Author.Rules.{rules}
use Rattle.steps.proofs.working.work.Goals as goal
use Rattle.steps.proofs.working.work.Goals.{Else-halts, After-next-tally, After-shared_slice_known-1, After-struct_known-in-loop-tally-1, Start}
use Rattle.steps.proofs.working.work.Lts.View.{up-Else-halts, up-After-struct_known-in-loop-tally-1}

roomy : (s : Start) → Roomy s.args.forecast
roomy s = record { markers = search rules; segments = search rules; counts = search rules }

few : (c : After-shared_slice_known-1) → length c.args.requests.now < 2 ^ 64
few c = search rules

-- the record at this turn, and what it comes to
module _ (c : After-struct_known-in-loop-tally-1) where
  abbrev lent : Lent
  lent =
      record {
        slots = c.args.list.now;
        cards = c.args.cards.now;
        forecast = c.args.forecast;
        bytes = c.args.requests.now;
        allowance = c.args.allowance;
        shape = c.args.shape;
      }

  abbrev here : Now
  here =
      let v = c.loop-tally in
      record {
        slots = v.list;
        cards = v.cards;
        forecast = v.forecast;
        bounds = v.bounds;
        table = v.table;
        keys = v.keys;
        last = v.last;
        tally = v.tally;
      }

  abbrev aimed : Result Aim Refusal
  aimed = c.aim-aimed.result

  abbrev read : Record
  read = c.record_at-record.result

  is-next : read ≡ next lent here
  is-next = c.record_at-record.ensures

  at-record : AtRecord lent here aimed
  at-record = record {
    going = c.loop-tally.invariant.0;
    more = c.loop-tally-test.true;
    aimed = subst (λ (z : Record). Aimed (shares_at lent.shape) z.request (room_of here.slots here.forecast) aimed) is-next
        (c.aim-aimed.ensures here.forecast c.loop-tally.invariant.0.stands);
  }

  -- its cards are as many as its slots
  same-many : length here.cards ≡ length here.slots
  same-many = ap length at-record.going.beside ∙ beside-length at-record.going.own here.slots

-- where nothing stops the run
module _ (c : Else-halts) where
  abbrev turn : After-struct_known-in-loop-tally-1
  turn = up-After-struct_known-in-loop-tally-1 _ _ _ _ _ _ c.before.before.before

  on : OnRecord (lent turn) (here turn) (aimed turn)
  on = on-record (at-record turn) (sym c.halts.ensures ∙ c.if-halts.false)

  -- where the request is accepted
  acting-here : {a : Aim} → aimed turn ≡ Ok a → Acting (here turn).slots (here turn).forecast (here turn).bounds (here turn).table (lent turn).shape a
  acting-here e = acting (turning (at-record turn)) e

  -- and the cards then
  carried : {a : Aim} → aimed turn ≡ Ok a → (slots cards : List ℕ) → Carries a (read turn).card (here turn).slots (here turn).cards slots cards → cards ≡ cards_beside (own_next on) slots
  carried e slots cards h =
      subst (λ (v : ℕ). cards ≡ cards_beside (cards_after (outcome (shares_at (lent turn).shape) (next (lent turn) (here turn)).request (room_of (here turn).slots (here turn).forecast)) (next (lent turn) (here turn)).request v on.at.going.own) slots)
      (ap (λ (z : Record). z.card) (is-next turn))
      (cards-accepted (turning (at-record turn)) on.at.going.own (read turn).card on.at.going.beside e slots cards h)

pub loop-tally-init : goal.loop-tally-init
loop-tally-init c =
    rw c.none-tally.ensures (
      going_start
          (record { slots = c.args.list.now; cards = c.args.cards.now; forecast = c.args.forecast; bytes = c.args.requests.now; allowance = c.args.allowance; shape = c.args.shape })
          c.args.bounds.now c.args.table.now c.args.keys _ c.requires.stands.0 c.requires.stands.1 c.requires.cards_value (roomy (goal.at.loop-tally-init c).Start),
      refl,
      refl,
      refl,
      refl,
      refl,
    )

pub aim-aimed-requires : goal.aim-aimed-requires
aim-aimed-requires c =
    let v = c.loop-tally in
    record { forecast = v.forecast; stands = v.invariant.0.stands; index = v.invariant.0.index }

pub overflow_sub-left : goal.overflow_sub-left
overflow_sub-left c = c.loop-tally.invariant.0.moves

pub shape_of-list-then-halts : goal.shape_of-list-then-halts
shape_of-list-then-halts c = c.loop-tally.invariant.1

pub shape_of-cards-then-halts : goal.shape_of-cards-then-halts
shape_of-cards-then-halts c = c.loop-tally.invariant.2

pub shape_of-table-then-halts : goal.shape_of-table-then-halts
shape_of-table-then-halts c = c.loop-tally.invariant.3

pub shape_of-bounds-then-halts : goal.shape_of-bounds-then-halts
shape_of-bounds-then-halts c = c.loop-tally.invariant.4

pub shape_of-plan-then-halts : goal.shape_of-plan-then-halts
shape_of-plan-then-halts c = c.loop-tally.invariant.5

pub returns-then-halts : goal.returns-then-halts
returns-then-halts c = rw c.within.ensures (ends-halt (at-record (goal.at.returns-then-halts c).After-struct_known-in-loop-tally-1) (sym c.halts.ensures ∙ c.if-halts.true))

pub note-forecast-requires : goal.note-forecast-requires
note-forecast-requires c = (_, _, _, acting-here (goal.at.note-forecast-requires c).Else-halts c.in-Ok.is)

pub shift-requires : goal.shift-requires
shift-requires c =
    record {
      acting = (_, _, acting-here (goal.at.shift-requires c).Else-halts c.in-Ok.is);
      level_value = c.if-aim-eq0.true;
      cards_len = same-many (goal.at.shift-requires c).After-struct_known-in-loop-tally-1;
    }

pub sweep-requires : goal.sweep-requires
sweep-requires c =
    let A = acting-here (goal.at.sweep-requires c).Else-halts c.in-Ok.is in record {
      plan_len = ((_, A, c.note-forecast.ensures _ _ _ A), c.loop-tally.invariant.5 ∙ c.requires.stands.2);
      le_level = (pos_of_ne-zero c.if-aim-eq0.false, same-many (goal.at.sweep-requires c).After-struct_known-in-loop-tally-1);
    }

pub retarget-forecast-requires : goal.retarget-forecast-requires
retarget-forecast-requires c =
    let A = acting-here (goal.at.retarget-forecast-requires c).Else-halts c.in-Ok.is in
    let N = c.note-forecast.ensures _ _ _ A in
    ((_, _, _, _, _, A, N), (c.sweep.ensures.left _ A N).index.bound.long)

pub grown-keys-requires : goal.grown-keys-requires
grown-keys-requires c =
    let a = at-record (goal.at.grown-keys-requires c).After-struct_known-in-loop-tally-1 in
    (few-stands a.going.stands, keys-asked (turning a))

pub next-tally-requires : goal.next-tally-requires
next-tally-requires c =
    let f = fits (on (goal.at.next-tally-requires c).Else-halts) (few (goal.at.next-tally-requires c).After-shared_slice_known-1) c.ranges.allowance.fits in
    (f.0, f.1, f.2, omega (arith, f.3, ap (λ (z : Record). z.size) (is-next (goal.at.next-tally-requires c).After-struct_known-in-loop-tally-1)), f.4)

-- the counts then, by the record's bytes
counts : (c : After-next-tally) → let z = turn (up-Else-halts _ _ _ _ _ _ c.before.before.before.before) in c.next-tally.result ≡ next_of (here z).tally (aimed z) (next (lent z) (here z)).size
counts c =
    let z = turn (up-Else-halts _ _ _ _ _ _ c.before.before.before.before) in
    c.next-tally.ensures ∙ ap (λ (q : Record). next_of (here z).tally (aimed z) q.size) (is-next z)

pub loop-tally-smaller-then-aim-eq0 : goal.loop-tally-smaller-then-aim-eq0
loop-tally-smaller-then-aim-eq0 c = nearer (at-record (goal.at.loop-tally-smaller-then-aim-eq0 c).After-struct_known-in-loop-tally-1) (counts (goal.at.loop-tally-smaller-then-aim-eq0 c).After-next-tally)

pub loop-tally-smaller-else-aim-eq0 : goal.loop-tally-smaller-else-aim-eq0
loop-tally-smaller-else-aim-eq0 c = nearer (at-record (goal.at.loop-tally-smaller-else-aim-eq0 c).After-struct_known-in-loop-tally-1) (counts (goal.at.loop-tally-smaller-else-aim-eq0 c).After-next-tally)

pub loop-tally-smaller : goal.loop-tally-smaller
loop-tally-smaller c = nearer (at-record (goal.at.loop-tally-smaller c).After-struct_known-in-loop-tally-1) (counts (goal.at.loop-tally-smaller c).After-next-tally)

-- the key shifted
pub loop-tally-preserved-then-aim-eq0 : goal.loop-tally-preserved-then-aim-eq0
loop-tally-preserved-then-aim-eq0 c =
    let p = goal.at.loop-tally-preserved-then-aim-eq0 c in
    let A = acting-here p.Else-halts c.in-Ok.is in
    let N = c.note-forecast.ensures _ _ _ A in
    let L = c.shift.ensures.left _ _ A in
    let t = turned-accepted (turning (at-record (turn p.Else-halts))) c.in-Ok.is (record { left = L; forecast = forecast-stays A N c.if-aim-eq0.true }) in
    let inv = c.loop-tally.invariant in (
      rw (counts p.After-next-tally, c.grown-keys.ensures, c.and-last.ensures) (goes_on (on p.Else-halts) t (carried p.Else-halts c.in-Ok.is _ _ c.shift.ensures.cards)),
      c.shift.auto.list ∙ inv.1,
      c.shift.auto.cards ∙ inv.2,
      c.shift.auto.table ∙ inv.3,
      c.shift.auto.bounds ∙ inv.4,
      inv.5,
    )

-- the window swept
pub loop-tally-preserved-else-aim-eq0 : goal.loop-tally-preserved-else-aim-eq0
loop-tally-preserved-else-aim-eq0 c =
    let p = goal.at.loop-tally-preserved-else-aim-eq0 c in
    let A = acting-here p.Else-halts c.in-Ok.is in
    let N = c.note-forecast.ensures _ _ _ A in
    let L = c.sweep.ensures.left _ A N in
    let F = c.retarget-forecast.ensures _ _ _ _ _ A N (pos_of_ne-zero c.if-aim-eq0.false) _ _ L in
    let t = turned-accepted (turning (at-record (turn p.Else-halts))) c.in-Ok.is (record { left = L; forecast = F }) in
    let inv = c.loop-tally.invariant in (
      rw (counts p.After-next-tally, c.grown-keys.ensures, c.and-last.ensures) (goes_on (on p.Else-halts) t (carried p.Else-halts c.in-Ok.is _ _ c.sweep.ensures.cards)),
      c.sweep.auto.list ∙ inv.1,
      c.sweep.auto.cards ∙ inv.2,
      c.sweep.auto.table ∙ inv.3,
      c.sweep.auto.bounds ∙ inv.4,
      c.sweep.auto.plan ∙ inv.5,
    )

-- refused
pub loop-tally-preserved : goal.loop-tally-preserved
loop-tally-preserved c =
    let p = goal.at.loop-tally-preserved c in
    let w = on p.Else-halts in
    let t = turning (at-record (turn p.Else-halts)) in
    let inv = c.loop-tally.invariant in (
      rw (counts p.After-next-tally, c.grown-keys.ensures, c.and-last.ensures) (goes_on w (turned-refused t c.in_default.is) (cards-refused t w.at.going.own _ w.at.going.beside)),
      inv.1,
      inv.2,
      inv.3,
      inv.4,
      inv.5,
    )

pub shape_of-list : goal.shape_of-list
shape_of-list c = c.loop-tally.invariant.1

pub shape_of-cards : goal.shape_of-cards
shape_of-cards c = c.loop-tally.invariant.2

pub shape_of-table : goal.shape_of-table
shape_of-table c = c.loop-tally.invariant.3

pub shape_of-bounds : goal.shape_of-bounds
shape_of-bounds c = c.loop-tally.invariant.4

pub shape_of-plan : goal.shape_of-plan
shape_of-plan c = c.loop-tally.invariant.5

pub returns : goal.returns
returns c = ends-whole c.loop-tally.invariant.0 c.loop-tally-test.false
