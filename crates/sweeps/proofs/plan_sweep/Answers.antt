-- `plan_sweep` meets its contract: the keys that weigh are marked, and the window with its marks is planned by the rows of its height.
use mathlib.Core.Path.{◌≡◌, refl, sym, ap, subst, ◌∙◌}
use mathlib.Core.List.{List, map}
use Prim.Native.Nat.{ℕ, ◌^◌, ◌/◌, ◌*◌, ◌≤◌}
use native.Mathlib.Omega.{arith}
use lib.ListN.{length, take, length-map}
use lib.Seq.{length-take-le}
use borrow.Author.Rules.{rules}
use Rattle.slots.specs.Segments.{segments_of}
use Rattle.cells.specs.Cells.{weight}
use Rattle.forecast.specs.declared.Forecast.{Forecast}
use Rattle.forecast.specs.Cells.{used_cells}
use Rattle.stretches.specs.declared.Part.{Part}
use Rattle.stretches.specs.Marks.{Marked, places_of, weights_of}
use Rattle.stretches.specs.Parts.{PartOf}
use Rattle.planning.specs.Plans.{Planned}
use Rattle.marks.specs.Marking.{after}
use Rattle.shares.specs.Rows.{shares_at}
use Rattle.sweeps.specs.Acts.{Acting, Noted}
use Rattle.sweeps.proofs.PlanFor.{level-small, planned, first-few, lent, marking, front-small, part, plan-back}
use Rattle.sweeps.proofs.plan_sweep.Goals as goal
use Rattle.sweeps.proofs.plan_sweep.Goals.{After-front_weight-front, After-whole-part, Start}

-- a part of the buffer is lent
buffer : (s : Start) {n : ℕ} → n ≤ 64 → length (take n s.args.plan.now) ≡ n
buffer s {n} h = length-take-le n s.args.plan.now (omega (arith, s.requires.le_level.1))

-- its marks, with any forecast and bounds that the request was aimed with
module _ (c : After-front_weight-front) where
  abbrev keys_there : List ℕ
  keys_there = after (record { first = c.args.aim.segment / c.power-n.result * c.power-n.result; n = c.power-n.result; key = c.args.aim.key; grows = c.args.aim.grows }) (segments_of c.args.list.now)

  marked : {F : Forecast} {bounds : List ℕ} → Acting c.args.list.now F bounds c.args.table.now c.args.shape c.args.aim → Noted c.args.list.now F c.args.shape c.args.aim c.args.forecast
      → Marked (map (weight (used_cells c.args.forecast)) keys_there) (places_of (take c.mark-r.result c.mark-r.new.row)) (weights_of (take c.mark-r.result c.mark-r.new.row))
  marked A N = c.mark-r.ensures.marks (segments_of c.args.list.now) (marking A c.requires.le_level.0 c.power-n.ensures.0 refl N)

-- the window with its marks as one part
module _ (c : After-whole-part) where
  abbrev ws : List ℕ
  ws = map (weight (used_cells c.args.forecast))
      (after (record { first = c.args.aim.segment / c.power-n.result * c.power-n.result; n = c.power-n.result; key = c.args.aim.key; grows = c.args.aim.grows }) (segments_of c.args.list.now))

  whole : {F : Forecast} {bounds : List ℕ} → Acting c.args.list.now F bounds c.args.table.now c.args.shape c.args.aim → Noted c.args.list.now F c.args.shape c.args.aim c.args.forecast
      → PartOf ws (places_of (take c.mark-r.result c.mark-r.new.row)) (weights_of (take c.mark-r.result c.mark-r.new.row)) c.whole-part.result
  whole A N =
      subst (PartOf ws (places_of (take c.mark-r.result c.mark-r.new.row)) (weights_of (take c.mark-r.result c.mark-r.new.row))) (sym c.whole-part.ensures)
      (part A c.requires.le_level.0 c.power-n.ensures.0 refl N c.front_weight-front.ensures (c.mark-r.ensures.marks (segments_of c.args.list.now) (marking A c.requires.le_level.0 c.power-n.ensures.0 refl N)))

pub power-n-requires : goal.power-n-requires
power-n-requires c = level-small c.requires.by_index.2 c.requires.le_level.0

pub overflow_mul-first : goal.overflow_mul-first
overflow_mul-first c = omega (arith, first-few c.requires.by_index.2 c.requires.le_level.0 c.power-n.ensures.0 refl)

pub mark-r-requires : goal.mark-r-requires
mark-r-requires c =
    record {
      n_bound = (c.power-n.ensures.1, refl);
      n_in_bounds = lent c.requires.by_index.2 c.requires.le_level.0 c.power-n.ensures.0 refl;
      tidy = c.requires.by_index.3.tidy;
    }

pub slice_bounds-marks-end : goal.slice_bounds-marks-end
slice_bounds-marks-end c = sym (length-take-le _ _ (search rules))

pub whole-part-requires : goal.whole-part-requires
whole-part-requires c =
    let m = marked (goal.at.whole-part-requires c).After-front_weight-front c.requires.by_index.2 c.requires.by_index.3 in
    (omega (arith, m.few, length-map (take c.mark-r.result c.mark-r.new.row) (λ m. m.place)), m.small, front-small c.requires.by_index.2 c.requires.le_level.0 c.power-n.ensures.0 refl c.requires.by_index.3 c.front_weight-front.ensures)

pub slice_bounds-plan_window-end-4 : goal.slice_bounds-plan_window-end-4
slice_bounds-plan_window-end-4 c = sym (buffer (goal.at.slice_bounds-plan_window-end-4 c).Start c.power-n.ensures.1)

pub plan_window-requires : goal.plan_window-requires
plan_window-requires c =
    let long : length (take c.power-n.result c.args.plan.now) ≡ 2 ^ c.args.aim.level = buffer (goal.at.plan_window-requires c).Start c.power-n.ensures.1 ∙ c.power-n.ensures.0 in
    let keys : c.whole-part.result.keys ≡ c.args.aim.moves = ap (λ (q : Part). q.keys) c.whole-part.ensures in record {
      by_index = (ws (goal.at.plan_window-requires c).After-whole-part, whole (goal.at.plan_window-requires c).After-whole-part c.requires.by_index.2 c.requires.by_index.3);
      rows = (
        shares_at c.args.shape,
        c.requires.by_index.2.stands.shape.rows,
        subst (Planned (shares_at c.args.shape) c.args.aim.level _) (sym keys) (planned c.requires.by_index.2 c.requires.le_level.0 _ long),
      );
    }

pub returns : goal.returns
returns c =
    let size = c.power-n.ensures.0 in
    let done = c.plan_window.ensures in record {
      range = search rules;
      plan = λ F bounds A N. plan-back A c.requires.le_level.0 size refl N c.front_weight-front.ensures (weights_of (take c.mark-r.result c.mark-r.new.row)) _ _ c.whole-part.ensures (done.range ∙ buffer (goal.at.returns c).Start c.power-n.ensures.1)
          (done.counts (shares_at c.args.shape) (ws (goal.at.returns c).After-whole-part) (planned A c.requires.le_level.0 _ size).level A.stands.shape.rows (whole (goal.at.returns c).After-whole-part A N));
    }
