-- `sweep` deals a window out by its plan, each key with its card, and writes the window's counts, the sums over them, and its bounds.
use mathlib.Core.Path.{◌≡◌, refl, sym, ◌∙◌}
use Prim.Native.Nat.{ℕ, ◌+◌, ◌-◌, ◌*◌, ◌/◌, ◌≤◌, ◌<◌}
use native.Mathlib.Omega.{arith}
use lib.ListN.{length, take}
use lib.Seq.{length-take-le}
use borrow.Rule.Slice.PartMut.{mid_of, put_mid, mid_len, same_len_mid}
use Rattle.slots.specs.Segments.{segments_of}
use Rattle.gaps.proofs.Natural.{part-kept, back-kept}
use Rattle.seats.proofs.Indexes.{few-segments, count_small}
use Rattle.sweeps.specs.Acts.{Acting}
use Rattle.sweeps.proofs.SweptLeft.{level-low, at-few, from, to, ends, slots_lent, counts-lent, fits, planted, swept-left}
use Rattle.sweeps.proofs.sweep.Goals as goal
use Rattle.sweeps.proofs.sweep.Goals.{After-power-n}

-- the window, once its size is known
module _ (c : After-power-n) where
  abbrev first : ℕ
  first = c.args.aim.segment / c.power-n.result * c.power-n.result

  -- its slots
  abbrev begin : ℕ
  begin = 64 * first

  abbrev many : ℕ
  many = 64 * first + 64 * c.power-n.result - 64 * first

  abbrev given : Acting c.args.list.now c.requires.acting.0 c.args.bounds.now c.args.table.now c.requires.acting.1 c.args.aim
  given = c.requires.acting.2

  abbrev swept : 1 ≤ c.args.aim.level
  swept = c.requires.le_level.0

  begins-in : first ≤ c.args.aim.segment
  begins-in = from given swept c.power-n.result first c.power-n.ensures.0 refl

  ends-in : c.args.aim.segment < first + c.power-n.result
  ends-in = to given swept c.power-n.result first c.power-n.ensures.0 refl

  last-in : first + c.power-n.result ≤ length (segments_of c.args.list.now)
  last-in = ends given swept c.power-n.result first c.power-n.ensures.0 refl

  below_end : (j : ℕ) → j < c.args.aim.segment → j < length (segments_of c.args.list.now)
  below_end j h = omega (arith, last-in, ends-in)

  ending : first + c.power-n.result ≤ 64
  ending = omega (arith, last-in, few-segments given.index)

  within : 64 * first + 64 * c.power-n.result ≤ length c.args.list.now
  within = slots_lent given swept c.power-n.result first c.power-n.ensures.0 refl

  cards-within : 64 * first + 64 * c.power-n.result ≤ length c.args.cards.now
  cards-within = omega (arith, within, c.requires.cards_len)

  -- the window's cards, as many as its slots
  cards-lent : length (mid_of begin many c.args.cards.now) ≡ length (mid_of begin many c.args.list.now)
  cards-lent = mid_len begin (begin + 64 * c.power-n.result) c.args.cards.now cards-within ∙ sym (mid_len begin (begin + 64 * c.power-n.result) c.args.list.now within)

  within-counts : first + c.power-n.result ≤ length c.args.table.now
  within-counts = counts-lent given swept c.power-n.result first c.power-n.ensures.0 refl

  plan-few : length (take c.power-n.result c.args.plan.now) ≡ c.power-n.result
  plan-few = length-take-le c.power-n.result c.args.plan.now (omega (arith, c.power-n.ensures, c.requires.le_level.1))

pub power-n-requires : goal.power-n-requires
power-n-requires c = level-low c.requires.acting.2 c.requires.le_level.0

pub overflow_mul-first : goal.overflow_mul-first
overflow_mul-first c = omega (arith, ending (goal.at.overflow_mul-first c).After-power-n)

pub overflow_mul-a : goal.overflow_mul-a
overflow_mul-a c = omega (arith, ending (goal.at.overflow_mul-a c).After-power-n)

pub overflow_add-e : goal.overflow_add-e
overflow_add-e c = omega (arith, ending (goal.at.overflow_add-e c).After-power-n)

pub keys_in-requires : goal.keys_in-requires
keys_in-requires c =
    let a = c.args in
    let gap : a.aim.segment - first (goal.at.keys_in-requires c).After-power-n ≤ 64 = omega (arith, ending (goal.at.keys_in-requires c).After-power-n, begins-in (goal.at.keys_in-requires c).After-power-n, ends-in (goal.at.keys_in-requires c).After-power-n) in
    let low : a.aim.segment ≤ length a.table.now = omega (arith, within-counts (goal.at.keys_in-requires c).After-power-n, ends-in (goal.at.keys_in-requires c).After-power-n) in
    (begins-in (goal.at.keys_in-requires c).After-power-n, gap, low, λ j h. count_small (given (goal.at.keys_in-requires c).After-power-n).index j (below_end (goal.at.keys_in-requires c).After-power-n j h))

pub overflow_add-p : goal.overflow_add-p
overflow_add-p c =
    let q : c.keys_in.result ≤ 64 * (c.args.aim.segment - first (goal.at.overflow_add-p c).After-power-n) = c.keys_in.ensures.range in
    omega (arith, q, at-few (given (goal.at.overflow_add-p c).After-power-n) (swept (goal.at.overflow_add-p c).After-power-n), ending (goal.at.overflow_add-p c).After-power-n, begins-in (goal.at.overflow_add-p c).After-power-n, ends-in (goal.at.overflow_add-p c).After-power-n)

pub offset_bounds-list-a : goal.offset_bounds-list-a
offset_bounds-list-a c = omega (arith, ending (goal.at.offset_bounds-list-a c).After-power-n)

pub slice_bounds-sow-end : goal.slice_bounds-sow-end
slice_bounds-sow-end c = within (goal.at.slice_bounds-sow-end c).After-power-n

pub offset_bounds-cards-a : goal.offset_bounds-cards-a
offset_bounds-cards-a c = omega (arith, ending (goal.at.offset_bounds-cards-a c).After-power-n)

pub slice_bounds-sow-end-2 : goal.slice_bounds-sow-end-2
slice_bounds-sow-end-2 c = cards-within (goal.at.slice_bounds-sow-end-2 c).After-power-n

pub overflow_add-first : goal.overflow_add-first
overflow_add-first c = omega (arith, ending (goal.at.overflow_add-first c).After-power-n)

pub offset_bounds-table-first : goal.offset_bounds-table-first
offset_bounds-table-first c = omega (arith, ending (goal.at.offset_bounds-table-first c).After-power-n)

pub slice_bounds-sow-end-3 : goal.slice_bounds-sow-end-3
slice_bounds-sow-end-3 c = within-counts (goal.at.slice_bounds-sow-end-3 c).After-power-n

pub slice_bounds-sow-end-4 : goal.slice_bounds-sow-end-4
slice_bounds-sow-end-4 c = sym (plan-few (goal.at.slice_bounds-sow-end-4 c).After-power-n)

pub sow-requires : goal.sow-requires
sow-requires c =
    let keys = c.keys_in in record {
      planted = planted (given (goal.at.sow-requires c).After-power-n) (swept (goal.at.sow-requires c).After-power-n) c.power-n.result (first (goal.at.sow-requires c).After-power-n) c.power-n.ensures.0 refl c.args.plan.now c.requires.acting.3 keys.result keys.ensures.sum c.power-n.ensures.1;
      cards_len = cards-lent (goal.at.sow-requires c).After-power-n;
    }

pub slice_bounds-recount-end : goal.slice_bounds-recount-end
slice_bounds-recount-end c = sym (plan-few (goal.at.slice_bounds-recount-end c).After-power-n)

pub recount-requires : goal.recount-requires
recount-requires c =
    let l : length (take c.power-n.result c.args.plan.now) ≡ c.power-n.result = plan-few (goal.at.recount-requires c).After-power-n in
    ((_, _, _, (given (goal.at.recount-requires c).After-power-n).index, omega (arith, l, last-in (goal.at.recount-requires c).After-power-n)), omega (arith, l, c.power-n.ensures), fits (given (goal.at.recount-requires c).After-power-n) (swept (goal.at.recount-requires c).After-power-n) c.power-n.result (first (goal.at.recount-requires c).After-power-n) c.power-n.ensures.0 refl c.args.plan.now c.requires.acting.3)

pub overflow_add-first-2 : goal.overflow_add-first-2
overflow_add-first-2 c = omega (arith, ending (goal.at.overflow_add-first-2 c).After-power-n)

pub rebound-requires : goal.rebound-requires
rebound-requires c =
    let sows = c.sow in
    let l : length (put_mid (begin (goal.at.rebound-requires c).After-power-n) (many (goal.at.rebound-requires c).After-power-n) c.args.list.now sows.new.window) ≡ length c.args.list.now = same_len_mid (begin (goal.at.rebound-requires c).After-power-n) (many (goal.at.rebound-requires c).After-power-n) c.args.list.now sows.new.window sows.auto.window in
    (omega (arith, c.power-n.ensures), ending (goal.at.rebound-requires c).After-power-n, omega (arith, l, within (goal.at.rebound-requires c).After-power-n), (given (goal.at.rebound-requires c).After-power-n).index.bound.long)

pub returns : goal.returns
returns c =
    let sows = c.sow in
    let counts = c.recount in
    let bounds = c.rebound in record {
      left = λ F shape A P. swept-left A (swept (goal.at.returns c).After-power-n) c.power-n.result (first (goal.at.returns c).After-power-n) c.power-n.ensures.0 refl c.args.plan.now P sows.new.window sows.ensures.keys bounds.new.bounds counts.new.table counts.ensures bounds.ensures;
      cards = λ f z y h. back-kept f c.args.list.now h (begin (goal.at.returns c).After-power-n) (many (goal.at.returns c).After-power-n) sows.new.window (sows.ensures.cards f z y (part-kept f c.args.list.now h (begin (goal.at.returns c).After-power-n) (many (goal.at.returns c).After-power-n)));
    }
