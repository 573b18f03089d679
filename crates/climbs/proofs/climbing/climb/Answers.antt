-- `climb` finds the smallest window within limits.
-- The loop's invariant: e is the entry of the window of level `level`, of `size` segments, and no window tried so far is within limits.
use mathlib.Core.Path.{◌≡◌, refl, sym, ap, ap₂, ◌∙◌}
use mathlib.Core.List.{List, []}
use Prim.Native.Nat.{ℕ, ◌+◌, ◌-◌, ◌*◌, ◌/◌, ◌^◌, ◌≤◌, ◌<◌}
use native.Mathlib.Nat.{pow-le-pow_right, pow-zero, pow-succ'}
use native.Mathlib.Numerals.{add-one}
use native.Mathlib.Omega.{arith}
use lib.ListN.{length, get_or, set}
use Rattle.slots.specs.Segments.{Segments}
use Rattle.slots.specs.Windows.{count}
use Rattle.slots.proofs.Windows.{pow_pos}
use Rattle.levels.specs.Tables.{table_of}
use Rattle.levels.specs.Levels.{entry_of}
use Rattle.levels.proofs.Tables.{length-table}
use Rattle.shares.specs.Rows.{shares_at}
use Rattle.climbs.proofs.Grown.{way_in, way-few, way-least, way-count, tried-more, climbed-here, climbed-none}
use Rattle.climbs.proofs.climbing.climb.Goals as goal
use Rattle.climbs.proofs.climbing.climb.Goals.{Else-h-level}

-- the next window: its size, and its entry
module _ (c : Else-h-level) where
  abbrev h : ℕ
  h = c.args.shape.height

  abbrev table : List ℕ
  table = c.args.table.now

  abbrev next : ℕ
  next = c.loop-level.level + 1

  small : c.loop-level.size ≤ 32
  small = rw c.loop-level.invariant.1 (pow-le-pow_right {n = 2} (omega arith) {i = c.loop-level.level} {j = 5} (omega arith))

  next-size : c.loop-level.size * 2 ≡ 2 ^ next
  next-size = rw (c.loop-level.invariant.1, add-one) (omega (arith, pow-succ' 2 c.loop-level.level))

  up : length table / 2 + 1 + c.loop-level.e / 2 ≡ entry_of (2 ^ h) c.args.seg next
  up = rw (add-one c.loop-level.level) (ap₂ {C = ℕ} (λ (m i : ℕ). m + i / 2) c.loop-level.invariant.2 c.loop-level.invariant.3)

  inside : entry_of (2 ^ h) c.args.seg next < length table
  inside = way_in c.requires.4 c.requires.2 next (omega arith)

  few : get_or table (entry_of (2 ^ h) c.args.seg next) 0 ≤ 4096
  few = way-few c.requires.4 c.requires.2 next (omega arith)

  least : c.args.gone ≤ get_or table (entry_of (2 ^ h) c.args.seg next) 0
  least = way-least c.requires.4 c.requires.2 next (omega arith)

  -- what is read there, with the request done
  many : (ss : Segments) (new : List ℕ) → length ss ≡ 2 ^ h → table ≡ table_of h ss → length new + c.args.gone ≡ length (get_or ss c.args.seg []) + c.args.grown
      → get_or table (length table / 2 + 1 + c.loop-level.e / 2) 0 + c.args.grown - c.args.gone ≡ count next c.args.seg (set ss c.args.seg new)
  many ss new e t g = rw up (way-count c.requires.4 c.requires.2 next (omega arith) ss new c.args.grown e t g)

pub loop-level-init : goal.loop-level-init
loop-level-init c =
    let x = c.requires.4 in (
      omega arith,
      sym (pow-zero 2),
      omega (arith, ap length x.right, length-table c.args.shape.height x.segments x.size, pow_pos c.args.shape.height),
      refl,
      λ ss new e t g j p q. absurd (omega arith),
    )

pub overflow_mul-size : goal.overflow_mul-size
overflow_mul-size c = omega (arith, small (goal.at.overflow_mul-size c).Else-h-level)

pub overflow_add-e : goal.overflow_add-e
overflow_add-e c = omega (arith, up (goal.at.overflow_add-e c).Else-h-level, inside (goal.at.overflow_add-e c).Else-h-level)

pub offset_bounds-table-e : goal.offset_bounds-table-e
offset_bounds-table-e c = omega (arith, up (goal.at.offset_bounds-table-e c).Else-h-level, inside (goal.at.offset_bounds-table-e c).Else-h-level)

pub bounds-table-e : goal.bounds-table-e
bounds-table-e c = omega (arith, up (goal.at.bounds-table-e c).Else-h-level, inside (goal.at.bounds-table-e c).Else-h-level)

pub overflow_add-keys : goal.overflow_add-keys
overflow_add-keys c = rw (up (goal.at.overflow_add-keys c).Else-h-level) (omega (arith, few (goal.at.overflow_add-keys c).Else-h-level))

pub overflow_sub-keys : goal.overflow_sub-keys
overflow_sub-keys c = rw (up (goal.at.overflow_sub-keys c).Else-h-level) (omega (arith, least (goal.at.overflow_sub-keys c).Else-h-level))

pub fits-requires : goal.fits-requires
fits-requires c =
    let p = c.requires in
    (p.0, p.1, omega arith, next-size (goal.at.fits-requires c).Else-h-level, omega (arith, small (goal.at.fits-requires c).Else-h-level), p.3)

pub loop-level-preserved : goal.loop-level-preserved
loop-level-preserved c =
    let a = c.args in
    let L = c.loop-level in (
      omega arith,
      next-size (goal.at.loop-level-preserved c).Else-h-level,
      L.invariant.2,
      up (goal.at.loop-level-preserved c).Else-h-level,
      λ ss new e t g. tried-more (shares_at a.shape) a.seg (set ss a.seg new) L.level _ (many (goal.at.loop-level-preserved c).Else-h-level ss new e t g) (sym c.if-fits.false ∙ c.fits.ensures) (L.invariant.4 ss new e t g),
    )

pub returns-then-h-level : goal.returns-then-h-level
returns-then-h-level c =
    let a = c.args in
    let L = c.loop-level in
    record {
      range = tt;
      window = λ ss new e t g. climbed-none (shares_at a.shape) a.seg (set ss a.seg new) (λ j p q. L.invariant.4 ss new e t g j p (omega arith));
    }

pub returns-then-fits : goal.returns-then-fits
returns-then-fits c =
    let a = c.args in
    let L = c.loop-level in record {
      range = (omega arith, omega arith, rw (up (goal.at.returns-then-fits c).Else-h-level) (omega (arith, few (goal.at.returns-then-fits c).Else-h-level)));
      window = λ ss new e t g. climbed-here (shares_at a.shape) a.seg (set ss a.seg new) L.level _ (omega arith) (many (goal.at.returns-then-fits c).Else-h-level ss new e t g) (sym c.if-fits.true ∙ c.fits.ensures) (L.invariant.4 ss new e t g);
    }
