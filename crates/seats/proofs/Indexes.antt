-- What the index of a list tells: its table counts the segments first, and no list has more than 4,096 keys.
use mathlib.Core.Path.{◌≡◌, sym, ap, ◌∙◌}
use mathlib.Core.List.{List, []}
use Prim.Native.Nat.{ℕ, ◌+◌, ◌*◌, ◌/◌, ◌^◌, ◌≤◌, ◌<◌}
use native.Mathlib.Nat.{pow-le-pow_right}
use native.Mathlib.Omega.{arith}
use lib.ListN.{length, get_or}
use Rattle.lists.proofs.Members.{at_mem}
use Rattle.slots.specs.Segments.{Segments, keys}
use Rattle.slots.specs.Shown.{Shows, CountsOf}
use Rattle.slots.proofs.Windows.{pow_pos}
use Rattle.slots.proofs.Render.{length-render}
use Rattle.levels.specs.Tables.{table_of}
use Rattle.levels.proofs.Tables.{few-keys, length-table, table-counts}
use Rattle.seats.specs.Bounds.{bounds_of, Indexed}
use Rattle.seats.proofs.Bounds.{bounded_of, bounded-from}

-- an index by the bounds of a list and a table that is right
pub indexed-start : (ss : Segments) (list bounds table : List ℕ) (h : ℕ) → h ≤ 6 → Shows ss list → length ss ≡ 2 ^ h → bounds ≡ bounds_of ss → table ≡ table_of h ss
    → Indexed ss list bounds table
indexed-start ss list bounds table h low sh e b t =
    record {
      shows = sh;
      bound = bounded-from 0 1 ss bounds (omega arith) (bounded_of ss bounds b);
      height = h;
      low = low;
      size = e;
      right = t;
    }

module _ {ss : Segments} {slots bounds table : List ℕ} (ix : Indexed ss slots bounds table) where
  pub some-segments : 0 < length ss
  some-segments = omega (arith, ix.size, pow_pos ix.height)

  pub few-segments : length ss ≤ 64
  few-segments = omega (arith, ix.size, pow-le-pow_right {n = 2} (omega arith) {i = ix.height} {j = 6} ix.low)

  -- 64 slots for each
  pub slots-long : length slots ≡ 64 * length ss
  slots-long = ap length ix.shows.whole ∙ length-render 0 ss ix.shows.fits

  -- the keys
  pub keys-few : length (keys ss) ≤ 4096
  keys-few = few-keys ix.height ss ix.size ix.low ix.shows.fits

  -- THE TABLE
  pub table-length : length table + 1 ≡ 2 * length ss
  table-length = ap (λ (t : List ℕ). length t + 1) ix.right ∙ length-table ix.height ss ix.size ∙ ap (λ (n : ℕ). 2 * n) (sym ix.size)

  pub table-many : length table / 2 + 1 ≡ length ss
  table-many = omega (arith, table-length)

  pub table-holds : length ss ≤ length table
  table-holds = omega (arith, table-length, some-segments)

  pub counts-held : CountsOf ss table
  counts-held = rw ix.right (table-counts ix.height ss ix.size)

  pub count_small : (k : ℕ) → k < length ss → get_or table k 0 ≤ 64
  count_small k h = omega (arith, counts-held k h, ix.shows.fits (get_or ss k []) (at_mem ss k [] h))
