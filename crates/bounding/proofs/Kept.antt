-- The index of a list is kept: after a key put in, taken out, or a window swept.
use mathlib.Core.Path.{◌≡◌, ◌∙◌}
use mathlib.Core.Bool.{not}
use mathlib.Core.List.{List, []}
use Prim.Native.Nat.{ℕ, ◌+◌, ◌≤◌, ◌<◌}
use native.Mathlib.Omega.{arith}
use lib.Dec.{T}
use lib.ListN.{length, get_or, set, length-set}
use Rattle.lists.specs.Lists.{splice}
use Rattle.lists.proofs.Maps.{length-splice}
use Rattle.slots.specs.Segments.{Segments, keys}
use Rattle.slots.specs.Keys.{member, put}
use Rattle.slots.specs.Shown.{Shows, seat}
use Rattle.levels.specs.Tables.{table_of}
use Rattle.seats.specs.Bounds.{Bounded, Near, Indexed}
use Rattle.seats.proofs.Indexes.{some-segments, few-segments}
use Rattle.bounding.proofs.Changes.{put-kept, near-one, near-swept}

module _ (ss : Segments) (list bounds table : List ℕ) (ix : Indexed ss list bounds table) where
  -- a segment changed, with bounds and table of what it is now
  pub indexed-set : (list' bounds' table' : List ℕ) (s : ℕ) (new : List ℕ) → Shows (set ss s new) list' → Bounded 1 (set ss s new) bounds'
      → table' ≡ table_of ix.height (set ss s new) → Indexed (set ss s new) list' bounds' table'
  indexed-set list' bounds' table' s new sh b t =
      record {
        shows = sh;
        bound = b;
        height = ix.height;
        low = ix.low;
        size = length-set ss s new ∙ ix.size;
        right = t;
      }

  -- a new key put in: the bounds stay as they are
  pub indexed-put : (list' table' : List ℕ) (y : ℕ) → T (not (member y (keys ss))) → Shows (set ss (seat y ss) (put y (get_or ss (seat y ss) []))) list'
      → table' ≡ table_of ix.height (set ss (seat y ss) (put y (get_or ss (seat y ss) []))) → Indexed (set ss (seat y ss) (put y (get_or ss (seat y ss) []))) list' bounds table'
  indexed-put list' table' y t sh e =
      indexed-set list' bounds table' (seat y ss) (put y (get_or ss (seat y ss) [])) sh (put-kept y ss ix.shows.listed (some-segments ix) t bounds ix.bound) e

-- A window of n segments from i on, written anew, after segment s of it had become `new`.
pub record Resown (ss : Segments) : Type 0 where
  pub s : ℕ
  pub new : List ℕ
  pub i : ℕ
  pub n : ℕ
  pub window : Segments
  pub from : i ≤ s
  pub to : s < i + n
  pub many : length window ≡ n
  pub within : i + n ≤ length ss

-- what `rebound` promises, at a changed segment and at a swept window
module _ (ss : Segments) (list bounds table : List ℕ) (ix : Indexed ss list bounds table) (list' bounds' table' : List ℕ) where
  -- a key taken out, or any change of one segment: rebound(list, bounds, s, s + 1)
  pub indexed-one : (s : ℕ) (new : List ℕ) → Shows (set ss s new) list'
      → ((m : ℕ) (zs : Segments) → m ≤ s + 1 → Shows zs list' → length zs ≤ 64 → Near m zs s (s + 1) bounds → Bounded m zs bounds')
      → table' ≡ table_of ix.height (set ss s new) → Indexed (set ss s new) list' bounds' table'
  indexed-one s new sh promise =
      indexed-set ss list bounds table ix list' bounds' table' s new sh
      (promise 1 (set ss s new) (omega arith) sh (omega (arith, length-set ss s new, few-segments ix)) (near-one 1 ss bounds s new ix.bound))

  -- a window swept with one segment of it changed before: rebound(list, bounds, i, i + n)
  module _ (x : Resown ss) where
    abbrev left : Segments
    left = splice x.i x.n x.window (set ss x.s x.new)

    same : length (splice x.i x.n x.window (set ss x.s x.new)) ≡ length ss
    same = length-splice x.i x.n x.window (set ss x.s x.new) x.many (omega (arith, x.within, length-set ss x.s x.new)) ∙ length-set ss x.s x.new

    pub indexed-swept : Shows (splice x.i x.n x.window (set ss x.s x.new)) list'
        → ((m : ℕ) (zs : Segments) → m ≤ x.i + x.n → Shows zs list' → length zs ≤ 64 → Near m zs x.i (x.i + x.n) bounds → Bounded m zs bounds')
        → table' ≡ table_of ix.height (splice x.i x.n x.window (set ss x.s x.new))
        → Indexed (splice x.i x.n x.window (set ss x.s x.new)) list' bounds' table'
    indexed-swept sh promise t =
        record {
          shows = sh;
          bound = promise 1 left (omega (arith, x.to)) sh (omega (arith, same, few-segments ix))
              (near-swept 1 ss bounds x.s x.new x.i x.n x.window ix.bound x.from x.to x.many x.within);
          height = ix.height;
          low = ix.low;
          size = same ∙ ix.size;
          right = t;
        }
