-- `climb` finds the smallest window within limits.
-- The loop's invariant: e is the entry of the window of level `level`, of `size` segments, and no window tried so far is within limits.
use mathlib.Core.Path.{◌≡◌}
use mathlib.Core.List.{List, []}
use Prim.Native.Nat.{ℕ, ◌+◌, ◌-◌, ◌^◌, ◌≤◌}
use lib.ListN.{length, get_or, set}
use Rattle.slots.specs.Segments.{Segments}
use Rattle.levels.specs.Tables.{table_of}
use Rattle.levels.specs.Levels.{entry_of}
use Rattle.shares.specs.Rows.{shares_at}
use Rattle.climbs.proofs.Grown.{Tried}
use Rattle.climbs.proofs.climbing.climb.Given as goal

abbrev pub invariant-loop-level : goal.invariant-loop-level
invariant-loop-level l =
    (l.level ≤ l.shape.height) × (l.size ≡ 2 ^ l.level) × (l.n ≡ 2 ^ l.shape.height) × (l.e ≡ entry_of (2 ^ l.shape.height) l.seg l.level)
    × ((ss : Segments) (new : List ℕ) → length ss ≡ 2 ^ l.shape.height → l.table ≡ table_of l.shape.height ss → length new + l.gone ≡ length (get_or ss l.seg []) + l.grown → Tried (shares_at l.shape) l.seg (set ss l.seg new) l.level)

abbrev pub decreases-loop-level : goal.decreases-loop-level
decreases-loop-level l = l.shape.height - l.level
