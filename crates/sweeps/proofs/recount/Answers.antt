-- `recount` writes the counts of a plan, and the sums over them.
use Prim.Native.Nat.{◌+◌, ◌≤◌}
use native.Mathlib.Omega.{arith}
use lib.ListN.{length}
use Rattle.seats.proofs.Indexes.{few-segments, table-many, table-holds}
use Rattle.sweeps.proofs.Recounted.{copied, recount-asks, recounted}
use Rattle.sweeps.proofs.recount.Goals as goal
use Rattle.sweeps.proofs.recount.Goals.{Start}

-- the plan's places are in the table
ends : (s : Start) → s.args.first + length s.args.plan.now ≤ 64
ends s = omega (arith, s.requires.0.4, few-segments s.requires.0.3)

pub overflow_add-end : goal.overflow_add-end
overflow_add-end c = omega (arith, ends (goal.at.overflow_add-end c).Start)

pub slice_bounds-copy_from_slice-end : goal.slice_bounds-copy_from_slice-end
slice_bounds-copy_from_slice-end c = omega (arith, c.requires.0.4, table-holds c.requires.0.3)

pub overflow_sub-end : goal.overflow_sub-end
overflow_sub-end c = omega (arith, c.requires.1)

pub sum_over-requires : goal.sum_over-requires
sum_over-requires c = (
  recount-asks c.args.first c.args.table.now c.args.plan.now _ c.requires.1 (copied _ _ _ _ c.copy_from_slice.ensures.after) c.requires.0.3 c.requires.0.4 c.requires.2,
  omega (arith, c.requires.1),
  omega (arith, c.requires.1, c.requires.0.4, table-many c.requires.0.3),
)

pub returns : goal.returns
returns c h ss window size right counts =
    recounted c.args.first c.args.table.now c.args.plan.now _ c.requires.1 (copied _ _ _ _ c.copy_from_slice.ensures.after) h ss window _ size right (omega (arith, c.requires.0.4, table-many c.requires.0.3)) counts c.sum_over.ensures
