-- `reading::read_slots` meets its contract.
use Rattle.std.proofs.Common.{◌-◌, ◌*◌, refl, arith}
use lib.ListN.{length-set}
use Rattle.reading.proofs.Readers.{sound-few, sound-as}
use Rattle.reading.proofs.SegmentReads.{segment-sound, segment-fault}
use Rattle.reading.proofs.SegmentCounts.{tally-more, tally-all, tally-none}
use Rattle.reading.proofs.read_slots.Goals as goal

pub returns-then-j-e-clause-order : goal.returns-then-j-e-clause-order
returns-then-j-e-clause-order c =
    segment-fault _ c.loop-s.invariant.1 (omega arith) (omega arith) (omega arith) c.rising_whole-i.ensures c.gaps_end-j.ensures c.slot_before-top.ensures (omega arith) c.fault_of.ensures

pub returns-then-j-e-clause-counts : goal.returns-then-j-e-clause-counts
returns-then-j-e-clause-counts c =
    tally-none _
    (segment-fault _ c.loop-s.invariant.1 (omega arith) (omega arith) (omega arith) c.rising_whole-i.ensures c.gaps_end-j.ensures c.slot_before-top.ensures (omega arith) c.fault_of.ensures)
    (omega arith)

pub overflow_add-keys : goal.overflow_add-keys
overflow_add-keys c = omega (arith, sound-few c.loop-s.invariant.1)

pub loop-s-preserved : goal.loop-s-preserved
loop-s-preserved c =
    let L = c.loop-s in
    let next = segment-sound _ L.invariant.1 (omega arith) (omega arith) (omega arith) c.rising_whole-i.ensures c.gaps_end-j.ensures c.slot_before-top.ensures (omega arith) in
    (simp length-set (omega arith), sound-as (omega arith) refl refl next, tally-more _ L.s (c.rising_whole-i.result - 64 * L.s) L.invariant.1 next refl refl (omega arith) (omega arith) L.invariant.2)

pub returns-clause-counts : goal.returns-clause-counts
returns-clause-counts c = tally-all _ (omega arith) (omega arith) c.loop-s.invariant.2
