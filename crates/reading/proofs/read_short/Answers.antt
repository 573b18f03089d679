-- `reading::read_short` meets its contract: what is left of the slots is one segment, short or empty.
use Rattle.std.proofs.Common.{◌-◌, length, refl, arith}
use lib.ListN.{drop, length-take, length-drop}
use Rattle.reading.proofs.Readers.{sound-few, sound-end}
use Rattle.reading.proofs.SegmentReads.{segment-sound, segment-fault}
use Rattle.reading.proofs.Stretched.{rises-slice}
use Rattle.reading.proofs.read_short.Goals as goal

pub returns-then-j-n : goal.returns-then-j-n
returns-then-j-n c =
    let a = c.args in
    let pre = c.requires in
    let rise = rises-slice a.list.now a.a (length a.list.now - a.a) (length a.list.now) a.last c.rising.result (omega arith) (omega arith) c.rising.ensures in
    segment-fault _ pre.3 pre.2 (omega arith) (omega arith) rise c.gaps_rest-j.ensures c.slot_before-top.ensures (omega arith) c.fault_of.ensures

pub overflow_add-result : goal.overflow_add-result
overflow_add-result c = omega (arith, sound-few c.requires.3, c.rising.ensures.to, length-take (length c.args.list.now - c.args.a) (drop c.args.a c.args.list.now), length-drop c.args.a c.args.list.now)

pub returns : goal.returns
returns c =
    let a = c.args in
    let pre = c.requires in
    let rise = rises-slice a.list.now a.a (length a.list.now - a.a) (length a.list.now) a.last c.rising.result (omega arith) (omega arith) c.rising.ensures in
    sound-end (segment-sound _ pre.3 pre.2 (omega arith) (omega arith) rise c.gaps_rest-j.ensures refl (omega arith)) (omega arith)
