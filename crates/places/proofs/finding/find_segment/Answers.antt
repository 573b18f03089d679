-- `find_segment` finds the segment where a search ends. The loop's invariant is `Narrowed`.
use Prim.Native.Nat.{◌+◌, ◌-◌, ◌/◌}
use native.Mathlib.Omega.{arith}
use Rattle.places.proofs.Narrowing.{narrow_start, narrow-skip, narrow-up, narrow-down, narrow-end}
use Rattle.places.proofs.finding.find_segment.Goals as goal

pub loop-a-init : goal.loop-a-init
loop-a-init c = narrow_start c.args.list.now c.args.key c.requires

pub loop-a-preserved-then-head-eq0 : goal.loop-a-preserved-then-head-eq0
loop-a-preserved-then-head-eq0 c =
    let t = c.args in
    let loop = c.loop-a in
    narrow-skip t.list.now t.key loop.best loop.a loop.b (loop.a + (loop.b - loop.a) / 2) c.last_filled-s.result loop.invariant (omega arith)
    c.last_filled-s.ensures c.if-head-eq0.true

pub loop-a-preserved-then-head-key : goal.loop-a-preserved-then-head-key
loop-a-preserved-then-head-key c =
    let t = c.args in
    let loop = c.loop-a in
    narrow-up t.list.now t.key loop.best loop.a loop.b (loop.a + (loop.b - loop.a) / 2) c.last_filled-s.result loop.invariant (omega arith)
    c.last_filled-s.ensures c.if-head-eq0.false (omega arith)

pub loop-a-preserved : goal.loop-a-preserved
loop-a-preserved c =
    let t = c.args in
    let loop = c.loop-a in
    narrow-down t.list.now t.key loop.best loop.a loop.b (loop.a + (loop.b - loop.a) / 2) c.last_filled-s.result loop.invariant (omega arith)
    c.last_filled-s.ensures c.if-head-eq0.false (omega arith)

pub returns : goal.returns
returns c =
    let t = c.args in
    let loop = c.loop-a in
    record {
      range = loop.invariant.inside;
      place = narrow-end t.list.now t.key loop.best loop.a loop.b loop.invariant (omega arith);
    }
