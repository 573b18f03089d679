-- `first_in` finds the first segment under an entry that is not empty. Invariant: it is under entry `at`.
use native.Mathlib.Omega.{arith}
use Rattle.descents.proofs.Trees.{firsting-start, firsting-left, firsting-right, firsting-end, first-at-once}
use Rattle.descents.proofs.first_in.Goals as goal

pub returns-then-table-a-ne0 : goal.returns-then-table-a-ne0
returns-then-table-a-ne0 c =
    let g = c.args in
    record {
      range = omega arith;
      place = λ s m v z. first-at-once g.n g.table.now g.e g.a m v c.if-a-n.true c.if-table-a-ne0.true;
    }

pub loop-at-init : goal.loop-at-init
loop-at-init c = let g = c.args in (omega arith, λ s m v z. firsting-start g.n g.table.now g.a m g.e v z)

pub loop-at-preserved-then-table-left-eq0 : goal.loop-at-preserved-then-table-left-eq0
loop-at-preserved-then-table-left-eq0 c =
    let g = c.args in
    let L = c.loop-at in
    (omega arith, λ s m v z. firsting-right g.n g.table.now s g.a m L.at (L.invariant.1 s m v z) (omega arith) c.if-table-left-eq0.true)

pub loop-at-preserved : goal.loop-at-preserved
loop-at-preserved c =
    let g = c.args in
    let L = c.loop-at in
    (omega arith, λ s m v z. firsting-left g.n g.table.now s g.a m L.at (L.invariant.1 s m v z) (omega arith) c.if-table-left-eq0.false)

pub returns : goal.returns
returns c =
    let g = c.args in
    let L = c.loop-at in
    record {
      range = omega arith;
      place = λ s m v z. firsting-end g.n g.table.now s g.a m L.at (L.invariant.1 s m v z) (omega arith);
    }
