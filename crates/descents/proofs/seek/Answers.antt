-- `seek` finds the segment where a search ends. Invariant: it is one of the m from a on, which are under entry e.
use native.Mathlib.Omega.{arith}
use Rattle.descents.proofs.Searches.{sought-start, sought-none, sought-up, sought-down, sought-end}
use Rattle.descents.proofs.Fits.{fit}
use Rattle.descents.proofs.seek.Goals as goal

pub loop-e-init : goal.loop-e-init
loop-e-init c = (omega arith, omega arith, λ F. sought-start c.args.n c.args.list.now c.args.table.now c.args.key F)

pub loop-e-preserved-then-table-right-eq0 : goal.loop-e-preserved-then-table-right-eq0
loop-e-preserved-then-table-right-eq0 c =
    let g = c.args in
    let L = c.loop-e in
    (omega arith, omega arith, λ F. sought-none g.n g.list.now g.table.now g.key L.e L.a L.m F (L.invariant.2 F) (omega arith) L.invariant.1 c.if-table-right-eq0.true)

pub loop-e-preserved-then-list-s : goal.loop-e-preserved-then-list-s
loop-e-preserved-then-list-s c =
    let g = c.args in
    let L = c.loop-e in
    let f = c.first_in-s in
    (omega arith, omega arith, λ F. sought-up g.n g.list.now g.table.now g.key L.e L.a L.m F (L.invariant.2 F) (omega arith) L.invariant.1 f.result (λ w v. f.ensures.place F.sums w v c.if-table-right-eq0.false) (omega arith))

pub loop-e-preserved : goal.loop-e-preserved
loop-e-preserved c =
    let g = c.args in
    let L = c.loop-e in
    let f = c.first_in-s in
    (omega arith, omega arith, λ F. sought-down g.n g.list.now g.table.now g.key L.e L.a L.m F (L.invariant.2 F) (omega arith) L.invariant.1 f.result (λ w v. f.ensures.place F.sums w v c.if-table-right-eq0.false) (omega arith))

pub returns : goal.returns
returns c =
    let g = c.args in
    let L = c.loop-e in
    record {
      range = omega arith;
      place = λ h ss p sh t. sought-end g.n g.list.now g.key L.e L.a L.m (L.invariant.2 (fit g.n g.list.now g.table.now c.requires.1 h ss p sh t)) (omega arith) c.requires.1 ss sh;
    }
