-- `sums_right` tells whether each entry above level 0 is the sum of its halves. Invariant: those below n + i are, so that the next two
-- halves have at most all keys between them.
use native.Mathlib.Omega.{arith}
use borrow.Author.Count.{below_more}
use Rattle.judging.proofs.Judged.{front-start, front-two, front-more}
use Rattle.judging.proofs.sums_right.Goals as goal

pub loop-i-init : goal.loop-i-init
loop-i-init c = (λ j l. absurd (omega arith), front-start c.args.n c.args.table.now c.requires.1 c.requires.3)

pub overflow_add-table : goal.overflow_add-table
overflow_add-table c =
    let L = c.loop-i in
    omega (arith, front-two c.args.n L.i c.args.table.now c.requires.2 (omega arith), L.invariant.1)

pub returns-then-table-n : goal.returns-then-table-n
returns-then-table-n c = let L = c.loop-i in record { yes = λ t. absurd t; no = λ p. absurd (c.if-table-n.true (p L.i (omega arith))) }

pub loop-i-preserved : goal.loop-i-preserved
loop-i-preserved c =
    let L = c.loop-i in
    (below_more _ _ L.invariant.0 c.if-table-n.false, omega (arith, front-more c.args.n L.i c.args.table.now c.requires.2 (omega arith) c.if-table-n.false, L.invariant.1))

pub returns : goal.returns
returns c = record { yes = λ t j l. c.loop-i.invariant.0 j (omega arith); no = λ p. tt }
