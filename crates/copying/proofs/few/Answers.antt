-- few meets its contract. Invariant: after `i` turns the outputs are those of a copy of `i` slots.
use native.Mathlib.Omega.{arith}
use lib.ListN.{length-set}
use Rattle.moves.proofs.Moving.{copy_more}
use Rattle.copying.proofs.few.Goals as goal

pub loop-i-preserved : goal.loop-i-preserved
loop-i-preserved c =
    let a = c.args in
    let i = c.loop-i.i in
    let inv = c.loop-i.invariant in (
      simp length-set (omega arith),
      simp length-set (omega arith),
      rw inv.2 (copy_more _ a.list.now a.a a.w i 0 (omega arith) (omega arith)),
      rw inv.3 (copy_more _ a.cards.now a.a a.w i 0 (omega arith) (omega arith)),
    )
