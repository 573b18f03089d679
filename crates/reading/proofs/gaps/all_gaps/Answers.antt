-- `all_gaps` goes by sixteens, the last of which may overlap those before; or by two eights that may overlap.
use Rattle.std.proofs.Common.{◌+◌, ◌-◌, ◌*◌, arith}
use lib.Dec.{eqb→eq}
use Rattle.reading.proofs.Eights.{none, bare-join, bare-slice, bare-all}
use Rattle.reading.proofs.gaps.all_gaps.Goals as goal

pub returns-then-e-a : goal.returns-then-e-a
returns-then-e-a c t =
    let s = c.args in
    let xs = s.list.now in
    let two = none _ _ (eqb→eq _ 0 t) in
    let one = bare-slice xs s.a (s.a + 8 - s.a) (s.a + 8) (omega arith) (omega arith) (c.bits.ensures two.0) in
    let last = bare-slice xs (s.e - 8) (s.e - (s.e - 8)) s.e (omega arith) (omega arith) (c.bits-then-e-a.ensures two.1) in
    bare-all xs s.a s.e (omega arith) (bare-join xs s.a (s.e - 8) s.e (λ k h l. one k h (omega arith)) last)

pub loop-k-preserved : goal.loop-k-preserved
loop-k-preserved c =
    let s = c.args in
    let L = c.loop-k in
    let i = s.a + 16 * L.k in
    bare-join s.list.now s.a i (s.a + 16 * (L.k + 1)) L.invariant
    (bare-slice s.list.now i (i + 16 - i) (s.a + 16 * (L.k + 1)) (omega arith) (omega arith) (c.bits-in-loop-k.ensures c.if-bits-ne0.false))

pub returns : goal.returns
returns c t =
    let s = c.args in
    let xs = s.list.now in
    let last = bare-slice xs (s.e - 16) (s.e - (s.e - 16)) s.e (omega arith) (omega arith) (c.bits-2.ensures (eqb→eq _ 0 t)) in
    bare-all xs s.a s.e (omega arith) (bare-join xs s.a (s.e - 16) s.e (λ k h l. c.loop-k.invariant k h (omega arith)) last)
