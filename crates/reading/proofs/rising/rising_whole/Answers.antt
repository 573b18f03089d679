-- `rising_whole` goes by eights.
use Rattle.std.proofs.Common.{◌≡◌, ◌+◌, ◌-◌, ◌*◌, sym, ap, ◌∙◌, arith}
use Rattle.reading.specs.Stretches.{before}
use Rattle.reading.proofs.Stretched.{before-next, rises-slice, rises-far, rises-all, rises-on}
use Rattle.reading.proofs.rising.rising_whole.Goals as goal

pub returns-then-r-lt8 : goal.returns-then-r-lt8
returns-then-r-lt8 c =
    let s = c.args in
    let L = c.loop-k in
    let i = s.a + 8 * L.k in
    let r = c.rising-r in
    rises-on s.list.now s.a s.last i L.top (omega arith) L.invariant.1 L.invariant.0 (s.a + 64) (i + r.result)
    (rises-far s.list.now i L.top (i + 8) (s.a + 64) (i + r.result) (omega arith) (omega arith) (rises-slice s.list.now i (i + 8 - i) (i + 8) L.top r.result (omega arith) (omega arith) r.ensures))

pub loop-k-preserved : goal.loop-k-preserved
loop-k-preserved c =
    let s = c.args in
    let L = c.loop-k in
    let i = s.a + 8 * L.k in
    let r = c.rising-r in
    let on = rises-on s.list.now s.a s.last i L.top (omega arith) L.invariant.1 L.invariant.0 (i + 8) (i + r.result) (rises-slice s.list.now i (i + 8 - i) (i + 8) L.top r.result (omega arith) (omega arith) r.ensures) in
    let e : s.a + 8 * (L.k + 1) ≡ i + 7 + 1 = omega arith in (
      sym (ap (before s.list.now s.a s.last) e ∙ before-next s.list.now s.a s.last (i + 7) (omega arith)),
      λ k h l. rises-all s.list.now s.a s.last (i + 8) (i + r.result) (omega arith) on k (omega arith) l,
    )
