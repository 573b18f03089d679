-- `few` gathers one card at a time. The loop's invariant: `all` is `l` with the cards from `c` up to `i`.
use mathlib.Core.Path.{◌≡◌, subst}
use Prim.Native.Nat.{ℕ, ◌+◌}
use native.Mathlib.Omega.{arith}
use Rattle.strays.specs.Blanks.{Gathers}
use Rattle.strays.proofs.Gathered.{gathers-none, gathers-one, gathers-after}
use Rattle.strays.proofs.few.Goals as goal

pub loop-i-init : goal.loop-i-init
loop-i-init c = gathers-none _ _ _

pub loop-i-preserved : goal.loop-i-preserved
loop-i-preserved c =
    let s = c.args in
    let l = c.loop-i in
    gathers-after s.cards.now s.c l.i l.i (l.i + 1) (omega arith) (omega arith) (omega arith) l.invariant (gathers-one s.cards.now l.i l.all)

pub returns : goal.returns
returns c =
    let s = c.args in
    let l = c.loop-i in
    let e : l.i ≡ 64 = omega arith in
    subst (λ (k : ℕ). Gathers s.cards.now s.c k s.l l.all) e l.invariant
