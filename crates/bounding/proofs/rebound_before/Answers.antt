-- `rebound_before` writes the bounds of the empty segments before one. The loop's invariant: those from `s` on are right.
use Prim.Native.Nat.{ℕ, ◌-◌}
use mathlib.Core.Path.{◌≡◌, subst}
use native.Mathlib.Omega.{arith}
use Rattle.seats.specs.Bounds.{Near}
use Rattle.bounding.proofs.Rewritten.{near-set, near-all, near-stop, bound-same, has-keys}
use Rattle.bounding.proofs.rebound_before.Goals as goal

pub loop-s-init : goal.loop-s-init
loop-s-init c = λ m ss sh n l. (n, l)

pub returns-then-list-s-ne0 : goal.returns-then-list-s-ne0
returns-then-list-s-ne0 c m ss sh n l =
    let loop = c.loop-s in
    near-stop m ss loop.s loop.bounds (omega arith) (loop.invariant m ss sh n l).0 (has-keys c.args.list.now ss sh (loop.s - 1) c.if-list-s-ne0.true)

pub loop-s-preserved : goal.loop-s-preserved
loop-s-preserved c = let a = c.args in
    let loop = c.loop-s in
    λ m ss sh n l. let w = loop.invariant m ss sh n l in
    let v = bound-same a.list.now ss sh loop.s a.b (omega arith) w.1 c.if-list-s-ne0.false in
    (near-set m ss loop.s (loop.s - 1) loop.s loop.bounds a.b w.0 (omega arith) (omega arith) (omega arith) v, v)

pub returns : goal.returns
returns c m ss sh n l =
    let loop = c.loop-s in
    let e : loop.s ≡ 0 = omega arith in
    near-all m ss loop.s loop.bounds (subst (λ (k : ℕ). Near m ss loop.s k loop.bounds) e (loop.invariant m ss sh n l).0)
