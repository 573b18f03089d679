-- `rebound_from` writes the bounds of a stretch of segments, the last one first. The loop's invariant: those from `s` on are right.
use Prim.Native.Nat.{ℕ}
use mathlib.Core.Path.{◌≡◌, subst}
use native.Mathlib.Omega.{arith}
use Rattle.seats.specs.Bounds.{bound_at, Near}
use Rattle.bounding.proofs.Rewritten.{near-set, bound-down}
use Rattle.bounding.proofs.rebound_from.Goals as goal

pub loop-s-init : goal.loop-s-init
loop-s-init c = (omega arith, λ m ss sh n l. (n, l))

pub loop-s-preserved : goal.loop-s-preserved
loop-s-preserved c = let a = c.args in
    let loop = c.loop-s in (
      omega arith,
      λ m ss sh n l. let w = loop.invariant.1 m ss sh n l in
          let v = bound-down a.list.now ss sh loop.s loop.b c.bound_by-b.result (omega arith) w.1 c.bound_by-b.ensures in
          (near-set m ss a.a a.a loop.s loop.bounds c.bound_by-b.result w.0 (omega arith) (omega arith) (omega arith) v, v),
    )

pub returns : goal.returns
returns c m ss sh n l =
    let a = c.args in
    let loop = c.loop-s in
    let e : loop.s ≡ a.a = omega arith in
    let w = loop.invariant.1 m ss sh n l in
    (subst (λ (k : ℕ). Near m ss a.a k loop.bounds) e w.0, subst (λ (k : ℕ). loop.b ≡ bound_at ss k) e w.1)
