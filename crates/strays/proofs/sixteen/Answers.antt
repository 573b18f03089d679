-- `sixteen` gathers eight, and eight more.
use mathlib.Core.Path.{◌≡◌, subst}
use Prim.Native.Nat.{ℕ, ◌+◌}
use native.Mathlib.Omega.{arith}
use Rattle.strays.specs.Blanks.{Gathers}
use Rattle.strays.proofs.Gathered.{gathers-after}
use Rattle.strays.proofs.sixteen.Goals as goal

pub returns : goal.returns
returns c =
    let s = c.args in
    let e : s.i + 8 + 8 ≡ s.i + 16 = omega arith in
    subst (λ (k : ℕ). Gathers s.cards.now s.i k s.l c.eight-2.result) e
    (gathers-after s.cards.now s.i (s.i + 8) (s.i + 8) (s.i + 8 + 8) (omega arith) (omega arith) (omega arith) c.eight.ensures c.eight-2.ensures)
