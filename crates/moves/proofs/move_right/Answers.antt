-- move_right meets its contract. Invariant: what is left to copy are the first i slots and their cards.
use Prim.Native.Nat.{◌+◌, ◌-◌}
use mathlib.Core.Path.{refl}
use native.Mathlib.Omega.{arith}
use Rattle.moves.proofs.Moving.{right-none}
use Rattle.moves.proofs.Fours.{right-turn, right-laid}
use Rattle.moves.proofs.move_right.Goals as goal

pub loop-i-init : goal.loop-i-init
loop-i-init c = let a = c.args in (omega arith, omega arith, right-none _ a.from a.to a.count _ refl, right-none _ a.from a.to a.count _ refl)

pub loop-i-preserved : goal.loop-i-preserved
loop-i-preserved c =
    let a = c.args in
    let loop = c.loop-i in (
      omega arith,
      omega arith,
      right-turn a.part.now _ _ a.from a.to a.count loop.i _ 4 (omega arith) (omega arith) (omega arith) (omega arith) loop.invariant.2 c.move_four.ensures,
      right-turn a.cards.now _ _ a.from a.to a.count loop.i _ 4 (omega arith) (omega arith) (omega arith) (omega arith) loop.invariant.3 c.move_four-in-loop-i.ensures,
    )

pub returns : goal.returns
returns c =
    let a = c.args in
    let loop = c.loop-i in record {
      slots = right-laid a.part.now _ loop.part _ a.from a.to a.count 4 loop.i (omega arith) (omega arith) (omega arith) (omega arith)
          c.read_four-four.ensures loop.invariant.2 c.put_four.ensures;
      cards = right-laid a.cards.now _ loop.cards _ a.from a.to a.count 4 loop.i (omega arith) (omega arith) (omega arith) (omega arith)
          c.read_four-theirs.ensures loop.invariant.3 c.put_four-2.ensures;
    }
