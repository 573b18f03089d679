-- move_left meets its contract. Invariant: after k turns the part and its cards are those of a movement of 4k slots.
use Prim.Native.Nat.{◌+◌, ◌*◌}
use mathlib.Core.Path.{◌≡◌}
use native.Mathlib.Omega.{arith}
use Rattle.moves.proofs.Fours.{left-turn, left-laid}
use Rattle.moves.proofs.move_left.Goals as goal

pub loop-k-preserved : goal.loop-k-preserved
loop-k-preserved c =
    let a = c.args in
    let loop = c.loop-k in
    let e : 4 * (loop.k + 1) ≡ 4 * loop.k + 4 = omega arith in
    rw e (
      left-turn a.part.now _ _ a.from a.to (4 * loop.k) 4 (omega arith) (omega arith) loop.invariant.0 c.move_four.ensures,
      left-turn a.cards.now _ _ a.from a.to (4 * loop.k) 4 (omega arith) (omega arith) loop.invariant.1 c.move_four-in-loop-k.ensures,
    )

pub returns : goal.returns
returns c =
    let a = c.args in
    let loop = c.loop-k in record {
      slots = left-laid a.part.now _ loop.part _ a.from a.to a.count 4 (4 * loop.k) (omega arith) (omega arith) (omega arith) (omega arith) (omega arith)
          c.read_four-four.ensures loop.invariant.0 c.put_four.ensures;
      cards = left-laid a.cards.now _ loop.cards _ a.from a.to a.count 4 (4 * loop.k) (omega arith) (omega arith) (omega arith) (omega arith) (omega arith)
          c.read_four-theirs.ensures loop.invariant.1 c.put_four-2.ensures;
    }
