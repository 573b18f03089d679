-- lay_in meets its contract: the key is put in before the slots, among them or after them.
use Prim.Native.Nat.{◌+◌, ◌-◌}
use native.Mathlib.Omega.{arith}
use Rattle.gaps.proofs.Natural.{moved-kept, set-kept}
use Rattle.spreads.proofs.Inserting.{lay-after, lay-before, lay-with}
use Rattle.spreads.proofs.lay_in.Goals as goal

pub returns-then-p-at : goal.returns-then-p-at
returns-then-p-at c =
    let a = c.args in
    let moves = c.move_right.ensures in record {
      keys = lay-after a.newcomer.key a.window.now a.at a.to a.c a.newcomer.place (omega arith) moves.slots;
      cards = λ f k h. moved-kept f a.window.now h (a.at - 1) a.to a.c moves.slots moves.cards;
    }

pub returns-then-x-c : goal.returns-then-x-c
returns-then-x-c c =
    let a = c.args in
    let x = a.newcomer.place - a.at in
    let between = c.move_right-then-x-c.new.part in
    let after = c.move_right-then-x-c.ensures in
    let before = c.move_right-then-x-c-2.ensures in record {
      keys = lay-with a.newcomer.key a.window.now a.at a.to a.c a.newcomer.place (omega arith) (omega arith) (omega arith) (omega arith) between after.slots before.slots;
      cards = λ f k h.
          moved-kept f _ (set-kept f between (moved-kept f a.window.now h a.newcomer.place (a.to + x + 1) (a.c - 1 - x) after.slots after.cards) (a.to + x) a.newcomer.key a.newcomer.card k)
          a.at a.to x before.slots before.cards;
    }

pub returns : goal.returns
returns c =
    let a = c.args in
    let moves = c.move_right-2.ensures in record {
      keys = lay-before a.newcomer.key a.window.now a.at a.to a.c a.newcomer.place (omega arith) (omega arith) moves.slots;
      cards = λ f k h. moved-kept f a.window.now h a.at a.to a.c moves.slots moves.cards;
    }
