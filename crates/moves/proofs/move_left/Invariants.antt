-- move_left meets its contract. Invariant: after k turns the part and its cards are those of a movement of 4k slots.
use Prim.Native.Nat.{◌*◌}
use mathlib.Core.Path.{◌≡◌}
use Rattle.moves.specs.Moves.{moved}
use Rattle.moves.proofs.move_left.Given as goal

abbrev pub invariant-loop-k : goal.invariant-loop-k
invariant-loop-k l = (l.part ≡ moved l.from l.to (4 * l.k) l.initial.part) × (l.cards ≡ moved l.from l.to (4 * l.k) l.initial.cards)
