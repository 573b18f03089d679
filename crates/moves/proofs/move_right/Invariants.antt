-- move_right meets its contract. Invariant: what is left to copy are the first i slots and their cards.
use Prim.Native.Nat.{◌≤◌, ◌<◌}
use mathlib.Core.Path.{◌≡◌}
use Rattle.moves.proofs.Moving.{Right}
use Rattle.moves.proofs.move_right.Given as goal

abbrev pub invariant-loop-i : goal.invariant-loop-i
invariant-loop-i l = (l.i ≤ l.count) × (0 < l.i) × (l.part ≡ Right l.initial.part l.from l.to l.count l.i) × (l.cards ≡ Right l.initial.cards l.from l.to l.count l.i)

abbrev pub decreases-loop-i : goal.decreases-loop-i
decreases-loop-i l = l.i
