-- copy meets its contract. Invariant: after k turns the outputs are those of a copy of 4k slots.
use Prim.Native.Nat.{◌*◌}
use mathlib.Core.Path.{◌≡◌}
use lib.ListN.{length, drop}
use lib.Seq.{paste}
use Rattle.copying.proofs.copy.Given as goal

abbrev pub invariant-loop-k : goal.invariant-loop-k
invariant-loop-k l =
    (length l.output ≡ length l.initial.output) × (length l.output_cards ≡ length l.initial.output_cards)
    × (l.output ≡ paste l.initial.output l.w (drop l.a l.list) (4 * l.k)) × (l.output_cards ≡ paste l.initial.output_cards l.w (drop l.a l.cards) (4 * l.k))
