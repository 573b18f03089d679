-- few meets its contract. Invariant: after `i` turns the outputs are those of a copy of `i` slots.
use mathlib.Core.Path.{◌≡◌}
use lib.ListN.{length, drop}
use lib.Seq.{paste}
use Rattle.copying.proofs.few.Given as goal

abbrev pub invariant-loop-i : goal.invariant-loop-i
invariant-loop-i l =
    (length l.output ≡ length l.initial.output) × (length l.output_cards ≡ length l.initial.output_cards)
    × (l.output ≡ paste l.initial.output l.w (drop l.a l.list) l.i) × (l.output_cards ≡ paste l.initial.output_cards l.w (drop l.a l.cards) l.i)
