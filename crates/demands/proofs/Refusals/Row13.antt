-- Rows 12 and 13, of the cards: another length than the list's, and a card in a gap, at a single slot.
use mathlib.Core.Bool.{not}
use lib.Dec.{T_not, eqb, eqb→eq}
use lib.ListN.{length}
use Rattle.lists.proofs.Tests.{neqb→ne, double-not}
use Rattle.rules.specs.Cards.{gap_card}
use Rattle.rules.specs.Lent.{Lent}
use Rattle.demands.specs.Rows.{row12, row13}
use Rattle.demands.proofs.Cards.Gaps.{gap-found, gap-tested}
use Rattle.demands.proofs.Refusals.RowsInOrder.{Decides}

-- row 12
pub decides-12 : (L : Lent) → Decides (not (eqb (length L.cards) (length L.slots))) (row12 L)
decides-12 L = (
  neqb→ne (length L.cards) (length L.slots),
  λ t w. w (eqb→eq (length L.cards) (length L.slots) (double-not (eqb (length L.cards) (length L.slots)) t)),
)

-- row 13
pub decides-13 : (L : Lent) → Decides (gap_card L.slots L.cards) (row13 L)
decides-13 L = (
  λ t. let g = gap-found L.slots L.cards t in (g.0, g.1.0, g.1.1, g.1.2),
  λ t w. T_not (gap_card L.slots L.cards) t (gap-tested L.slots L.cards w.0 (w.1, w.2, w.3)),
)
