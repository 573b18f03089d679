-- What a classroom lends beside its forecast: the slots of a list, a card beside each (document 02, (ii)), and the table of counts (document
-- 02, (iv)).
use Rattle.std.specs.Prelude.{List, ℕ, length}
use Rattle.slots.specs.Segments.{height_of, segments_of}
use Rattle.levels.specs.Tables.{table_of}
use Rattle.rules.specs.Cards.{card_at, cards_beside}

pub record Lent : Type 0 where
  pub slots : List ℕ
  pub cards : List ℕ
  pub table : List ℕ

abbrev pub lend : List ℕ → List ℕ → List ℕ → Lent
lend slots cards table = record { slots = slots; cards = cards; table = table }

-- The card of each key.
abbrev pub cards_of : Lent → ℕ → ℕ
cards_of L = card_at L.slots L.cards

-- The table that is right for these slots, and the slots with it and with the cards of their keys.
abbrev pub right_table : List ℕ → List ℕ
right_table slots = table_of (height_of (length slots)) (segments_of slots)

abbrev pub laid : (ℕ → ℕ) → List ℕ → Lent
laid c slots = lend slots (cards_beside c slots) (right_table slots)
