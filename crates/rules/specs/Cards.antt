-- Document 02, (ii): a card beside each key, in a second array of the list's length.
use Rattle.std.specs.Prelude.{ℕ, Bool, false, not, ◌&&◌, ◌||◌, List, [], ◌∷◌, map, eqb, get_or, if◌then◌else◌}
use Rattle.lists.specs.Search.{place_by}
use Rattle.rules.specs.declared.Request.{Request}
use Rattle.rules.specs.declared.Request.TheVariants.{Insert, Delete, Bad}
use Rattle.rules.specs.Placing.{Outcome}

-- The card of key k: the one in k's slot. (0 for a number that is no key of the list.)
unfoldable pub card_at : List ℕ → List ℕ → ℕ → ℕ
card_at slots cards k = get_or cards (place_by (eqb k) slots) 0

-- What stands beside a slot, where c is the card of each key: its key's card; a gap's card is 0.
abbrev pub card_in : (ℕ → ℕ) → ℕ → ℕ
card_in c x = if eqb x 0 then 0 else c x

unfoldable pub cards_beside : (ℕ → ℕ) → List ℕ → List ℕ
cards_beside c slots = map (card_in c) slots

-- A card in a gap: some slot is 0 and its card is not.
abbrev pub gap_card : List ℕ → List ℕ → Bool
gap_card [] cards = false
gap_card (x ∷ slots) [] = false
gap_card (x ∷ slots) (v ∷ cards) = (eqb x 0 && not (eqb v 0)) || gap_card slots cards

-- The card of each key once a request is accepted; v came with it. A delete changes none: the
-- card of a key that is gone is not read.
abbrev pub carded : Request → ℕ → (ℕ → ℕ) → ℕ → ℕ
carded (Insert y) v c k = if eqb k y then v else c k
carded (Delete y) v c k = c k
carded Bad v c k = c k

-- Accepted or refused: refused, each key keeps its card.
abbrev pub cards_after : Outcome → Request → ℕ → (ℕ → ℕ) → ℕ → ℕ
cards_after o q v c = if eqb o.answer.number 0 then carded q v c else c
