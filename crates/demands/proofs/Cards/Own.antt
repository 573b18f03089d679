-- Cards of slots in order, with none in a gap, stand beside them: each is the card of its key.
use mathlib.Core.Path.{◌≡◌, sym, ap, ◌∙◌}
use mathlib.Core.Bool.{false}
use mathlib.Core.Logic.{◌≢◌}
use mathlib.Core.List.{List}
use Prim.Native.Nat.{ℕ, ◌≤◌, ◌<◌}
use native.Mathlib.Decide.{dec_lt}
use native.Mathlib.Omega.{arith}
use lib.Dec.{eqb, eqb→eq, eqb_refl}
use lib.ListN.{length, get_or}
use lib.Seq.{ext_get_or}
use Rattle.lists.specs.Search.{place_by}
use Rattle.std.proofs.lemmas.List.{get_or-map}
use Rattle.lists.proofs.Members.{at_mem}
use Rattle.lists.proofs.Search.{place-mem, place-passes}
use Rattle.slots.specs.Orders.{slot_at}
use Rattle.slots.proofs.Orders.{Ordered}
use Rattle.rules.specs.Cards.{card_at, card_in, cards_beside, gap_card}
use Rattle.demands.proofs.Cards.Beside.{beside-map, beside-length, in-key}
use Rattle.demands.proofs.Cards.Gaps.{gap-clean}

-- a key stands where it is found
pub key-place : (slots : List ℕ) → Ordered slots → (i : ℕ) → i < length slots → slot_at slots i ≢ 0 → place_by (eqb (slot_at slots i)) slots ≡ i
key-place slots o i h n = omega (arith, no_less, no_more)
  where
    k : ℕ
    k = slot_at slots i

    j : ℕ
    j = place_by (eqb k) slots

    same : k ≡ slot_at slots j
    same = eqb→eq k (slot_at slots j) (place-passes (eqb k) slots 0 (place-mem (eqb k) slots k (at_mem slots i 0 h) (eqb_refl k)))

    key : slot_at slots j ≢ 0
    key z = n (same ∙ z)

    no_less : i ≤ j
    no_less = elim (dec_lt j i) [ yes l ↦ absurd (omega (arith, o j i l key n, same)) | no l ↦ omega arith ]

    no_more : j ≤ i
    no_more = elim (dec_lt i j) [ yes l ↦ absurd (omega (arith, o i j l n key, same)) | no l ↦ omega arith ]

-- so its card is the one beside it
pub card-at : (slots cards : List ℕ) → Ordered slots → (i : ℕ) → i < length slots → slot_at slots i ≢ 0 → card_at slots cards (slot_at slots i) ≡ get_or cards i 0
unfolding card_at
card-at slots cards o i h n = ap (λ (j : ℕ). get_or cards j 0) (key-place slots o i h n)

pub beside-own : (slots cards : List ℕ) → Ordered slots → length cards ≡ length slots → gap_card slots cards ≡ false → cards ≡ cards_beside (card_at slots cards) slots
beside-own slots cards o e clean = ext_get_or 0 cards (cards_beside c slots) (e ∙ sym (beside-length c slots)) same
  where
    c : ℕ → ℕ
    c = card_at slots cards

    own : (i : ℕ) → i < length slots → get_or (cards_beside c slots) i 0 ≡ card_in c (slot_at slots i)
    own i h = ap (λ (l : List ℕ). get_or l i 0) (beside-map c slots) ∙ get_or-map (card_in c) slots i 0 0 h

    same : (i : ℕ) → i < length cards → get_or cards i 0 ≡ get_or (cards_beside c slots) i 0
    same i h =
        let l : i < length slots = omega arith in
        elim (dec_lt 0 (slot_at slots i)) [
          | no z ↦ let g : slot_at slots i ≡ 0 = omega arith in gap-clean slots cards clean i l g ∙ sym (own i l ∙ ap (card_in c) g)
          | yes k ↦
              let n : slot_at slots i ≢ 0 = λ z. omega arith in
              sym (card-at slots cards o i l n) ∙ sym (own i l ∙ in-key c (slot_at slots i) n)
        ]
