-- The table, tested after all else: what passes has the right table, and the right table passes; and all that a check tests.
use mathlib.Core.Path.{◌≡◌, refl, sym, ap, ◌∙◌}
use mathlib.Core.Bool.{Bool, true, false, not}
use mathlib.Core.Logic.{◌≢◌}
use mathlib.Core.List.{List}
use Prim.Native.Nat.{ℕ}
use native.Mathlib.Omega.{arith}
use lib.Dec.{T, eqb, eqb→eq}
use borrow.Author.Tests.{eq-eqb, ne_eqb}
use Rattle.std.proofs.Common.{if◌then◌else◌}
use Rattle.lists.proofs.Tests.{neqb→ne, is_true}
use Rattle.levels.specs.Tables.{same}
use Rattle.levels.proofs.Same.{same→eq, eq→same}
use Rattle.forecast.specs.declared.Forecast.{Forecast}
use Rattle.rules.specs.Cards.{cards_beside}
use Rattle.rules.specs.Lent.{Lent, cards_of, right_table, laid}
use Rattle.rules.specs.Checks.{check_cards, then_forecast, then_table, check_read, check, check_list, check_both}
use Rattle.demands.proofs.Requests.Checked.{forecast-passed, list-passes}
use Rattle.demands.proofs.Requests.CardsChecked.{cards-passed, cards-pass}

-- n is the number by the tests before
module _ (n : ℕ) (L : Lent) where
  pub number-stays : n ≢ 0 → then_table n L ≡ n
  unfolding then_table
  number-stays e = rw (ne_eqb n 0 e)

  pub table-wrong : n ≡ 0 → same L.table (right_table L.slots) ≡ false → then_table n L ≡ 14
  unfolding then_table
  table-wrong e w = rw (eq-eqb n 0 e, w)

  pub table-passes : n ≡ 0 → L.table ≡ right_table L.slots → then_table n L ≡ 0
  unfolding then_table
  table-passes e r = rw (eq-eqb n 0 e, is_true (same L.table (right_table L.slots)) (eq→same L.table (right_table L.slots) r))

  pub table-passed : then_table n L ≡ 0 → (n ≡ 0) × (L.table ≡ right_table L.slots)
  unfolding then_table
  table-passed e = go (eqb n 0) (eqb→eq n 0) (neqb→ne n 0) (same L.table (right_table L.slots)) (same→eq L.table (right_table L.slots)) e
    where
      go : (a : Bool) → (T a → n ≡ 0) → (T (not a) → n ≢ 0) → (b : Bool) → (T b → L.table ≡ right_table L.slots)
          → ◌≡◌ {A = ℕ} (if not a then n else if not b then 14 else 0) 0 → (n ≡ 0) × (L.table ≡ right_table L.slots)
      go true p q true r e = (p tt, r tt)
      go true p q false r e = absurd (omega arith)
      go false p q b r e = absurd (q tt e)

-- without a forecast: list, cards and table
module _ (profile : ℕ) (L : Lent) where
  pub read-passed : check_read profile L ≡ 0 → (check_list profile L.slots ≡ 0) × (L.cards ≡ cards_beside (cards_of L) L.slots) × (L.table ≡ right_table L.slots)
  unfolding check_read
  read-passed e =
      let t = table-passed (check_cards profile L) L e in
      let p = cards-passed profile L t.0 in
      (p.0, p.1, t.1)

  pub read-passes : (c : ℕ → ℕ) → check_list profile L.slots ≡ 0 → L.cards ≡ cards_beside c L.slots → L.table ≡ right_table L.slots → check_read profile L ≡ 0
  unfolding check_read
  read-passes c e b r = table-passes (check_cards profile L) L (cards-pass profile L c e b) r

  -- and with one
  module _ (F : Forecast) where
    pub check-passed : check profile L F ≡ 0 → (check_both profile L.slots F ≡ 0) × (L.cards ≡ cards_beside (cards_of L) L.slots) × (L.table ≡ right_table L.slots)
    unfolding check check_both
    check-passed e =
        let t = table-passed (then_forecast (check_cards profile L) profile L.slots F) L e in
        let z : check_cards profile L ≡ 0 = (forecast-passed (check_cards profile L) profile L.slots F t.0).0 in
        let p = cards-passed profile L z in
        (ap (λ (n : ℕ). then_forecast n profile L.slots F) (p.0 ∙ sym z) ∙ t.0, p.1, t.1)

    pub check_passes : (c : ℕ → ℕ) → check_both profile L.slots F ≡ 0 → L.cards ≡ cards_beside c L.slots → L.table ≡ right_table L.slots → check profile L F ≡ 0
    unfolding check check_both
    check_passes c e b r =
        let l : check_list profile L.slots ≡ 0 = list-passes profile L.slots F e in
        table-passes (then_forecast (check_cards profile L) profile L.slots F) L
        (ap (λ (n : ℕ). then_forecast n profile L.slots F) (cards-pass profile L c l b ∙ sym l) ∙ e) r

    -- list and forecast pass, whatever the cards and the table
    pub room-passes : check profile L F ≡ 0 → check_both profile L.slots F ≡ 0
    room-passes e = (check-passed e).0

    -- what passes is its slots with their cards and their table
    pub lent_laid : check profile L F ≡ 0 → L ≡ laid (cards_of L) L.slots
    lent_laid e = λ i. record { slots = L.slots; cards = (check-passed e).1 i; table = (check-passed e).2 i }

-- and slots that pass do so with any cards of their keys and their table
module _ (profile : ℕ) (c : ℕ → ℕ) (slots : List ℕ) where
  pub laid-passes : (F : Forecast) → check_both profile slots F ≡ 0 → check profile (laid c slots) F ≡ 0
  laid-passes F e = check_passes profile (laid c slots) F c e refl refl
