-- The number of the check, case by case: of the list and its cards, with the forecast, and with the table. What lookup and scan come to by it.
use mathlib.Core.Path.{◌≡◌, refl, sym, ap, ◌∙◌}
use mathlib.Core.Bool.{Bool, true, false, not}
use mathlib.Core.Logic.{◌≢◌}
use mathlib.Core.List.{List}
use Prim.Native.Nat.{ℕ, ◌≤◌, ◌<◌}
use native.Mathlib.Omega.{arith}
use lib.Dec.{T, ltb, eqb, eqb→eq}
use borrow.Author.Tests.{eq-eqb, ne_eqb, lt-ltb, le-ltb}
use lib.ListN.{length}
use Rattle.std.proofs.Common.{if◌then◌else◌}
use Rattle.slots.specs.Segments.{live, height_of, segments_of}
use Rattle.slots.specs.Orders.{order_of, is_kept}
use Rattle.forecast.specs.declared.Forecast.{Forecast}
use Rattle.forecast.specs.Faults.{fault_of, is_sound}
use Rattle.rules.specs.Profiles.{is_profile}
use Rattle.rules.specs.Shares.{capacity, cells_of}
use Rattle.rules.specs.Looking.{not_found, looked_up, scanned}
use Rattle.rules.specs.Cards.{gap_card}
use Rattle.rules.specs.Lent.{Lent, cards_of}
use Rattle.rules.specs.Checks.{shares_of, check_cards, then_forecast, check_read, check}
use Rattle.rules.specs.Calls.{lookup, scan}
use Rattle.demands.proofs.Requests.Checked.{forecast-stays}
use Rattle.demands.proofs.Requests.Tabled.{number-stays}

-- THE LIST AND ITS CARDS
module _ (profile : ℕ) (L : Lent) where
  pub unknown-profile : is_profile profile ≡ false → check_cards profile L ≡ 15
  unfolding check_cards
  unknown-profile e = rw e

  module _ (k : is_profile profile ≡ true) where
    pub wrong-length : height_of (length L.slots) ≡ 0 → check_cards profile L ≡ 1
    unfolding check_cards
    wrong-length e = rw (k, eq-eqb (height_of (length L.slots)) 0 e)

    module _ (n : height_of (length L.slots) ≢ 0) where
      pub wrong-cards : length L.cards ≢ length L.slots → check_cards profile L ≡ 12
      unfolding check_cards
      wrong-cards e = rw (k, ne_eqb (height_of (length L.slots)) 0 n, ne_eqb (length L.cards) (length L.slots) e)

      module _ (s : length L.cards ≡ length L.slots) where
        pub wrong-order : is_kept (order_of L.slots) ≡ false → check_cards profile L ≡ 2
        unfolding check_cards
        wrong-order e = rw (k, ne_eqb (height_of (length L.slots)) 0 n, eq-eqb (length L.cards) (length L.slots) s, e)

        module _ (o : is_kept (order_of L.slots) ≡ true) where
          pub card-in-gap : gap_card L.slots L.cards ≡ true → check_cards profile L ≡ 13
          unfolding check_cards
          card-in-gap e = rw (k, ne_eqb (height_of (length L.slots)) 0 n, eq-eqb (length L.cards) (length L.slots) s, o, e)

          module _ (g : gap_card L.slots L.cards ≡ false) where
            -- what is left is the number of keys
            pub by-keys : check_cards profile L ≡ (if ltb (capacity (shares_of profile L.slots)) (length (live L.slots)) then 3 else 0)
            unfolding check_cards
            by-keys = rw (k, ne_eqb (height_of (length L.slots)) 0 n, eq-eqb (length L.cards) (length L.slots) s, o, g)

            pub too_many : capacity (shares_of profile L.slots) < length (live L.slots) → check_cards profile L ≡ 3
            too_many h = by-keys ∙ ap (λ (b : Bool). if b then 3 else 0) (lt-ltb (capacity (shares_of profile L.slots)) (length (live L.slots)) h)

            pub cards-sound : length (live L.slots) ≤ capacity (shares_of profile L.slots) → check_cards profile L ≡ 0
            cards-sound h = by-keys ∙ ap (λ (b : Bool). if b then 3 else 0) (le-ltb (capacity (shares_of profile L.slots)) (length (live L.slots)) h)

-- IN ANOTHER PROFILE what passes in one differs by its number of keys alone
module _ (m n : ℕ) (L : Lent) where
  pub cards-in : T (is_profile n) → check_cards m L ≡ 0 → check_cards n L ≡ (if ltb (capacity (shares_of n L.slots)) (length (live L.slots)) then 3 else 0)
  unfolding check_cards
  cards-in known =
      go (is_profile m) (is_profile n) known (eqb (height_of (length L.slots)) 0) (eqb (length L.cards) (length L.slots)) (is_kept (order_of L.slots)) (gap_card L.slots L.cards)
      (ltb (capacity (shares_of m L.slots)) (length (live L.slots))) (ltb (capacity (shares_of n L.slots)) (length (live L.slots)))
    where
      go : (j k : Bool) → T k → (a s b g c d : Bool) → ◌≡◌ {A = ℕ} (if not j then 15 else if a then 1 else if not s then 12 else if not b then 2 else if g then 13 else if c then 3 else 0) 0
          → ◌≡◌ {A = ℕ} (if not k then 15 else if a then 1 else if not s then 12 else if not b then 2 else if g then 13 else if d then 3 else 0) (if d then 3 else 0)
      go j false t a s b g c d e = absurd t
      go false true t a s b g c d e = absurd (omega arith)
      go true true t true s b g c d e = absurd (omega arith)
      go true true t false false b g c d e = absurd (omega arith)
      go true true t false true false g c d e = absurd (omega arith)
      go true true t false true true true c d e = absurd (omega arith)
      go true true t false true true false c d e = refl

-- THE FORECAST comes next: a right one leaves the number n by the tests before (else: Requests/Checked)
module _ (n profile : ℕ) (slots : List ℕ) (F : Forecast) where
  pub forecast-sound : is_sound (fault_of (cells_of (shares_of profile slots)) (segments_of slots) F) ≡ true → then_forecast n profile slots F ≡ n
  unfolding then_forecast
  forecast-sound s = rw s (go (eqb n 0) (eqb→eq n 0))
    where
      go : (b : Bool) → (T b → n ≡ 0) → (if not b then n else 0) ≡ n
      go true e = sym (e tt)
      go false e = refl

-- WHERE LIST OR CARDS ARE REFUSED, forecast and table change nothing (that all passes: Requests/Tabled)
module _ (profile : ℕ) (L : Lent) where
  pub read_first : check_cards profile L ≢ 0 → check_read profile L ≡ check_cards profile L
  unfolding check_read
  read_first n = number-stays (check_cards profile L) L n

  pub check-first : (F : Forecast) → check_cards profile L ≢ 0 → check profile L F ≡ check_cards profile L
  unfolding check
  check-first F n =
      let e : then_forecast (check_cards profile L) profile L.slots F ≡ check_cards profile L = forecast-stays (check_cards profile L) profile L.slots F n in
      number-stays (then_forecast (check_cards profile L) profile L.slots F) L (λ z. n (sym e ∙ z)) ∙ e

-- LOOKUP
module _ (profile : ℕ) (L : Lent) (y : ℕ) where
  pub lookup_refused : check_read profile L ≢ 0 → lookup profile L y ≡ not_found (check_read profile L)
  unfolding lookup
  lookup_refused n = rw (ne_eqb (check_read profile L) 0 n)

  pub lookup-passed : check_read profile L ≡ 0 → lookup profile L y ≡ looked_up y (cards_of L) (segments_of L.slots)
  unfolding lookup
  lookup-passed e = rw (eq-eqb (check_read profile L) 0 e)

-- SCAN
module _ (profile : ℕ) (L : Lent) (a : ℕ) (out cards : List ℕ) where
  pub scan_refused : check_read profile L ≢ 0 → scan profile L a out cards ≡ record { number = check_read profile L; written = 0; more = false; output = out; cards = cards }
  unfolding scan
  scan_refused n = rw (ne_eqb (check_read profile L) 0 n)

  pub scan-passed : check_read profile L ≡ 0 → scan profile L a out cards ≡ scanned a (cards_of L) (segments_of L.slots) out cards
  unfolding scan
  scan-passed e = rw (eq-eqb (check_read profile L) 0 e)
