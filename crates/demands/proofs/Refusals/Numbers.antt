-- Demand 1: each call gives each number exactly when its row applies and none before it does.
use mathlib.Core.Path.{◌≡◌, refl}
use mathlib.Core.Bool.{Bool, true, false, not}
use mathlib.Core.List.{List, [], ◌∷◌, ◌++◌}
use Prim.Native.Nat.{ℕ, ◌*◌, ◌^◌}
use native.Mathlib.Omega.{arith}
use lib.Dec.{leb, ltb, eqb}
use lib.ListN.{length}
use Rattle.std.proofs.Common.{if◌then◌else◌}
use Rattle.lists.proofs.Tests.{neqb→ne}
use Rattle.slots.specs.Segments.{keys, live, height_of, segments_of}
use Rattle.slots.specs.Keys.{member}
use Rattle.slots.specs.Orders.{order_of, is_kept}
use Rattle.levels.specs.Tables.{table_size, same}
use Rattle.forecast.specs.declared.Forecast.{Forecast}
use Rattle.forecast.specs.Faults.{fault_of, is_sound}
use Rattle.rules.specs.declared.Request.{Request}
use Rattle.rules.specs.declared.Request.TheVariants.{Insert, Delete}
use Rattle.rules.specs.Profiles.{is_profile}
use Rattle.rules.specs.Shares.{capacity, cells_of}
use Rattle.rules.specs.Placing.{Outcome, insert_key, delete_key, outcome}
use Rattle.rules.specs.Looking.{Found, Scanned, scanned}
use Rattle.rules.specs.Cards.{gap_card, carded}
use Rattle.rules.specs.Lent.{Lent, cards_of, right_table}
use Rattle.rules.specs.Checks.{shares_of, check_cards, then_forecast, then_table, check_read, check}
use Rattle.rules.specs.Calls.{room_of, Made, make, lookup, scan, Called, unchanged, changed, request}
use Rattle.demands.specs.Rows.{Row, Tells, row1, row15, row2, row3, row4, row5, row6, row7, row8, row12, row13, row14, row14_size, list_rows, read_rows, both_rows}
use Rattle.forecast.specs.Tidy.{Roomy}
use Rattle.demands.specs.Demand1.{MakeTells, CheckTells, CheckPasses, LookupTells, ScanTells, InsertTells, DeleteTells}
use Rattle.demands.proofs.Requests.Accepted.{settled-number}
use Rattle.demands.proofs.Sets.SetLookup.{looked-number}
use Rattle.demands.proofs.Requests.Checked.{Passed, passed, forecast-passed, list-passes}
use Rattle.demands.proofs.Requests.CardsChecked.{cards-tested}
use Rattle.demands.proofs.Requests.Tabled.{room-passes}
use Rattle.demands.proofs.Refusals.RowsInOrder.{Numbered, tells-if, tells_more, tells_none}
use Rattle.demands.proofs.Refusals.Rows.{decides-1, decides-15, decides-2, decides-3, decides-5, decides-6, decides-7, decides-8}
use Rattle.demands.proofs.Refusals.Row4.{decides-4}
use Rattle.demands.proofs.Refusals.Row13.{decides-12, decides-13}
use Rattle.demands.proofs.Refusals.Row14.{decides-14, decides-14-size}

abbrev itself : ℕ → ℕ
itself n = n

-- MAKE
pub make_tells : MakeTells
unfolding make
make_tells profile L =
    tells-if (λ (m : Made). m.number) (not (is_profile profile)) (row15 profile) (row1 L.slots ∷ row12 L ∷ row14_size L ∷ []) _ _ refl (decides-15 profile) λ t.
    tells-if (λ (m : Made). m.number) (eqb (height_of (length L.slots)) 0) (row1 L.slots) (row12 L ∷ row14_size L ∷ []) _ _ refl (decides-1 L.slots) λ u.
    tells-if (λ (m : Made). m.number) (not (eqb (length L.cards) (length L.slots))) (row12 L) (row14_size L ∷ []) _ _ refl (decides-12 L) λ s.
    tells-if (λ (m : Made). m.number) (not (eqb (length L.table) (table_size (height_of (length L.slots))))) (row14_size L) [] _ _ refl (decides-14-size L u) (λ v. refl)

-- CHECK, of the list and its cards
list-numbered : (profile : ℕ) (L : Lent) → Numbered (list_rows profile L)
list-numbered profile L = omega arith

list_tells : (profile : ℕ) (L : Lent) → Tells (list_rows profile L) (check_cards profile L)
unfolding check_cards
list_tells profile L =
    let R13 : List Row = row13 L ∷ row3 profile L.slots ∷ [] in
    let R12 : List Row = row12 L ∷ row2 L.slots ∷ R13 in
    tells-if itself (not (is_profile profile)) (row15 profile) (row1 L.slots ∷ R12) 15 _ refl (decides-15 profile) λ s.
    tells-if itself (eqb (height_of (length L.slots)) 0) (row1 L.slots) R12 1 _ refl (decides-1 L.slots) λ t.
    tells-if itself (not (eqb (length L.cards) (length L.slots))) (row12 L) (row2 L.slots ∷ R13) 12 _ refl (decides-12 L) λ c.
    tells-if itself (not (is_kept (order_of L.slots))) (row2 L.slots) R13 2 _ refl (decides-2 L.slots) λ u.
    tells-if itself (gap_card L.slots L.cards) (row13 L) (row3 profile L.slots ∷ []) 13 _ refl (decides-13 L) λ g.
    tells-if itself (ltb (capacity (shares_of profile L.slots)) (length (live L.slots))) (row3 profile L.slots) [] 3 0 refl (decides-3 profile L.slots t) λ v. refl

-- where that passes, its slots have passed
cards-before : (profile : ℕ) (L : Lent) → check_cards profile L ≡ 0 → Passed profile L.slots
cards-before profile L e = passed profile L.slots (cards-tested profile L e).0

-- the table after it
table-tells : (L : Lent) → length L.slots ≡ 64 * 2 ^ height_of (length L.slots) → Tells (row14 L ∷ []) (if not (same L.table (right_table L.slots)) then 14 else 0)
table-tells L number = tells-if itself (not (same L.table (right_table L.slots))) (row14 L) [] 14 0 refl (decides-14 L number) λ t. refl

read-numbered : (profile : ℕ) (L : Lent) → Numbered (read_rows profile L)
read-numbered profile L = omega arith

read-tells : (profile : ℕ) (L : Lent) → Tells (read_rows profile L) (check_read profile L)
unfolding check_read then_table
read-tells profile L =
    tells_more itself (list_rows profile L) (row14 L ∷ []) (check_cards profile L) _ _ (list-numbered profile L) (list_tells profile L) refl λ e.
    table-tells L (cards-before profile L e).number

-- and the forecast between
forecast-tells : (profile : ℕ) (L : Lent) (F : Forecast) → Roomy F
    → Tells (list_rows profile L ++ (row4 L.slots F ∷ [])) (then_forecast (check_cards profile L) profile L.slots F)
unfolding then_forecast
forecast-tells profile L F r =
    tells_more itself (list_rows profile L) (row4 L.slots F ∷ []) (check_cards profile L) _ _ (list-numbered profile L) (list_tells profile L) refl λ e.
    tells-if itself (not (is_sound (fault_of (cells_of (shares_of profile L.slots)) (segments_of L.slots) F))) (row4 L.slots F) [] 4 0 refl
    (decides-4 profile L.slots (cards-before profile L e) F r) λ t. refl

both-numbered : (profile : ℕ) (L : Lent) (F : Forecast) → Numbered (both_rows profile L F)
both-numbered profile L F = omega arith

pub check_tells : CheckTells
unfolding check then_table
check_tells profile L F r =
    tells_more itself (list_rows profile L ++ (row4 L.slots F ∷ [])) (row14 L ∷ []) (then_forecast (check_cards profile L) profile L.slots F) _ _ (omega arith) (forecast-tells profile L F r) refl λ e.
    table-tells L (cards-before profile L (forecast-passed (check_cards profile L) profile L.slots F e).0).number

pub check_passes : CheckPasses
check_passes profile L F r = tells_none (both_rows profile L F) (check profile L F) (both-numbered profile L F) (check_tells profile L F r)

-- LOOKUP AND SCAN
pub lookup_tells : LookupTells
unfolding lookup
lookup_tells profile L y =
    tells_more (λ (f : Found). f.number) (read_rows profile L) (row5 y ∷ []) (check_read profile L) _ _ (read-numbered profile L) (read-tells profile L) refl λ e.
    rw (looked-number y (cards_of L) (segments_of L.slots)) (tells-if itself (eqb y 0) (row5 y) [] 5 0 refl (decides-5 y) λ t. refl)

pub scan_tells : ScanTells
unfolding scan scanned
scan_tells profile L a out cards =
    tells_more (λ (s : Scanned). s.number) (read_rows profile L) [] (check_read profile L) _ (scanned a (cards_of L) (segments_of L.slots) out cards) (read-numbered profile L) (read-tells profile L) refl λ e. refl

-- INSERT AND DELETE
abbrev number : Outcome → ℕ
number o = o.answer.number

module _ (profile : ℕ) (slots : List ℕ) (F : Forecast) (K : Passed profile slots) (y : ℕ) where
  insert-rows : Tells (row5 y ∷ row6 slots y ∷ row8 profile slots ∷ []) (number (outcome (shares_of profile slots) (Insert y) (room_of slots F)))
  unfolding outcome insert_key
  insert-rows =
      tells-if number (eqb y 0) (row5 y) (row6 slots y ∷ row8 profile slots ∷ []) _ _ refl (decides-5 y) λ t.
      tells-if number (member y (keys (segments_of slots))) (row6 slots y) (row8 profile slots ∷ []) _ _ refl (decides-6 profile slots K y (neqb→ne y 0 t)) λ u.
      tells-if number (leb (capacity (shares_of profile slots)) (length (keys (segments_of slots)))) (row8 profile slots) [] _ _ refl (decides-8 profile slots K) λ v.
      settled-number (shares_of profile slots) _ _ _ _ _ _

  delete-rows : Tells (row5 y ∷ row7 slots y ∷ []) (number (outcome (shares_of profile slots) (Delete y) (room_of slots F)))
  unfolding outcome delete_key
  delete-rows =
      tells-if number (eqb y 0) (row5 y) (row7 slots y ∷ []) _ _ refl (decides-5 y) λ t.
      tells-if number (not (member y (keys (segments_of slots)))) (row7 slots y) [] _ _ refl (decides-7 profile slots K y (neqb→ne y 0 t)) λ u.
      settled-number (shares_of profile slots) _ _ _ _ _ _

-- a request tells what its check tells, then what its outcome tells
request-tells : (profile : ℕ) (q : Request) (v : ℕ) (rest : List Row) (L : Lent) (F : Forecast) → Roomy F
    → (check profile L F ≡ 0 → Tells rest (number (outcome (shares_of profile L.slots) q (room_of L.slots F))))
    → Tells (both_rows profile L F ++ rest) (request profile q v L F).answer.number
unfolding request
request-tells profile q v rest L F r t =
    tells_more told (both_rows profile L F) rest (check profile L F) (unchanged L F (check profile L F)) _ (both-numbered profile L F) (check_tells profile L F r) refl λ e.
    rw (either (eqb (number o) 0)) (t e)
  where
    told : Called → ℕ
    told c = c.answer.number

    o : Outcome
    o = outcome (shares_of profile L.slots) q (room_of L.slots F)

    either : (b : Bool) → told (if not b then unchanged L F (number o) else changed (carded q v (cards_of L)) o) ≡ number o
    either true = refl
    either false = refl

-- all before the outcome has passed
before : (profile : ℕ) (L : Lent) (F : Forecast) → check profile L F ≡ 0 → Passed profile L.slots
before profile L F e = passed profile L.slots (list-passes profile L.slots F (room-passes profile L F e))

pub insert_tells : InsertTells
insert_tells profile L F y v r =
    request-tells profile (Insert y) v (row5 y ∷ row6 L.slots y ∷ row8 profile L.slots ∷ []) L F r (λ e. insert-rows profile L.slots F (before profile L F e) y)

pub delete_tells : DeleteTells
delete_tells profile L F y r =
    request-tells profile (Delete y) 0 (row5 y ∷ row7 L.slots y ∷ []) L F r (λ e. delete-rows profile L.slots F (before profile L F e) y)
