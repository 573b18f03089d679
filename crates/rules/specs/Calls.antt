-- The public calls, on the profile's number and slots, cards, table, forecast, outputs, bytes and totals as they are lent: what each answers
-- and leaves.
-- (check stands in Checks.)
use Rattle.std.specs.Prelude.{ℕ, false, not, List, [], eqb, length, replicate, if◌then◌else◌}
use Rattle.slots.specs.Segments.{height_of, segments_of, render}
use Rattle.levels.specs.Tables.{table_size}
use Rattle.forecast.specs.declared.Forecast.{Forecast}
use Rattle.forecast.specs.Cells.{used_cells, forecast_of}
use Rattle.rules.specs.declared.Request.{Request}
use Rattle.rules.specs.declared.Request.TheVariants.{Insert, Delete}
use Rattle.rules.specs.declared.Tally.{Tally}
use Rattle.rules.specs.declared.Totals.{Totals}
use Rattle.rules.specs.Profiles.{is_profile}
use Rattle.rules.specs.Placing.{Room, Answer, Outcome, refused, outcome}
use Rattle.rules.specs.Looking.{Found, not_found, looked_up, Scanned, scanned}
use Rattle.rules.specs.Cards.{carded}
use Rattle.rules.specs.Lent.{Lent, lend, cards_of, laid}
use Rattle.rules.specs.Checks.{shares_of, check_read, check}
use Rattle.rules.specs.Runs.{nothing, Ran, ran, added}

-- What slots and forecast show, and the slots and the forecast that show it.
abbrev pub room_of : List ℕ → Forecast → Room
room_of slots F = record { segments = segments_of slots; cells = used_cells F }

-- Making empty writes 0 in every slot, card and entry, gives an empty forecast, and refuses only by 15, 1, 12 and 14, for the table's length;
-- the forecast it gives is empty then too.
pub record Made : Type 0 where
  pub lent : Lent
  pub forecast : Forecast
  pub number : ℕ

abbrev pub not_made : Lent → ℕ → Made
not_made L n = record { lent = L; forecast = forecast_of []; number = n }

unfoldable pub make : ℕ → Lent → Made
make profile L =
    if not (is_profile profile) then not_made L 15
    else if eqb (height_of (length L.slots)) 0 then not_made L 1
    else if not (eqb (length L.cards) (length L.slots)) then not_made L 12
    else if not (eqb (length L.table) (table_size (height_of (length L.slots)))) then not_made L 14
    else record {
      lent = lend (replicate (length L.slots) 0) (replicate (length L.cards) 0) (replicate (length L.table) 0);
      forecast = forecast_of [];
      number = 0;
    }

-- Lookup and scan take no forecast and test 15, 1, 12, 2, 13, 3 and 14; a scan never gives 5.
unfoldable pub lookup : ℕ → Lent → ℕ → Found
lookup profile L y =
    if not (eqb (check_read profile L) 0) then not_found (check_read profile L)
    else looked_up y (cards_of L) (segments_of L.slots)

unfoldable pub scan : ℕ → Lent → ℕ → List ℕ → List ℕ → Scanned
scan profile L a out cards =
    if not (eqb (check_read profile L) 0) then record { number = check_read profile L; written = 0; more = false; output = out; cards = cards }
    else scanned a (cards_of L) (segments_of L.slots) out cards

-- A single insert or delete. Accepted, it leaves each card beside its key and the table right for the slots it leaves.
pub record Called : Type 0 where
  pub lent : Lent
  pub forecast : Forecast
  pub answer : Answer

abbrev pub unchanged : Lent → Forecast → ℕ → Called
unchanged L F n = record { lent = L; forecast = F; answer = refused n }

-- c is the card of each key then.
abbrev pub changed : (ℕ → ℕ) → Outcome → Called
changed c o = record { lent = laid c (render 0 o.room.segments); forecast = forecast_of o.room.cells; answer = o.answer }

-- v is the card that comes with the request.
unfoldable pub request : ℕ → Request → ℕ → Lent → Forecast → Called
request profile q v L F =
    let n : ℕ = check profile L F in
    let o : Outcome = outcome (shares_of profile L.slots) q (room_of L.slots F) in
    if not (eqb n 0) then unchanged L F n
    else if not (eqb o.answer.number 0) then unchanged L F o.answer.number
    else changed (carded q v (cards_of L)) o

abbrev pub insert : ℕ → Lent → Forecast → ℕ → ℕ → Called
insert profile L F y v = request profile (Insert y) v L F

abbrev pub delete : ℕ → Lent → Forecast → ℕ → Called
delete profile L F y = request profile (Delete y) 0 L F

-- A run tells what it has counted, its byte place among it (where the record that stopped it begins, or the length of the request bytes at the
-- end), and the stop number, 0 at the end.
pub record Reply : Type 0 where
  pub tally : Tally
  pub stop : ℕ

pub record Worked : Type 0 where
  pub lent : Lent
  pub forecast : Forecast
  pub totals : Totals
  pub reply : Reply

-- Refusals 15, 1 to 4 and 12 to 14 also leave the totals; the place is then 0, as are the other counts.
abbrev pub stopped_at_once : Lent → Forecast → Totals → ℕ → Worked
stopped_at_once L F T n = record {
  lent = L;
  forecast = F;
  totals = T;
  reply = record { tally = nothing; stop = n };
}

abbrev pub worked : Totals → Ran → Worked
worked T r = record {
  lent = laid r.cards (render 0 r.room.segments);
  forecast = forecast_of r.room.cells;
  totals = added T r.tally;
  reply = record { tally = r.tally; stop = r.stop };
}

-- A run checks list, cards, table and forecast once, then works the records in order.
unfoldable pub run : ℕ → Lent → Forecast → List ℕ → ℕ → Totals → Worked
run profile L F bytes allowance T =
    let r : Ran = ran (shares_of profile L.slots) allowance bytes (room_of L.slots F) (cards_of L) in
    if not (eqb (check profile L F) 0) then stopped_at_once L F T (check profile L F) else worked T r
