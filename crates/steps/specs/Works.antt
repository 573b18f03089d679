-- Records worked in order on a list that has been checked.
use Rattle.std.specs.Prelude.{ℕ, ◌≡◌, List, [], ◌∷◌, length, Result}
use Rattle.slots.specs.Segments.{keys, height_of, segments_of, render}
use Rattle.levels.specs.Tables.{table_of}
use Rattle.forecast.specs.declared.Forecast.{Forecast}
use Rattle.forecast.specs.Cells.{used_cells, forecast_of}
use Rattle.rules.specs.declared.Refusal.{Refusal}
use Rattle.rules.specs.declared.Request.{Request}
use Rattle.rules.specs.Refusals.{verdict_number}
use Rattle.rules.specs.Placing.{Outcome, outcome}
use Rattle.rules.specs.declared.Record.{Record}
use Rattle.rules.specs.Runs.{records_of, Ran, ran}
use Rattle.rules.specs.Cards.{cards_beside}
use Rattle.rules.specs.Lent.{Lent}
use Rattle.rules.specs.Checks.{shares_of}
use Rattle.rules.specs.Calls.{room_of}
use Rattle.shares.specs.declared.Shape.{Shape}
use Rattle.shares.specs.Rows.{shares_at}
use Rattle.seats.specs.Bounds.{Indexed}
use Rattle.aims.specs.declared.Aim.{Aim}
use Rattle.aims.specs.Aims.{Stands, Aimed}
use Rattle.steps.specs.declared.Worked.{Worked}

-- A request q decided on a list of n keys: r is what it comes to.
pub record Turning (slots : List ℕ) (F : Forecast) (bounds table : List ℕ) (k : Shape) (q : Request) (n : ℕ) (r : Result Aim Refusal) : Type 0 where
  pub stands : Stands slots F k n
  pub shown : forecast_of (used_cells F) ≡ F
  pub index : Indexed (segments_of slots) slots bounds table
  pub aimed : Aimed (shares_at k) q (room_of slots F) r

-- What it leaves stands again, with n keys, and shows what the rules leave.
pub record Turned (o : Outcome) (slots : List ℕ) (F : Forecast) (bounds table : List ℕ) (k : Shape) (n : ℕ) : Type 0 where
  pub stands : Stands slots F k n
  pub shown : forecast_of (used_cells F) ≡ F
  pub index : Indexed (segments_of slots) slots bounds table
  pub room : room_of slots F ≡ o.room

-- The run of the rules on what is lent, in the profile of a number; c is the card of each key.
abbrev pub whole : ℕ → List ℕ → (ℕ → ℕ) → Forecast → List ℕ → ℕ → Ran
whole profile slots c F bytes allowance = ran (shares_of profile slots) allowance bytes (room_of slots F) c

-- What the records come to; of a single one that is not over the allowance, also its number and the keys then.
pub record Ends (profile : ℕ) (slots : List ℕ) (c : ℕ → ℕ) (F : Forecast) (bytes : List ℕ) (allowance : ℕ) (r : Worked) (left : Lent) : Type 0 where
  pub tally : r.tally ≡ (whole profile slots c F bytes allowance).tally
  pub stop : verdict_number r.stop ≡ (whole profile slots c F bytes allowance).stop
  pub forecast : r.forecast ≡ forecast_of (whole profile slots c F bytes allowance).room.cells
  pub slots_left : left.slots ≡ render 0 (whole profile slots c F bytes allowance).room.segments
  pub cards_left : left.cards ≡ cards_beside (whole profile slots c F bytes allowance).cards left.slots
  pub table_left : left.table ≡ table_of (height_of (length slots)) (whole profile slots c F bytes allowance).room.segments
  pub keys : r.keys ≡ length (keys (whole profile slots c F bytes allowance).room.segments)
  pub single : (a : Record) → records_of bytes ≡ a ∷ [] → (whole profile slots c F bytes allowance).stop ≡ 0
      → verdict_number r.last ≡ (outcome (shares_of profile slots) a.request (room_of slots F)).answer.number
