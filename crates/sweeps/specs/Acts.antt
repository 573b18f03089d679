-- A request that is accepted, worked on a list that has been checked: what is asked for, and what is left.
use Rattle.std.specs.Prelude.{ℕ, ◌^◌, ◌≡◌, Bool, true, false, List, map, take}
use Rattle.slots.specs.Segments.{Segments, keys, segments_of, render}
use Rattle.slots.specs.Keys.{predecessor}
use Rattle.slots.specs.Windows.{window}
use Rattle.cells.specs.declared.Cell.{Cell}
use Rattle.cells.specs.Cells.{weight}
use Rattle.cells.specs.Steps.{noted, dropped}
use Rattle.forecast.specs.declared.Forecast.{Forecast}
use Rattle.forecast.specs.Cells.{forecast_of}
use Rattle.forecast.specs.Tidy.{Became}
use Rattle.rules.specs.Shares.{Shares, cells_of}
use Rattle.rules.specs.SharingOut.{plan}
use Rattle.rules.specs.Placing.{Room, Outcome, home, put_in, cut_from, front_weight, outcome}
use Rattle.rules.specs.Calls.{room_of}
use Rattle.shares.specs.declared.Shape.{Shape}
use Rattle.shares.specs.Rows.{shares_at}
use Rattle.seats.specs.Bounds.{Indexed}
use Rattle.aims.specs.declared.Aim.{Aim}
use Rattle.records.specs.Asked.{asked}
use Rattle.aims.specs.Aims.{Stands, Accepts}

-- The cells with the request noted, and the segments with it done, before any sweep.
abbrev pub cells_for : Shares → Bool → ℕ → Room → List Cell
cells_for S true y R = noted (cells_of S) (predecessor y R.segments) (home y R.segments) R.cells
cells_for S false y R = dropped y R.cells

abbrev pub done_in : Bool → ℕ → Segments → Segments
done_in true y ss = put_in y ss
done_in false y ss = cut_from y ss

-- What the request comes to by the rules.
abbrev pub outcome_of : List ℕ → Forecast → Shape → Aim → Outcome
outcome_of slots F k r = outcome (shares_at k) (asked r.grows r.key) (room_of slots F)

-- List and forecast pass the check, bounds and table are at hand, and the request is accepted.
pub record Acting (slots : List ℕ) (F : Forecast) (bounds table : List ℕ) (k : Shape) (r : Aim) : Type 0 where
  pub keys : ℕ
  pub stands : Stands slots F k keys
  pub index : Indexed (segments_of slots) slots bounds table
  pub accepts : Accepts (shares_at k) (room_of slots F) r
  pub moves : r.moves ≡ (outcome_of slots F k r).answer.moves

-- N is the forecast with the request noted.
abbrev pub Noted : List ℕ → Forecast → Shape → Aim → Forecast → Type 0
Noted slots F k r N = Became (cells_for (shares_at k) r.grows r.key (room_of slots F)) N

-- How many keys each segment of the swept window gets.
unfoldable pub plan_for : List ℕ → Forecast → Shape → Aim → List ℕ
plan_for slots F k r =
    let cs : List Cell = cells_for (shares_at k) r.grows r.key (room_of slots F) in
    plan (shares_at k) r.level (front_weight r.level r.segment cs)
    (map (weight cs) (keys (window r.level r.segment (done_in r.grows r.key (segments_of slots)))))

abbrev pub Planned : List ℕ → Forecast → Shape → Aim → List ℕ → Type 0
Planned slots F k r plan = take (2 ^ r.level) plan ≡ plan_for slots F k r

-- The segments of an outcome, with their bounds and table.
pub record Left (o : Outcome) (slots bounds table : List ℕ) : Type 0 where
  pub slots_left : slots ≡ render 0 o.room.segments
  pub index : Indexed o.room.segments slots bounds table

-- All that it leaves.
pub record Acted (o : Outcome) (slots bounds table : List ℕ) (F : Forecast) : Type 0 where
  pub left : Left o slots bounds table
  pub forecast : F ≡ forecast_of o.room.cells
