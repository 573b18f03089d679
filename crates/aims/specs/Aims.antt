-- What a request comes to, by the rules, on a list and forecast that have passed their check.
use Rattle.std.specs.Prelude.{ℕ, zero, suc, ◌≡◌, Bool, true, false, List, [], length, get_or, Result, Err, Ok}
use Rattle.std.proofs.Math.Option.{Option, none, some}
use Rattle.slots.specs.Segments.{Segments, live, height_of, segments_of}
use Rattle.slots.specs.Keys.{below, predecessor, segment_of}
use Rattle.forecast.specs.declared.Forecast.{Forecast}
use Rattle.rules.specs.declared.Refusal.{Refusal}
use Rattle.rules.specs.declared.Request.{Request}
use Rattle.rules.specs.Refusals.{refusal_number}
use Rattle.rules.specs.Shares.{Shares}
use Rattle.rules.specs.Placing.{Room, home, insert_level, delete_level, outcome}
use Rattle.rules.specs.Profiles.{number_of}
use Rattle.rules.specs.Checks.{check_both}
use Rattle.records.specs.Asked.{asked}
use Rattle.shares.specs.declared.Shape.{Shape}
use Rattle.shares.specs.Rows.{shares_at, Fetched}
use Rattle.seats.specs.Bounds.{Indexed}
use Rattle.aims.specs.declared.Aim.{Aim}

-- List and forecast pass the check, with this shape and n keys.
pub record Stands (slots : List ℕ) (F : Forecast) (k : Shape) (n : ℕ) : Type 0 where
  pub passes : check_both (number_of k.profile) slots F ≡ 0
  pub height : height_of (length slots) ≡ k.height
  pub shape : Fetched (shares_at k) k
  pub many : length (live slots) ≡ n

-- They do with some forecast, and bounds and table are those of the segments.
pub record Known (slots bounds table : List ℕ) (k : Shape) (n : ℕ) : Type 0 where
  pub forecast : Forecast
  pub stands : Stands slots forecast k n
  pub index : Indexed (segments_of slots) slots bounds table

-- Of the request that puts a key in, or takes it out: the segment that it falls in, and the level that it sweeps.
abbrev pub seat_for : Bool → ℕ → Segments → ℕ
seat_for true y ss = home y ss
seat_for false y ss = segment_of ss y

abbrev pub level_for : Shares → Bool → ℕ → Segments → Option ℕ
level_for S true y ss = insert_level S y ss
level_for S false y ss = delete_level S y ss

-- Level 0 stands for none.
abbrev pub level_at : ℕ → Option ℕ
level_at zero = none
level_at (suc l) = some (suc l)

-- What an accepted request comes to.
pub record Accepts (S : Shares) (R : Room) (r : Aim) : Type 0 where
  pub accepted : (outcome S (asked r.grows r.key) R).answer.number ≡ 0
  pub segment : r.segment ≡ seat_for r.grows r.key R.segments
  pub held : r.held ≡ length (get_or R.segments r.segment [])
  pub at : r.at ≡ length (below r.key (get_or R.segments r.segment []))
  pub before : r.grows ≡ true → r.before ≡ predecessor r.key R.segments
  pub level : level_for S r.grows r.key R.segments ≡ level_at r.level

-- The request q, accepted.
pub record Aiming (S : Shares) (q : Request) (R : Room) (r : Aim) : Type 0 where
  pub number : 0 ≡ (outcome S q R).answer.number
  pub moves : r.moves ≡ (outcome S q R).answer.moves
  pub request : q ≡ asked r.grows r.key
  pub work : Accepts S R r

-- The number and the moves of any request; where it is accepted, the rest.
abbrev pub Aimed : Shares → Request → Room → Result Aim Refusal → Type 0
Aimed S q R (Err x) = (refusal_number x ≡ (outcome S q R).answer.number) × (0 ≡ (outcome S q R).answer.moves)
Aimed S q R (Ok r) = Aiming S q R r
