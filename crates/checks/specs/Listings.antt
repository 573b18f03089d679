-- What a check finds.
use Rattle.std.specs.Prelude.{ℕ, ◌<◌, ◌≡◌, List, [], length, get_or, Result, Ok, Err, IfOk}
use Rattle.slots.specs.Segments.{live, height_of, segments_of}
use Rattle.forecast.specs.declared.Forecast.{Forecast}
use Rattle.rules.specs.declared.Refusal.{Refusal}
use Rattle.rules.specs.Refusals.{refusal_number}
use Rattle.rules.specs.Profiles.{number_of}
use Rattle.rules.specs.Lent.{Lent}
use Rattle.rules.specs.Checks.{check_cards, then_forecast, check_read, check}
use Rattle.shares.specs.Rows.{shares_at, Fetched}
use Rattle.checks.specs.declared.Listing.{Listing}

-- The list's shape in the profile of this number, and its number of keys.
pub record Listed (profile : ℕ) (slots : List ℕ) (l : Listing) : Type 0 where
  pub named : number_of l.shape.profile ≡ profile
  pub height : l.shape.height ≡ height_of (length slots)
  pub shape : Fetched (shares_at l.shape) l.shape
  pub keys : l.keys ≡ length (live slots)

-- Number n of the check; where that is 0, what is listed.
abbrev pub Looked : ℕ → List ℕ → ℕ → Result Listing Refusal → Type 0
Looked profile slots n (Err x) = refusal_number x ≡ n
Looked profile slots n (Ok l) = (0 ≡ n) × Listed profile slots l

-- The check of the list and its cards; with the forecast; with the table; of all four.
abbrev pub ListLooked : ℕ → Lent → Result Listing Refusal → Type 0
ListLooked profile L r = Looked profile L.slots (check_cards profile L) r

abbrev pub BothLooked : ℕ → Lent → Forecast → Result Listing Refusal → Type 0
BothLooked profile L F r = Looked profile L.slots (then_forecast (check_cards profile L) profile L.slots F) r

abbrev pub ReadLooked : ℕ → Lent → Result Listing Refusal → Type 0
ReadLooked profile L r = Looked profile L.slots (check_read profile L) r

abbrev pub LentLooked : ℕ → Lent → Forecast → Result Listing Refusal → Type 0
LentLooked profile L F r = Looked profile L.slots (check profile L F) r

-- Where the check accepts, each segment has its number of keys in its place.
pub record Counting (slots : List ℕ) (r : Result Listing Refusal) (counts : List ℕ) : Type 0 where
  pub long : length counts ≡ 64
  pub each : IfOk r (λ _. (k : ℕ) → k < length (segments_of slots) → get_or counts k 0 ≡ length (get_or (segments_of slots) k []))
