-- What is counted of the records of a run, and what stops it.
use Rattle.std.specs.Prelude.{ℕ, ◌+◌, ◌-◌, Bool, true, false, not, ltb, if◌then◌else◌, Result, Err, Ok}
use Rattle.std.specs.Result.{result_and}
use Rattle.rules.specs.declared.Refusal.{Refusal}
use Rattle.rules.specs.declared.Tally.{Tally}
use Rattle.rules.specs.Refusals.{Verdict}
use Rattle.rules.specs.Runs.{one}
use Rattle.aims.specs.declared.Aim.{Aim}

-- A bad record and moves over the allowance stop a run; other refusals count as refused, and it goes on.
abbrev pub stops_run : Refusal → Bool
stops_run Refusal.UnknownProfile = false
stops_run Refusal.WrongLength = false
stops_run Refusal.WrongCards = false
stops_run Refusal.WrongOrder = false
stops_run Refusal.CardInGap = false
stops_run Refusal.TooManyKeys = false
stops_run Refusal.WrongForecast = false
stops_run Refusal.WrongTable = false
stops_run Refusal.KeyZero = false
stops_run Refusal.KeyPresent = false
stops_run Refusal.KeyAbsent = false
stops_run Refusal.Full = false
stops_run Refusal.BadRecord = true
stops_run Refusal.AllowancePassed = true

abbrev pub is_stop : Verdict → Bool
is_stop (Err x) = stops_run x
is_stop (Ok x) = false

abbrev pub is_accepted : Verdict → Bool
is_accepted (Err x) = false
is_accepted (Ok x) = true

-- What a request comes to where so many moves are left.
abbrev pub comes_to : ℕ → Result Aim Refusal → Verdict
comes_to left (Err x) = Err x
comes_to left (Ok r) = if ltb left r.moves then Err Refusal.AllowancePassed else Ok tt

-- What it comes to where enough are left, its moves, and whether it sweeps.
abbrev pub verdict_of : Result Aim Refusal → Verdict
verdict_of r = result_and r (Ok tt)

abbrev pub moves_of : Result Aim Refusal → ℕ
moves_of (Err x) = 0
moves_of (Ok r) = r.moves

abbrev pub is_swept : Result Aim Refusal → Bool
is_swept (Err x) = false
is_swept (Ok r) = ltb 0 r.level

-- One record more, of so many bytes, by what it came to.
abbrev pub next_of : Tally → Result Aim Refusal → ℕ → Tally
next_of t r size = record {
  worked = t.worked + 1;
  refused = t.refused + one (not (is_accepted (verdict_of r)));
  moves = t.moves + moves_of r;
  sweeps = t.sweeps + one (is_swept r);
  place = t.place + size;
}

-- The keys then.
abbrev pub keys_of : ℕ → Result Aim Refusal → ℕ
keys_of n (Err x) = n
keys_of n (Ok r) = if r.grows then n + 1 else n - 1
