-- Document 01, "Refusal numbers", and document 02: the number of each refusal, and 0 where nothing is refused.
use Rattle.std.specs.Prelude.{ℕ, ⊤, Result, Ok, Err}
use Rattle.rules.specs.declared.Refusal.{Refusal}
use Rattle.rules.specs.declared.Refusal.TheVariants.{UnknownProfile, WrongLength, WrongCards, WrongOrder, CardInGap, TooManyKeys, WrongForecast, WrongTable, KeyZero, KeyPresent, KeyAbsent, Full, BadRecord, AllowancePassed}

abbrev pub refusal_number : Refusal → ℕ
refusal_number UnknownProfile = 15
refusal_number WrongLength = 1
refusal_number WrongCards = 12
refusal_number WrongOrder = 2
refusal_number CardInGap = 13
refusal_number TooManyKeys = 3
refusal_number WrongForecast = 4
refusal_number WrongTable = 14
refusal_number KeyZero = 5
refusal_number KeyPresent = 6
refusal_number KeyAbsent = 7
refusal_number Full = 8
refusal_number BadRecord = 9
refusal_number AllowancePassed = 10

-- Accepted, or refused and why.
abbrev pub Verdict : Type 0
Verdict = Result ⊤ Refusal

abbrev pub verdict_number : Verdict → ℕ
verdict_number (Err x) = refusal_number x
verdict_number (Ok x) = 0
