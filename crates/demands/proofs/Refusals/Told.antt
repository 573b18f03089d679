-- No refusal has the number 0, and no two refusals or verdicts have the same: each is read back from its number.
use mathlib.Core.Path.{◌≡◌, refl, sym, ap, ◌∙◌}
use Prim.Native.Nat.{ℕ, ◌<◌}
use native.Mathlib.Omega.{arith}
use borrow.Author.Tests.{ne_eqb}
use lib.Dec.{eqb}
use Rattle.std.proofs.Common.{if◌then◌else◌, Ok, Err}
use Rattle.rules.specs.declared.Refusal.{Refusal}
use Rattle.rules.specs.declared.Refusal.TheVariants.{UnknownProfile, WrongLength, WrongCards, WrongOrder, CardInGap, TooManyKeys, WrongForecast, WrongTable, KeyZero, KeyPresent, KeyAbsent, Full, BadRecord, AllowancePassed}
use Rattle.rules.specs.Refusals.{refusal_number, Verdict, verdict_number}

-- THE REFUSAL OF A NUMBER
abbrev named : ℕ → Refusal
named n =
    if eqb n 15 then UnknownProfile
    else if eqb n 1 then WrongLength
    else if eqb n 12 then WrongCards
    else if eqb n 2 then WrongOrder
    else if eqb n 13 then CardInGap
    else if eqb n 3 then TooManyKeys
    else if eqb n 4 then WrongForecast
    else if eqb n 14 then WrongTable
    else if eqb n 5 then KeyZero
    else if eqb n 6 then KeyPresent
    else if eqb n 7 then KeyAbsent
    else if eqb n 8 then Full
    else if eqb n 9 then BadRecord
    else AllowancePassed

-- it has one, and is read back from it
back : (x : Refusal) → (0 < refusal_number x) × (named (refusal_number x) ≡ x)
back UnknownProfile = (omega arith, refl)
back WrongLength = (omega arith, refl)
back WrongCards = (omega arith, refl)
back WrongOrder = (omega arith, refl)
back CardInGap = (omega arith, refl)
back TooManyKeys = (omega arith, refl)
back WrongForecast = (omega arith, refl)
back WrongTable = (omega arith, refl)
back KeyZero = (omega arith, refl)
back KeyPresent = (omega arith, refl)
back KeyAbsent = (omega arith, refl)
back Full = (omega arith, refl)
back BadRecord = (omega arith, refl)
back AllowancePassed = (omega arith, refl)

pub refusal-some : (x : Refusal) → 0 < refusal_number x
refusal-some x = (back x).0

pub refusal-told : (x y : Refusal) → refusal_number x ≡ refusal_number y → x ≡ y
refusal-told x y e = sym (back x).1 ∙ ap named e ∙ (back y).1

-- THE VERDICT OF A NUMBER
abbrev judged : ℕ → Verdict
judged n = if eqb n 0 then Ok tt else Err (named n)

verdict-back : (v : Verdict) → judged (verdict_number v) ≡ v
verdict-back (Err x) = rw (ne_eqb (refusal_number x) 0 (omega (arith, (back x).0))) (ap Err (back x).1)
verdict-back (Ok x) = refl

pub verdict-told : (v w : Verdict) → verdict_number v ≡ verdict_number w → v ≡ w
verdict-told v w e = sym (verdict-back v) ∙ ap judged e ∙ verdict-back w
