-- Verdicts by their numbers: 9 and 10 stop the run, over 0 it is a refusal. And what a request comes to within the moves that are left.
use Rattle.std.proofs.Common.{Result, Err, Ok}
use mathlib.Core.Path.{◌≡◌, refl, sym, ap, ◌∙◌, subst}
use mathlib.Core.Bool.{Bool, true, false, not, ◌&&◌}
use Prim.Native.Nat.{ℕ, ◌≤◌, ◌<◌}
use mathlib.Core.Logic.{◌≢◌}
use lib.Dec.{T, ltb, ltb→lt}
use native.Mathlib.Omega.{arith}
use borrow.Author.Tests.{lt-ltb, le-ltb}
use Rattle.lists.proofs.Tests.{and_left}
use Rattle.rules.specs.declared.Refusal.{Refusal}
use Rattle.rules.specs.declared.Request.{Request}
use Rattle.rules.specs.declared.Refusal.TheVariants.{UnknownProfile, WrongLength, WrongCards, WrongOrder, CardInGap, TooManyKeys, WrongForecast, WrongTable, KeyZero, KeyPresent, KeyAbsent, Full, BadRecord, AllowancePassed}
use Rattle.rules.specs.Refusals.{verdict_number, Verdict}
use Rattle.rules.specs.Shares.{Shares}
use Rattle.rules.specs.Placing.{Room, outcome}
use Rattle.aims.specs.declared.Aim.{Aim}
use Rattle.aims.specs.Aims.{Aimed}
use Rattle.tallies.specs.Counted.{is_stop, is_accepted, comes_to, verdict_of, moves_of}

abbrev stopping : ℕ → Bool
stopping n = ltb 8 n && ltb n 11

pub told : (v : Verdict) → (is_stop v ≡ stopping (verdict_number v)) × (not (is_accepted v) ≡ ltb 0 (verdict_number v))
told (Err UnknownProfile) = (refl, refl)
told (Err WrongLength) = (refl, refl)
told (Err WrongCards) = (refl, refl)
told (Err WrongOrder) = (refl, refl)
told (Err CardInGap) = (refl, refl)
told (Err TooManyKeys) = (refl, refl)
told (Err WrongForecast) = (refl, refl)
told (Err WrongTable) = (refl, refl)
told (Err KeyZero) = (refl, refl)
told (Err KeyPresent) = (refl, refl)
told (Err KeyAbsent) = (refl, refl)
told (Err Full) = (refl, refl)
told (Err BadRecord) = (refl, refl)
told (Err AllowancePassed) = (refl, refl)
told (Ok x) = (refl, refl)

pub stop-high : (v : Verdict) → is_stop v ≡ true → 8 < verdict_number v
stop-high v e = ltb→lt 8 (verdict_number v) (and_left (ltb 8 (verdict_number v)) (ltb (verdict_number v) 11) (subst T (sym e ∙ (told v).0) tt))

pub on-good : (v : Verdict) → is_stop v ≡ false → verdict_number v ≢ 9
on-good v e z = subst (λ (b : Bool). T (not b)) (sym e ∙ (told v).0 ∙ ap stopping z) tt

pub comes-over : (left : ℕ) (r : Result Aim Refusal) → left < moves_of r → comes_to left r ≡ Err AllowancePassed
comes-over left (Err x) h = absurd (omega (arith, h))
comes-over left (Ok r) h = rw (lt-ltb left r.moves h) refl

pub comes-within : (left : ℕ) (r : Result Aim Refusal) → moves_of r ≤ left → comes_to left r ≡ verdict_of r
comes-within left (Err x) h = refl
comes-within left (Ok r) h = rw (le-ltb left r.moves h) refl

-- its number and its moves are those of the rules
pub aimed-number : (S : Shares) (q : Request) (R : Room) (r : Result Aim Refusal) → Aimed S q R r → verdict_number (verdict_of r) ≡ (outcome S q R).answer.number
aimed-number S q R (Err x) a = a.0
aimed-number S q R (Ok r) a = a.number

pub aimed-moves : (S : Shares) (q : Request) (R : Room) (r : Result Aim Refusal) → Aimed S q R r → moves_of r ≡ (outcome S q R).answer.moves
aimed-moves S q R (Err x) a = a.1
aimed-moves S q R (Ok r) a = a.moves
