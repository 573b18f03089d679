-- Document 02, (v): two profiles, which a call names by a number, 1 or 2. Any other number is refused by 15, before all else.
use Rattle.std.specs.Prelude.{ℕ, ◌≡◌, Bool, true, false, ◌||◌, eqb, if◌then◌else◌, Result, MatchResult}
use Rattle.rules.specs.declared.Refusal.{Refusal}
use Rattle.rules.specs.declared.Refusal.TheVariants.{UnknownProfile}
use Rattle.rules.specs.declared.Profile.{Profile}
use Rattle.rules.specs.declared.Profile.TheVariants.{First, Second}

abbrev pub number_of : Profile → ℕ
number_of First = 1
number_of Second = 2

abbrev pub is_profile : ℕ → Bool
is_profile n = eqb n 1 || eqb n 2

-- The profile that a number names. What it gives for a number that names none is never used.
abbrev pub profile_of : ℕ → Profile
profile_of n = if eqb n 2 then Second else First

-- Read from a number: the profile that it names, or refusal 15.
abbrev pub Named : ℕ → Result Profile Refusal → Type 0
Named n r = MatchResult r (λ p. (is_profile n ≡ true) × (p ≡ profile_of n)) (λ x. (is_profile n ≡ false) × (x ≡ UnknownProfile))

-- Keys per segment of a whole list: the most, and the fewest that are not sparse.
abbrev pub most : Profile → ℕ
most First = 32
most Second = 44

abbrev pub fewest : Profile → ℕ
fewest First = 13
fewest Second = 20
