-- A profile and its number tell each other.
use mathlib.Core.Path.{◌≡◌, refl}
use mathlib.Core.Bool.{Bool, true, false, ◌||◌}
use mathlib.Core.Logic.{◌⊎◌, inl, inr}
use Prim.Native.Nat.{ℕ}
use lib.Dec.{T, eqb, eqb→eq}
use Rattle.rules.specs.declared.Profile.{Profile}
use Rattle.rules.specs.declared.Profile.TheVariants.{First, Second}
use Rattle.rules.specs.Profiles.{number_of, is_profile, profile_of}

pub profile-named : (p : Profile) → profile_of (number_of p) ≡ p
profile-named First = refl
profile-named Second = refl

pub number-known : (p : Profile) → T (is_profile (number_of p))
number-known First = tt
number-known Second = tt

-- a known number is 1 or 2
pub one-or-two : (n : ℕ) → T (is_profile n) → (n ≡ 1) ⊎ (n ≡ 2)
one-or-two n = go (eqb n 1) (eqb→eq n 1) (eqb n 2) (eqb→eq n 2)
  where
    go : (a : Bool) → (T a → n ≡ 1) → (b : Bool) → (T b → n ≡ 2) → T (a || b) → (n ≡ 1) ⊎ (n ≡ 2)
    go true p b q t = inl (p tt)
    go false p true q t = inr (q tt)
    go false p false q t = absurd t

pub number-named : (n : ℕ) → T (is_profile n) → number_of (profile_of n) ≡ n
number-named n t = elim (one-or-two n t) [ inl e ↦ rw e refl | inr e ↦ rw e refl ]
