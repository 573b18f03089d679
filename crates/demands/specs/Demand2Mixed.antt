-- Demand 2 with a profile for each ask: on a list made empty, any sequence in any profiles, unknown ones too, is answered as the plain set is,
-- within the limits of the profile asked in.
use Rattle.std.specs.Prelude.{ℕ, ◌*◌, ◌^◌, ◌≤◌, ◌≡◌, false, not, List, [], ◌∷◌, ltb, eqb, length, if◌then◌else◌}
use Rattle.levels.specs.Tables.{table_size}
use Rattle.rules.specs.declared.Profile.{Profile}
use Rattle.rules.specs.Profiles.{number_of, is_profile, profile_of, most, fewest}
use Rattle.rules.specs.Lent.{Lent}
use Rattle.rules.specs.Checks.{check}
use Rattle.demands.specs.PlainSet as set
use Rattle.demands.specs.Demand2.{Holds, Held, told, after, made}

pub record Asked : Type 0 where
  pub profile : ℕ
  pub ask : set.Ask

-- The number by which a set of a list of height h refuses whatever is asked: an unknown profile, or more keys than the profile's most; else 0.
abbrev pub refusal : ℕ → ℕ → List ℕ → ℕ
refusal h profile ks = if not (is_profile profile) then 15 else if ltb (most (profile_of profile) * 2 ^ h) (length ks) then 3 else 0

-- What is told then: the number alone; a scan leaves its outputs.
abbrev pub refused_told : ℕ → set.Ask → set.Told
refused_told n (set.Insert y v) = set.Inserted n
refused_told n (set.Delete y) = set.Deleted n false
refused_told n (set.Lookup y) = set.Found n false 0
refused_told n (set.Scan a out cards) = set.Scanned n 0 false out cards

-- The set, asked: what it tells, and what it holds then.
abbrev pub set_told : ℕ → Asked → set.Events → set.Told
set_told h a E =
    let p : Profile = profile_of a.profile in
    let n : ℕ = refusal h a.profile E.keys in
    if eqb n 0 then set.told (most p * 2 ^ h) (fewest p * 2 ^ h) a.ask E else refused_told n a.ask

abbrev pub set_after : ℕ → Asked → set.Events → set.Events
set_after h a E = if eqb (refusal h a.profile E.keys) 0 then set.after (most (profile_of a.profile) * 2 ^ h) a.ask E else E

abbrev pub all_set_told : ℕ → List Asked → set.Events → List set.Told
all_set_told h [] E = []
all_set_told h (a ∷ asks) E = set_told h a E ∷ all_set_told h asks (set_after h a E)

abbrev pub set_after_all : ℕ → List Asked → set.Events → set.Events
set_after_all h [] E = E
set_after_all h (a ∷ asks) E = set_after_all h asks (set_after h a E)

-- The public calls, asked the same.
abbrev pub all_told : List Asked → Held → List set.Told
all_told [] H = []
all_told (a ∷ asks) H = told a.profile a.ask H ∷ all_told asks (after a.profile a.ask H)

abbrev pub after_all : List Asked → Held → Held
after_all [] H = H
after_all (a ∷ asks) H = after_all asks (after a.profile a.ask H)

-- From make on, in either profile: every answer is the set's, the list holds its events, and list, cards, table and
-- forecast pass the check in the second profile, which has the larger most.
abbrev pub MixedAnswered : Type 0
MixedAnswered = (p : Profile) (h : ℕ) → 1 ≤ h → h ≤ 6 → (L : Lent) → length L.slots ≡ 64 * 2 ^ h → length L.cards ≡ length L.slots → length L.table ≡ table_size h → (asks : List Asked)
    → let H : Held = made (number_of p) L in
    (all_told asks H ≡ all_set_told h asks set.empty)
    × Holds (set_after_all h asks set.empty) (after_all asks H).lent
    × (check 2 (after_all asks H).lent (after_all asks H).forecast ≡ 0)
