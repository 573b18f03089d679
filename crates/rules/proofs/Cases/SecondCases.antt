-- Computed cases of the second profile, on lists of height 1 without cells. An insert notes first.
use mathlib.Core.Path.{◌≡◌}
use mathlib.Core.Bool.{Bool}
use mathlib.Core.List.{List, [], ◌∷◌, ◌++◌, map, Memᴰ as Mem}
use Prim.Native.Nat.{◌-◌}
use Rattle.lists.specs.Lists.{without}
use Rattle.lists.proofs.Computed.{same, same→eq, all-at}
use Rattle.slots.specs.Keys.{predecessor, segment_of}
use Rattle.cells.specs.Cells.{weight}
use Rattle.cells.specs.Steps.{raised, tailed, noted, dropped, retargeted}
use Rattle.rules.specs.declared.Profile.TheVariants.{Second}
use Rattle.rules.specs.declared.Request.TheVariants.{Insert, Delete}
use Rattle.rules.specs.SharingOut.{left_share, plan, share_out}
use Rattle.rules.specs.Placing.{sweep, chosen, settled, insert_level, insert_key, delete_level, delete_key, outcome}
use Rattle.rules.specs.Sums.{Case, Requested, gives, says, room, pair, up_from}

-- A segment overflows past 58: behind its last key, and at the front. With 57 keys it takes one more.
abbrev overflows : List Case
overflows =
    Requested 1 (pair 58 1) (Insert 59 ∷ []) (40 ∷ 20 ∷ 0 ∷ 60 ∷ 0 ∷ 1 ∷ 0 ∷ [])
    ∷ Requested 1 (room (up_from 2 58 ∷ (101 ∷ []) ∷ []) []) (Insert 1 ∷ []) (20 ∷ 40 ∷ 0 ∷ 60 ∷ 0 ∷ 1 ∷ 1 ∷ [])
    ∷ Requested 1 (pair 57 1) (Insert 58 ∷ []) (58 ∷ 1 ∷ 0 ∷ 1 ∷ 0 ∷ 1 ∷ 0 ∷ [])
    ∷ []

-- A list holds 88 keys at most.
abbrev fills : List Case
fills =
    Requested 1 (pair 64 23) (Insert 65 ∷ []) (44 ∷ 44 ∷ 0 ∷ 88 ∷ 0 ∷ 1 ∷ 0 ∷ [])
    ∷ Requested 1 (pair 64 24) (Insert 65 ∷ []) (64 ∷ 24 ∷ 8 ∷ 0 ∷ 0 ∷ 0 ∷ 0 ∷ [])
    ∷ []

-- A delete of each key of segment 0 in turn: with 6 keys it leaves too few there, and 39 in all are sparse, 40 are not; with 7 it shifts.
abbrev thins : List Case
thins =
    map (λ y. Requested 1 (pair 6 34) (Delete y ∷ []) (5 ∷ 34 ∷ 0 ∷ (6 - y) ∷ 1 ∷ 0 ∷ 0 ∷ [])) (up_from 1 6)
    ++ (map (λ y. Requested 1 (pair 6 35) (Delete y ∷ []) (20 ∷ 20 ∷ 0 ∷ 40 ∷ 0 ∷ 0 ∷ 0 ∷ [])) (up_from 1 6)
    ++ map (λ y. Requested 1 (pair 7 35) (Delete y ∷ []) (6 ∷ 35 ∷ 0 ∷ (7 - y) ∷ 0 ∷ 0 ∷ 0 ∷ [])) (up_from 1 7))

-- A segment of 60 keys, as a list may be lent: a delete there shifts, an insert sweeps.
abbrev crowded : List Case
crowded =
    Requested 1 (pair 60 10) (Insert 61 ∷ []) (44 ∷ 27 ∷ 0 ∷ 71 ∷ 0 ∷ 1 ∷ 0 ∷ [])
    ∷ map (λ y. Requested 1 (pair 60 10) (Delete y ∷ []) (59 ∷ 10 ∷ 0 ∷ (60 - y) ∷ 0 ∷ 0 ∷ 0 ∷ [])) (1 ∷ 30 ∷ 60 ∷ [])

abbrev second_cases : List Case
second_cases = overflows ++ (fills ++ (thins ++ crowded))

abbrev right : Case → Bool
right c = same (gives Second c) (says c)

pub second-cases : (c : Case) → Mem c second_cases → gives Second c ≡ says c
unfolding without predecessor segment_of weight raised tailed noted dropped retargeted left_share plan share_out sweep chosen settled insert_level insert_key delete_level delete_key outcome
second-cases c m = same→eq (gives Second c) (says c) (all-at right second_cases tt c m)
