-- Computed cases of our own, for what document 01's sums let through.
use mathlib.Core.Path.{◌≡◌, refl}
use mathlib.Core.Bool.{Bool, true, false}
use mathlib.Core.List.{List, [], ◌∷◌, ◌++◌, map, Memᴰ as Mem}
use Prim.Native.Nat.{ℕ, ◌*◌}
use lib.ListN.{replicate}
use Rattle.lists.specs.Lists.{without, deal, joined, total}
use Rattle.lists.proofs.Computed.{same, same→eq, all-at}
use Rattle.slots.specs.Keys.{predecessor, segment_of}
use Rattle.cells.specs.Cells.{cell, weight}
use Rattle.cells.specs.Steps.{raised, tailed, noted, dropped, retargeted}
use Rattle.rules.specs.declared.Request.TheVariants.{Insert, Delete}
use Rattle.rules.specs.declared.Profile.TheVariants.{First}
use Rattle.rules.specs.Shares.{shares}
use Rattle.rules.specs.SharingOut.{left_share, plan, share_out}
use Rattle.rules.specs.Placing.{Room, sweep, chosen, settled, insert_level, insert_key, delete_level, delete_key, outcome}
use Rattle.rules.specs.Sums.{Case, Requested, Shared, gives, says, room, up_from}

-- the even numbers from 2 to 128
abbrev evens : List ℕ
evens = map (λ n. 2 * n) (up_from 1 64)

-- Noting that changes the very split it precedes: 2 gets its weight from this insert, and 17 and 48 are not 33 and 32.
abbrev notes_first : Case
notes_first = Requested 2 (room (evens ∷ [] ∷ [] ∷ [] ∷ []) []) (Insert 3 ∷ []) (17 ∷ 48 ∷ 0 ∷ 0 ∷ 0 ∷ 65 ∷ 0 ∷ 1 ∷ 0 ∷ [])

-- The front's weight belongs to left halves only: the right half is shared evenly.
abbrev front_left : Case
front_left = Shared 2 (cell 0 0 3 ∷ []) (up_from 1 100) (10 ∷ 26 ∷ 32 ∷ 32 ∷ [])

-- and to windows that begin at slot 0: here segments 2 and 3 are swept, and only the last key weighs.
abbrev front_elsewhere : Case
front_elsewhere =
    Requested 2 (room ((1 ∷ []) ∷ [] ∷ up_from 101 64 ∷ [] ∷ []) (cell 0 0 3 ∷ [])) (Insert 200 ∷ []) (1 ∷ 0 ∷ 48 ∷ 17 ∷ 0 ∷ 65 ∷ 0 ∷ 2 ∷ 3 ∷ [])

-- A delete's climb that meets a window above its limits, at height 6: levels 1 to 4 are too sparse, level 5 holds 1,197 keys where 1,184
-- are allowed, and the whole array is within limits.
abbrev crowded_counts : List ℕ
crowded_counts =
    (7 ∷ 9 ∷ 10 ∷ 10 ∷ []) ++ (replicate 4 11 ++ (replicate 8 12 ++ (replicate 14 64 ++ (replicate 2 63 ++ replicate 32 0))))

abbrev fours : ℕ → List ℕ
fours n = joined (replicate n (19 ∷ 19 ∷ 19 ∷ 18 ∷ []))

abbrev lower : List ℕ
lower = 19 ∷ 18 ∷ 19 ∷ 18 ∷ []

abbrev crowded_window : Case
crowded_window =
    Requested 6 (room (deal crowded_counts (up_from 1 (total crowded_counts))) []) (Delete 1 ∷ [])
    (fours 7 ++ (lower ++ (fours 3 ++ (lower ++ (fours 3 ++ (lower ++ (0 ∷ 1197 ∷ 0 ∷ 0 ∷ 0 ∷ [])))))))

-- The denominators of formula 6: with the two exchanged, or without the keys in them, the left half would take 13.
abbrev fractions : Case
fractions = Shared 1 (cell 2 0 1 ∷ cell 15 0 5 ∷ []) (up_from 1 43) (15 ∷ 28 ∷ [])

-- A shift's moves: the two keys above, and the new one.
abbrev shifts : Case
shifts = Requested 1 (room ((10 ∷ 20 ∷ 30 ∷ []) ∷ [] ∷ []) []) (Insert 15 ∷ []) (4 ∷ 0 ∷ 0 ∷ 3 ∷ 0 ∷ 1 ∷ 0 ∷ [])

-- P at height 2 is 8: where 7 cells are used, an insert behind a key without one leaves 8; the next only takes from the tail, which goes.
abbrev seven_cells : Room
seven_cells = room (up_from 1 8 ∷ [] ∷ [] ∷ [] ∷ []) (map (λ x. cell x 0 1) (up_from 1 7))

abbrev eighth_cell : Case
eighth_cell = Requested 2 seven_cells (Insert 9 ∷ []) (9 ∷ 0 ∷ 0 ∷ 0 ∷ 0 ∷ 1 ∷ 0 ∷ 8 ∷ 0 ∷ [])

abbrev no_ninth_cell : Case
no_ninth_cell = Requested 2 seven_cells (Insert 9 ∷ Insert 10 ∷ []) (10 ∷ 0 ∷ 0 ∷ 0 ∷ 0 ∷ 1 ∷ 0 ∷ 7 ∷ 0 ∷ [])

abbrev own_cases : List Case
own_cases = notes_first ∷ front_left ∷ front_elsewhere ∷ crowded_window ∷ fractions ∷ shifts ∷ eighth_cell ∷ no_ninth_cell ∷ []

abbrev right : Case → Bool
right c = same (gives First c) (says c)

pub own-cases : (c : Case) → Mem c own_cases → gives First c ≡ says c
unfolding without predecessor segment_of weight raised tailed noted dropped retargeted left_share plan share_out sweep chosen settled insert_level insert_key delete_level delete_key outcome
own-cases c m = same→eq (gives First c) (says c) (all-at right own_cases tt c m)

-- A cell whose marker a sweep takes to another segment names the new one.
pub aims-again : (outcome (shares First 2) (Insert 3) (room (evens ∷ [] ∷ [] ∷ [] ∷ []) (cell 128 0 1 ∷ []))).room.cells ≡ cell 2 0 1 ∷ cell 128 1 1 ∷ []
unfolding without predecessor segment_of weight raised tailed noted dropped retargeted left_share plan share_out sweep chosen settled insert_level insert_key delete_level delete_key outcome
aims-again = refl

-- A sweep is told, and its absence.
pub swept-told : ((outcome (shares First 2) (Insert 3) (room (evens ∷ [] ∷ [] ∷ [] ∷ []) [])).swept ≡ true)
    × ((outcome (shares First 1) (Insert 15) (room ((10 ∷ []) ∷ [] ∷ []) [])).swept ≡ false)
unfolding without predecessor segment_of weight raised tailed noted dropped retargeted left_share plan share_out sweep chosen settled insert_level insert_key delete_level delete_key outcome
swept-told = (refl, refl)
