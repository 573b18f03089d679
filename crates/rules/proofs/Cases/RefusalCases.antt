-- Computed cases of the refusals, each at the edge of its row. (12 and 13: CardCases; 14: TableCases.)
use mathlib.Core.Path.{◌≡◌, refl}
use mathlib.Core.List.{List, [], ◌++◌}
use Prim.Native.Nat.{ℕ, ◌-◌}
use lib.ListN.{replicate}
use Rattle.slots.specs.Segments.{height_of, segments_of}
use Rattle.slots.specs.Orders.{order_of}
use Rattle.slots.specs.Keys.{segment_of}
use Rattle.levels.specs.Tables.{table_of}
use Rattle.forecast.specs.declared.Forecast.{Forecast}
use Rattle.forecast.specs.Cells.{cells}
use Rattle.forecast.specs.Faults.{fault_at, fault_of}
use Rattle.rules.specs.declared.Request.TheVariants.{Insert}
use Rattle.rules.specs.declared.Profile.TheVariants.{First}
use Rattle.rules.specs.Shares.{shares}
use Rattle.rules.specs.Placing.{outcome}
use Rattle.rules.specs.Looking.{looked_up}
use Rattle.rules.specs.Cards.{cards_beside}
use Rattle.rules.specs.Lent.{Lent, lend, laid}
use Rattle.rules.specs.Checks.{check_cards, then_forecast, then_table, check_read, check}
use Rattle.rules.specs.Calls.{make, lookup}
use Rattle.rules.specs.Sums.{room, up_from}

-- slots of height 1, with a and b keys in their segments
abbrev pub slots : ℕ → ℕ → List ℕ
slots a b = up_from 1 a ++ (replicate (64 - a) 0 ++ (up_from 101 b ++ replicate (64 - b) 0))

-- slots with card 0 beside each, and their table
abbrev blank : List ℕ → Lent
blank xs = laid (λ k. 0) xs

-- a forecast with one cell, in use, whose count is 0
abbrev pub uncounted : Forecast
uncounted = record { markers = replicate 12 0; segments = replicate 12 0; counts = replicate 12 0; used = 1 }

-- 64 keys are allowed at height 1, and 65 are not
full-passes : check_cards 1 (blank (slots 33 31)) ≡ 0
unfolding check_cards cards_beside table_of height_of order_of segments_of
full-passes = refl

over-full : check_cards 1 (blank (slots 33 32)) ≡ 3
unfolding check_cards cards_beside table_of height_of order_of segments_of
over-full = refl

-- in the second profile 88 are, and 89 are not; a segment may be lent with up to 64
second-passes : check_cards 2 (blank (slots 44 44)) ≡ 0
unfolding check_cards cards_beside table_of height_of order_of segments_of
second-passes = refl

second-over-full : check_cards 2 (blank (slots 45 44)) ≡ 3
unfolding check_cards cards_beside table_of height_of order_of segments_of
second-over-full = refl

crowded-passes : check_cards 2 (blank (slots 64 24)) ≡ 0
unfolding check_cards cards_beside table_of height_of order_of segments_of
crowded-passes = refl

-- a list of the second profile may be too full for the first
handed-over : (check_cards 2 (blank (slots 33 32)) ≡ 0) × (check_cards 1 (blank (slots 33 32)) ≡ 3)
unfolding check_cards cards_beside table_of height_of order_of segments_of
handed-over = (refl, refl)

-- an unknown profile is told before a wrong length
profile-told-first : (check_cards 0 (blank []) ≡ 15) × (check_cards 3 (blank (slots 1 0)) ≡ 15) × (check_cards 1 (blank []) ≡ 1) × ((make 3 (lend [] [] [])).number ≡ 15)
unfolding check_cards cards_beside table_of height_of order_of segments_of make
profile-told-first = (refl, refl, refl, refl)

-- a bad forecast is told of a good list, and not of a bad one
forecast-told : check 1 (blank (slots 33 31)) uncounted ≡ 4
unfolding check then_table then_forecast check_cards cards_beside table_of height_of order_of fault_of fault_at cells segments_of segment_of
forecast-told = refl

list-told-first : check 1 (blank (slots 33 32)) uncounted ≡ 3
unfolding check then_table then_forecast check_cards cards_beside table_of height_of order_of fault_of fault_at cells segments_of segment_of
list-told-first = refl

-- key 0 is refused, not absent
key-zero : (lookup 1 (blank (slots 1 0)) 0).number ≡ 5
unfolding lookup looked_up check_read then_table check_cards cards_beside table_of height_of order_of segments_of segment_of
key-zero = refl

-- a full list tells a present key first, and takes no other though its segment has room
present-before-full : (outcome (shares First 1) (Insert 1) (room (segments_of (slots 33 31)) [])).answer.number ≡ 6
unfolding outcome segments_of
present-before-full = refl

full-by-keys : (outcome (shares First 1) (Insert 50) (room (segments_of (slots 33 31)) [])).answer.number ≡ 8
unfolding outcome segments_of
full-by-keys = refl

-- lookup tells the segment of a key that is there
in-segment : (lookup 1 (blank (slots 1 1)) 101).segment ≡ 1
unfolding lookup looked_up check_read then_table check_cards cards_beside table_of height_of order_of segments_of segment_of
in-segment = refl
