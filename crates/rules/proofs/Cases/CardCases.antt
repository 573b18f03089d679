-- Computed cases of the calls on a list with cards: records with a card, refusals 12 and 13, where each card stands after a call, a scan to
-- the last key, and a run that stops.
use mathlib.Core.Path.{◌≡◌, refl}
use mathlib.Core.Bool.{true, false}
use mathlib.Core.List.{List, [], ◌∷◌, ◌++◌}
use Prim.Native.Nat.{ℕ, ◌+◌, ◌-◌}
use lib.ListN.{length, replicate}
use Rattle.lists.specs.Lists.{padded, without}
use Rattle.slots.specs.Segments.{height_of, segments_of, render}
use Rattle.slots.specs.Orders.{order_of}
use Rattle.slots.specs.Keys.{predecessor, segment_of}
use Rattle.levels.specs.Tables.{table_of}
use Rattle.cells.specs.Steps.{raised, tailed, noted, dropped}
use Rattle.forecast.specs.declared.Forecast.{Forecast}
use Rattle.forecast.specs.Cells.{cells, forecast_of}
use Rattle.forecast.specs.Faults.{fault_at, fault_of}
use Rattle.rules.specs.declared.Request.TheVariants.{Insert, Bad}
use Rattle.rules.specs.Placing.{chosen, settled, insert_level, insert_key, delete_level, delete_key, outcome}
use Rattle.rules.specs.Looking.{looked_up, scanned}
use Rattle.rules.specs.Runs.{asking, record_of, records_of, work, ran}
use Rattle.rules.specs.Cards.{card_at, cards_beside}
use Rattle.rules.specs.Lent.{Lent, lend}
use Rattle.rules.specs.Checks.{check_cards, then_forecast, then_table, check_read, check}
use Rattle.rules.specs.Calls.{not_made, make, lookup, scan, request, insert, delete, run, Worked}
use Rattle.rules.proofs.Cases.RefusalCases.{slots}

-- RECORDS, here of key y below 256 and of some kind
abbrev begins : ℕ → ℕ → List ℕ
begins kind y = 0xA5 ∷ 0x5A ∷ kind ∷ 0 ∷ 0 ∷ 0 ∷ 0 ∷ 0 ∷ 0 ∷ 0 ∷ y ∷ []

-- four bytes more, high byte first; with three it is short
pub kind-four : (record_of (begins 4 7 ++ (1 ∷ 2 ∷ 3 ∷ 4 ∷ [])) ≡ asking (Insert 7) 0x01020304 15) × (record_of (begins 4 7 ++ (1 ∷ 2 ∷ 3 ∷ [])) ≡ asking Bad 0 11)
unfolding record_of
kind-four = (refl, refl)

-- kind 1 has none, whatever follows; there is no kind 3
pub other-kinds : (record_of (begins 1 7 ++ (1 ∷ 2 ∷ 3 ∷ 4 ∷ [])) ≡ asking (Insert 7) 0 11) × (record_of (begins 3 7 ++ (1 ∷ 2 ∷ 3 ∷ 4 ∷ [])) ≡ asking Bad 0 11)
unfolding record_of
other-kinds = (refl, refl)

-- THE CHECK tells 1 before 12, 12 before 2, 2 before 13 and 13 before 3
abbrev falling : List ℕ
falling = 2 ∷ 1 ∷ replicate 126 0

pub told-in-order : (check_cards 1 (lend [] (1 ∷ []) []) ≡ 1) × (check_cards 1 (lend falling (replicate 127 0) []) ≡ 12) × (check_cards 1 (lend falling (replicate 128 1) []) ≡ 2)
    × (check_cards 1 (lend (slots 33 32) (replicate 128 1) []) ≡ 13)
unfolding check_cards height_of order_of
told-in-order = (refl, refl, refl, refl)

-- make tells 15 first, and 12 before 14, and leaves all
pub make-told : (make 3 (lend falling (7 ∷ []) []) ≡ not_made (lend falling (7 ∷ []) []) 15) × (make 1 (lend falling (7 ∷ []) []) ≡ not_made (lend falling (7 ∷ []) []) 12)
unfolding make height_of
make-told = (refl, refl)

-- WHERE EACH CARD STANDS. Two segments, filled from the left
abbrev filled : List ℕ → List ℕ → List ℕ
filled xs ys = xs ++ (replicate (64 - length xs) 0 ++ (ys ++ replicate (64 - length ys) 0))

abbrev three : Lent
three = lend (filled (10 ∷ 20 ∷ []) (30 ∷ [])) (filled (5 ∷ 6 ∷ []) (7 ∷ [])) (2 ∷ 1 ∷ 3 ∷ [])

abbrev none : Forecast
none = forecast_of []

-- a gap has card 0, whatever the keys' cards
pub gap-without : cards_beside (λ k. k + 1) (10 ∷ 0 ∷ 20 ∷ []) ≡ 11 ∷ 0 ∷ 21 ∷ []
unfolding cards_beside
gap-without = refl

-- lookup tells the card
pub card-told : (lookup 1 three 20 ≡ record { number = 0; present = true; segment = 0; card = 6 }) × ((lookup 1 three 30).card ≡ 7)
unfolding lookup looked_up card_at check_read then_table check_cards table_of height_of order_of segments_of segment_of
card-told = (refl, refl)

-- a scan writes as many as the shorter output takes, and leaves the rest of the longer
pub shorter-fits : (scan 1 three 0 (91 ∷ 92 ∷ 93 ∷ []) (81 ∷ 82 ∷ []) ≡ record { number = 0; written = 2; more = true; output = 10 ∷ 20 ∷ 93 ∷ []; cards = 5 ∷ 6 ∷ [] })
    × (scan 1 three 0 (91 ∷ 92 ∷ []) (81 ∷ 82 ∷ 83 ∷ []) ≡ record { number = 0; written = 2; more = true; output = 10 ∷ 20 ∷ []; cards = 5 ∷ 6 ∷ 83 ∷ [] })
unfolding scan scanned card_at check_read then_table check_cards table_of height_of order_of segments_of segment_of
shorter-fits = (refl, refl)

-- where the last key is written no more remain, though keys stand above the one begun from
pub all-written : scan 1 three 10 (91 ∷ 92 ∷ []) (81 ∷ 82 ∷ []) ≡ record { number = 0; written = 2; more = false; output = 20 ∷ 30 ∷ []; cards = 6 ∷ 7 ∷ [] }
unfolding scan scanned card_at check_read then_table check_cards table_of height_of order_of segments_of segment_of
all-written = refl

-- an insert puts its card beside its key, and those above go with their keys; a key that is there keeps its own
pub insert-puts : ((insert 1 three none 15 9).lent ≡ lend (filled (10 ∷ 15 ∷ 20 ∷ []) (30 ∷ [])) (filled (5 ∷ 9 ∷ 6 ∷ []) (7 ∷ [])) (3 ∷ 1 ∷ 4 ∷ []))
    × ((insert 1 three none 15 9).answer ≡ record { number = 0; moves = 2; sparse = false })
    × ((insert 1 three none 20 9).lent ≡ three)
unfolding request check then_forecast then_table check_cards card_at cards_beside table_of height_of order_of fault_of fault_at cells padded forecast_of segments_of segment_of predecessor raised tailed noted settled insert_level insert_key outcome render
insert-puts = (refl, refl, refl)

-- a delete closes the gap in both, and leaves card 0 in the last
pub delete-closes : (delete 1 three none 10).lent ≡ lend (filled (20 ∷ []) (30 ∷ [])) (filled (6 ∷ []) (7 ∷ [])) (1 ∷ 1 ∷ 2 ∷ [])
unfolding request check then_forecast then_table check_cards card_at cards_beside table_of height_of order_of fault_of fault_at cells padded forecast_of segments_of segment_of without dropped chosen settled delete_level delete_key outcome render
delete-closes = refl

-- A RUN with a card for a key that is there, which is refused, one for a new key, and a new key without: 15, 15 and 11 bytes
abbrev bytes : List ℕ
bytes = begins 4 20 ++ ((0 ∷ 0 ∷ 0 ∷ 8 ∷ []) ++ (begins 4 15 ++ ((0 ∷ 0 ∷ 0 ∷ 9 ∷ []) ++ begins 1 40)))

abbrev ran-within : ℕ → Worked
ran-within allowance = run 1 three none bytes allowance (record { worked = 0; refused = 0; moved = 0; sweeps = 0 })

pub run-keeps-cards : ((ran-within 100).lent.cards ≡ filled (5 ∷ 9 ∷ 6 ∷ []) (7 ∷ 0 ∷ [])) × ((ran-within 100).reply.tally.place ≡ 41)
unfolding run ran work records_of record_of check then_forecast then_table check_cards card_at cards_beside table_of height_of order_of fault_of fault_at cells padded forecast_of segments_of segment_of predecessor raised tailed noted settled insert_level insert_key outcome render
run-keeps-cards = (refl, refl)

-- within 2 moves it stops before the third, which is not counted; the refused one is
pub run_stops : (ran-within 2).reply ≡ record { tally = record { worked = 2; refused = 1; moves = 2; sweeps = 0; place = 30 }; stop = 10 }
unfolding run ran work records_of record_of check then_forecast then_table check_cards card_at cards_beside table_of height_of order_of fault_of fault_at cells padded forecast_of segments_of segment_of predecessor raised tailed noted settled insert_level insert_key outcome render
run_stops = refl
