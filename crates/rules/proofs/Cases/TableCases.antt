-- Computed cases of the table beside a list: what it holds, and refusal 14, at each edge of its row.
use mathlib.Core.Path.{◌≡◌, refl}
use mathlib.Core.Bool.{false}
use mathlib.Core.List.{List, [], ◌∷◌}
use Prim.Native.Nat.{ℕ}
use lib.ListN.{replicate}
use Rattle.lists.specs.Lists.{padded}
use Rattle.slots.specs.Segments.{height_of, segments_of, render}
use Rattle.slots.specs.Orders.{order_of}
use Rattle.slots.specs.Keys.{predecessor, segment_of}
use Rattle.levels.specs.Tables.{table_of, entry_at}
use Rattle.cells.specs.Steps.{raised, tailed, noted}
use Rattle.forecast.specs.declared.Forecast.{Forecast}
use Rattle.forecast.specs.Cells.{cells, forecast_of}
use Rattle.forecast.specs.Faults.{fault_at, fault_of}
use Rattle.rules.specs.Placing.{settled, insert_level, insert_key, outcome}
use Rattle.rules.specs.Lent.{Lent, lend}
use Rattle.rules.specs.Checks.{check_cards, then_forecast, then_table, check_read, check}
use Rattle.rules.specs.Calls.{not_made, make, lookup, scan, unchanged, request, insert}
use Rattle.rules.proofs.Cases.RefusalCases.{slots, uncounted}

-- SEGMENTS FIRST, each level left to right: of four segments with 1, 0, 2 and 1 keys, and where the windows round segment 2 have their entries
pub four-segments : table_of 2 ((1 ∷ []) ∷ [] ∷ (2 ∷ 3 ∷ []) ∷ (4 ∷ []) ∷ []) ≡ 1 ∷ 0 ∷ 2 ∷ 1 ∷ 1 ∷ 3 ∷ 4 ∷ []
unfolding table_of
four-segments = refl

pub round-segment-2 : (entry_at 2 0 2 ≡ 2) × (entry_at 2 1 2 ≡ 5) × (entry_at 2 2 2 ≡ 6)
round-segment-2 = (refl, refl, refl)

-- THE CHECK of slots with 2 and 1 keys, beside an empty forecast
abbrev beside : List ℕ → Lent
beside table = lend (slots 2 1) (replicate 128 0) table

abbrev none : Forecast
none = forecast_of []

pub right-passes : check 1 (beside (2 ∷ 1 ∷ 3 ∷ [])) none ≡ 0
unfolding check then_forecast then_table check_cards table_of height_of order_of fault_of fault_at cells padded forecast_of segments_of segment_of
right-passes = refl

-- an entry of the first segment, of the last and of the whole array; one entry too few, one too many
pub wrong-tables : (check 1 (beside (1 ∷ 1 ∷ 3 ∷ [])) none ≡ 14) × (check 1 (beside (2 ∷ 0 ∷ 3 ∷ [])) none ≡ 14) × (check 1 (beside (2 ∷ 1 ∷ 4 ∷ [])) none ≡ 14)
    × (check 1 (beside (2 ∷ 1 ∷ [])) none ≡ 14) × (check 1 (beside (2 ∷ 1 ∷ 3 ∷ 0 ∷ [])) none ≡ 14)
unfolding check then_forecast then_table check_cards table_of height_of order_of fault_of fault_at cells padded forecast_of segments_of segment_of
wrong-tables = (refl, refl, refl, refl, refl)

-- a bad forecast is told before a wrong table, and wrong order too
pub table-told-last : (check 1 (beside []) uncounted ≡ 4) × (check 1 (lend (2 ∷ 1 ∷ replicate 126 0) (replicate 128 0) []) none ≡ 2)
unfolding check then_forecast then_table check_cards table_of height_of order_of fault_of fault_at cells padded forecast_of segments_of segment_of
table-told-last = (refl, refl)

-- LOOKUP AND SCAN tell it too, before key 0
pub reads-told : ((lookup 1 (beside (2 ∷ 1 ∷ 4 ∷ [])) 0).number ≡ 14) × (scan 1 (beside (2 ∷ 1 ∷ 4 ∷ [])) 0 (7 ∷ []) (8 ∷ []) ≡ record { number = 14; written = 0; more = false; output = 7 ∷ []; cards = 8 ∷ [] })
unfolding lookup scan check_read then_table check_cards table_of height_of order_of segments_of
reads-told = (refl, refl)

-- a request refused by it leaves it as it was lent
pub left-wrong : insert 1 (beside (2 ∷ 1 ∷ 4 ∷ [])) none 9 0 ≡ unchanged (beside (2 ∷ 1 ∷ 4 ∷ [])) none 14
unfolding request check then_forecast then_table check_cards table_of height_of order_of fault_of fault_at cells padded forecast_of segments_of segment_of
left-wrong = refl

-- MAKE tests the length alone: it leaves all, or writes 0 in all
pub make-short : make 1 (beside (2 ∷ 1 ∷ [])) ≡ not_made (beside (2 ∷ 1 ∷ [])) 14
unfolding make height_of
make-short = refl

pub make-wrong-entries : (make 1 (beside (9 ∷ 9 ∷ 9 ∷ []))).lent ≡ lend (replicate 128 0) (replicate 128 0) (0 ∷ 0 ∷ 0 ∷ [])
unfolding make height_of
make-wrong-entries = refl

-- AN INSERT leaves the table with one key more, and a refused one leaves it
pub insert-counts : ((insert 1 (beside (2 ∷ 1 ∷ 3 ∷ [])) none 102 0).lent.table ≡ 2 ∷ 2 ∷ 4 ∷ []) × ((insert 1 (beside (2 ∷ 1 ∷ 3 ∷ [])) none 101 0).lent.table ≡ 2 ∷ 1 ∷ 3 ∷ [])
unfolding request check then_forecast then_table check_cards table_of height_of order_of fault_of fault_at cells padded forecast_of segments_of segment_of predecessor raised tailed noted settled insert_level insert_key outcome render
insert-counts = (refl, refl)
