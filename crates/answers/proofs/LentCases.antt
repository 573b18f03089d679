-- Windows swept again, computed, of the public calls: with refused requests, lookups and scans between, and with a change of profile.
use mathlib.Core.Path.{◌≡◌, refl}
use Prim.Native.Nat.{ℕ, ◌+◌, ◌-◌}
use mathlib.Core.Option.{none, some}
use mathlib.Core.Logic.{inr}
use mathlib.Core.List.{List, [], ◌∷◌, ◌++◌}
use lib.Dec.{ltb→lt}
use lib.ListN.{replicate}
use Rattle.lists.specs.Lists.{without, padded}
use Rattle.slots.specs.Segments.{height_of, segments_of, render}
use Rattle.slots.specs.Orders.{order_of}
use Rattle.slots.specs.Keys.{predecessor, segment_of}
use Rattle.levels.specs.Tables.{table_of}
use Rattle.cells.specs.Cells.{cell, weight}
use Rattle.cells.specs.Steps.{raised, tailed, noted, dropped, retargeted}
use Rattle.forecast.specs.Cells.{cells, forecast_of}
use Rattle.forecast.specs.Faults.{fault_at, fault_of}
use Rattle.rules.specs.declared.Profile.TheVariants.{First}
use Rattle.rules.specs.declared.Request.{Request}
use Rattle.rules.specs.declared.Request.TheVariants.{Insert, Delete}
use Rattle.rules.specs.SharingOut.{left_share, plan, share_out}
use Rattle.rules.specs.Placing.{sweep, chosen, settled, insert_level, insert_key, delete_level, delete_key, outcome}
use Rattle.rules.specs.Checks.{check_cards, then_forecast, then_table, check}
use Rattle.rules.specs.Calls.{request}
use Rattle.rules.specs.Sums.{up_from, pair}
use Rattle.demands.specs.History.{Event, deletes}
use Rattle.demands.specs.Demand3.{SweptAgain, counting}
use Rattle.demands.specs.Demand3Lent.{LentAsk, Change, Lookup, Scan, lent_events}
use Rattle.demands.proofs.Demand3.AgainCases.{AgainCase, grows, shrinks}

-- the table of a list of height 1 with a and b keys in its segments
abbrev beside : ℕ → ℕ → List ℕ
beside a b = a ∷ b ∷ (a + b) ∷ []

-- its cards, 0 beside each key and gap
abbrev zeros : List ℕ
zeros = replicate 128 0

-- in a profile, with card 0, lent the table of a and b keys and an empty forecast
abbrev empty-handed : ℕ → ℕ → ℕ → Request → LentAsk
empty-handed profile a b q = Change profile q 0 zeros (beside a b) (forecast_of [])

-- deletes in segment 0, and inserts in segment 1, one after the other, each lent the table that is right then
abbrev falling : ℕ → ℕ → ℕ → List ℕ → List LentAsk
falling profile a b [] = []
falling profile a b (y ∷ ys) = empty-handed profile a b (Delete y) ∷ falling profile (a - 1) b ys

abbrev rising : ℕ → ℕ → ℕ → List ℕ → List LentAsk
rising profile a b [] = []
rising profile a b (y ∷ ys) = empty-handed profile a b (Insert y) ∷ rising profile a (b + 1) ys

-- h = 1, segments 1 to 7 and 101 to 127. The front's weight leaves 13 keys in segment 0; then other forecasts are lent, and the seventh
-- delete sweeps again. A delete of a key that is gone, one whose forecast names a key that is not there, one with a wrong table, one with a
-- card too many and one whose profile is unknown are refused; a lookup in the other profile changes nothing.
abbrev asks : List LentAsk
asks =
    Change 1 (Delete 1) 0 zeros (beside 7 27) (forecast_of (cell 0 0 7 ∷ []))
    ∷ empty-handed 1 13 20 (Delete 1)
    ∷ Lookup 2 2
    ∷ Change 1 (Delete 101) 0 zeros (beside 13 20) (forecast_of (cell 1 0 1 ∷ []))
    ∷ empty-handed 1 14 19 (Delete 101)
    ∷ Change 1 (Delete 101) 0 (0 ∷ zeros) (beside 13 20) (forecast_of [])
    ∷ empty-handed 3 13 20 (Delete 101)
    ∷ Scan 1 0 (0 ∷ []) (0 ∷ [])
    ∷ falling 1 13 20 (up_from 2 6 ++ (101 ∷ []))

pub lent-by-deletes : AgainCase First 1 0 0 (lent_events asks (render 0 (pair 7 27).segments)) 0 7
unfolding without padded predecessor segment_of weight raised tailed noted dropped retargeted left_share plan share_out sweep chosen settled insert_level insert_key delete_level delete_key outcome request check then_forecast then_table check_cards table_of order_of height_of segments_of cells forecast_of fault_at fault_of render
lent-by-deletes = record {
  e₀ = shrinks 0 (some 1);
  es = replicate 6 (shrinks 0 none);
  e = shrinks 0 (some 1);
  again = record { history = refl; earlier = tt; since = tt; half = tt; again = tt };
  inserted = refl;
  deleted = refl;
  taken = inr (ltb→lt _ _ tt);
}

-- A CHANGE OF PROFILE starts afresh. h = 1, segments 1 to 7 and 101 to 139: in profile 1 the front's weight leaves 13 and 32 keys. Then, in
-- profile 2, three inserts fill segment 1 up to 35, and the eighth delete in segment 0 sweeps: under profile 2's gap of 14.
abbrev handed-over : List LentAsk
handed-over =
    Change 1 (Delete 1) 0 zeros (beside 7 39) (forecast_of (cell 0 0 7 ∷ []))
    ∷ (rising 2 13 32 (up_from 200 3) ++ falling 2 13 35 (up_from 2 6 ++ up_from 101 2))

abbrev since : List Event
since = replicate 3 (grows 1 none) ++ replicate 7 (shrinks 0 none)

pub afresh : SweptAgain (lent_events handed-over (render 0 (pair 7 39).segments)) 0 0 (shrinks 0 (some 1)) since (shrinks 0 (some 1))
    × (deletes 0 0 (counting (shrinks 0 (some 1)) since (shrinks 0 (some 1))) ≡ 8)
unfolding without padded predecessor segment_of weight raised tailed noted dropped retargeted left_share plan share_out sweep chosen settled insert_level insert_key delete_level delete_key outcome request check then_forecast then_table check_cards table_of order_of height_of segments_of cells forecast_of fault_at fault_of render
afresh = (record { history = refl; earlier = tt; since = tt; half = tt; again = tt }, refl)
