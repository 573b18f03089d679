-- Document 01, "Refusal numbers", 1 to 4, and document 02's: 15, which comes first, 12 after 1, 13 after 2, and 14, which comes last: what a
-- check tests, in order.
use Rattle.std.specs.Prelude.{ℕ, not, List, ltb, eqb, length, if◌then◌else◌}
use Rattle.slots.specs.Segments.{live, height_of, segments_of}
use Rattle.slots.specs.Orders.{order_of, is_kept}
use Rattle.levels.specs.Tables.{same}
use Rattle.forecast.specs.declared.Forecast.{Forecast}
use Rattle.forecast.specs.Faults.{fault_of, is_sound}
use Rattle.rules.specs.Profiles.{is_profile, profile_of}
use Rattle.rules.specs.Shares.{Shares, shares, capacity, cells_of}
use Rattle.rules.specs.Cards.{gap_card}
use Rattle.rules.specs.Lent.{Lent, right_table}

-- The shares of a list of slots, in the profile of this number.
abbrev pub shares_of : ℕ → List ℕ → Shares
shares_of profile slots = shares (profile_of profile) (height_of (length slots))

-- 15, then 1 to 3 on the list, with 12 and 13 on its cards; 0 when none applies.
unfoldable pub check_cards : ℕ → Lent → ℕ
check_cards profile L =
    if not (is_profile profile) then 15
    else if eqb (height_of (length L.slots)) 0 then 1
    else if not (eqb (length L.cards) (length L.slots)) then 12
    else if not (is_kept (order_of L.slots)) then 2
    else if gap_card L.slots L.cards then 13
    else if ltb (capacity (shares_of profile L.slots)) (length (live L.slots)) then 3
    else 0

-- Then 4, on list and forecast. n is the number by the tests before it.
unfoldable pub then_forecast : ℕ → ℕ → List ℕ → Forecast → ℕ
then_forecast n profile slots F =
    if not (eqb n 0) then n
    else if not (is_sound (fault_of (cells_of (shares_of profile slots)) (segments_of slots) F)) then 4
    else 0

-- 14 comes last: a table of the wrong length or with a wrong entry.
unfoldable pub then_table : ℕ → Lent → ℕ
then_table n L = if not (eqb n 0) then n else if not (same L.table (right_table L.slots)) then 14 else 0

-- Lookup and scan take no forecast: they test 15, 1, 12, 2, 13, 3 and 14.
unfoldable pub check_read : ℕ → Lent → ℕ
check_read profile L = then_table (check_cards profile L) L

-- Check takes the profile's number, list, cards, table and forecast, tests 15, 1, 12, 2, 13, 3, 4 and 14, gives 0 when none applies and
-- changes nothing.
unfoldable pub check : ℕ → Lent → Forecast → ℕ
check profile L F = then_table (then_forecast (check_cards profile L) profile L.slots F) L

-- WITHOUT CARDS AND TABLE: 15 and 1 to 3 on slots alone, and with 4 on slots and forecast. The rules work on slots that pass these.
unfoldable pub check_list : ℕ → List ℕ → ℕ
check_list profile slots =
    if not (is_profile profile) then 15
    else if eqb (height_of (length slots)) 0 then 1
    else if not (is_kept (order_of slots)) then 2
    else if ltb (capacity (shares_of profile slots)) (length (live slots)) then 3
    else 0

unfoldable pub check_both : ℕ → List ℕ → Forecast → ℕ
check_both profile slots F = then_forecast (check_list profile slots) profile slots F
