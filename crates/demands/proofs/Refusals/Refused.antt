-- What a refused single call leaves: all as it was, and an answer with its number alone.
use mathlib.Core.Path.{◌≡◌, refl}
use mathlib.Core.Bool.{Bool, true, false, not}
use mathlib.Core.Logic.{◌≢◌}
use mathlib.Core.List.{[]}
use lib.Dec.{T, eqb, eqb→eq}
use lib.ListN.{length, replicate}
use Rattle.std.proofs.Common.{if◌then◌else◌}
use Rattle.slots.specs.Segments.{height_of, segments_of, keys}
use Rattle.slots.specs.Keys.{member, segment_of}
use Rattle.levels.specs.Tables.{table_size}
use Rattle.forecast.specs.Cells.{forecast_of}
use Rattle.rules.specs.Profiles.{is_profile}
use Rattle.rules.specs.Placing.{Outcome, outcome}
use Rattle.rules.specs.Looking.{Found, not_found, looked_up, Scanned, scanned}
use Rattle.rules.specs.Cards.{carded}
use Rattle.rules.specs.Lent.{lend, cards_of}
use Rattle.rules.specs.Checks.{shares_of, check_read, check}
use Rattle.rules.specs.Calls.{room_of, Made, not_made, make, lookup, scan, Called, unchanged, changed, request}
use Rattle.demands.specs.Demand1.{RequestRefused, LookupRefused, ScanRefused, MakeRefused}

-- an insert or delete
pub request_refused : RequestRefused
unfolding request
request_refused profile q v L F = go (eqb (check profile L F) 0) (eqb o.answer.number 0) (eqb→eq _ 0)
  where
    o : Outcome
    o = outcome (shares_of profile L.slots) q (room_of L.slots F)

    r : Bool → Bool → Called
    r a b = if not a then unchanged L F (check profile L F) else if not b then unchanged L F o.answer.number else changed (carded q v (cards_of L)) o

    go : (a b : Bool) → (T b → o.answer.number ≡ 0) → (r a b).answer.number ≢ 0 → r a b ≡ unchanged L F (r a b).answer.number
    go false b e n = refl
    go true false e n = refl
    go true true e n = absurd (n (e tt))

-- a lookup
pub lookup_refused : LookupRefused
unfolding lookup looked_up
lookup_refused profile L y = go (eqb (check_read profile L) 0) (eqb y 0) (member y (keys (segments_of L.slots)))
  where
    r : Bool → Bool → Bool → Found
    r a b c =
        if not a then not_found (check_read profile L)
        else if b then not_found 5
        else if c then record { number = 0; present = true; segment = segment_of (segments_of L.slots) y; card = cards_of L y }
        else not_found 0

    go : (a b c : Bool) → (r a b c).number ≢ 0 → r a b c ≡ not_found (r a b c).number
    go false b c n = refl
    go true true c n = refl
    go true false true n = absurd (n refl)
    go true false false n = absurd (n refl)

-- a scan
pub scan_refused : ScanRefused
unfolding scan scanned
scan_refused profile L a out cards = go (eqb (check_read profile L) 0)
  where
    none : Scanned
    none = record { number = check_read profile L; written = 0; more = false; output = out; cards = cards }

    r : Bool → Scanned
    r c = if not c then none else scanned a (cards_of L) (segments_of L.slots) out cards

    go : (c : Bool) → (r c).number ≢ 0 → r c ≡ record { number = (r c).number; written = 0; more = false; output = out; cards = cards }
    go false n = refl
    go true n = absurd (n refl)

-- making empty
pub make_refused : MakeRefused
unfolding make
make_refused profile L =
    go (is_profile profile) (eqb (height_of (length L.slots)) 0) (eqb (length L.cards) (length L.slots)) (eqb (length L.table) (table_size (height_of (length L.slots))))
  where
    r : Bool → Bool → Bool → Bool → Made
    r n c v t =
        if not n then not_made L 15
        else if c then not_made L 1
        else if not v then not_made L 12
        else if not t then not_made L 14
        else record {
          lent = lend (replicate (length L.slots) 0) (replicate (length L.cards) 0) (replicate (length L.table) 0);
          forecast = forecast_of [];
          number = 0;
        }

    go : (n c v t : Bool) → (r n c v t).number ≢ 0 → r n c v t ≡ not_made L (r n c v t).number
    go false c v t e = refl
    go true true v t e = refl
    go true false false t e = refl
    go true false true false e = refl
    go true false true true e = absurd (e refl)
