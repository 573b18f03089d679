-- Demand 1. Every call checks what it is lent. A refused request gives its number and zero moves and changes neither list, cards, table,
-- forecast nor outputs; a run that stops keeps exactly the requests worked before the stop.
use Rattle.std.specs.Prelude.{ℕ, ◌+◌, ◌-◌, ◌≤◌, ◌≡◌, false, ◌≢◌, ◌↔◌, List, [], ◌∷◌, ◌++◌, map, ltb, length, take}
use Rattle.lists.specs.Lists.{All, total}
use Rattle.forecast.specs.declared.Forecast.{Forecast}
use Rattle.forecast.specs.Tidy.{Roomy}
use Rattle.rules.specs.declared.Request.{Request}
use Rattle.rules.specs.declared.Request.TheVariants.{Bad}
use Rattle.rules.specs.declared.Totals.{Totals}
use Rattle.rules.specs.Placing.{outcome}
use Rattle.rules.specs.Looking.{not_found}
use Rattle.rules.specs.declared.Tally.{Tally}
use Rattle.rules.specs.declared.Record.{Record}
use Rattle.rules.specs.Runs.{one, records_of, added}
use Rattle.rules.specs.Checks.{shares_of, check}
use Rattle.rules.specs.Lent.{Lent}
use Rattle.rules.specs.Calls.{room_of, make, not_made, lookup, scan, Called, request, insert, delete, unchanged, Worked, stopped_at_once, run}
use Rattle.demands.specs.Rows.{Tells, NoneOf, make_rows, read_rows, both_rows, lookup_rows, insert_rows, delete_rows, stop_rows}

-- EACH NUMBER IS GIVEN EXACTLY WHEN ITS ROW APPLIES AND NONE BEFORE IT DOES
abbrev pub MakeTells : Type 0
MakeTells = (profile : ℕ) (L : Lent) → Tells (make_rows profile L) (make profile L).number

abbrev pub CheckTells : Type 0
CheckTells = (profile : ℕ) (L : Lent) (F : Forecast) → Roomy F → Tells (both_rows profile L F) (check profile L F)

-- Check gives 0 exactly when none of 15, 1, 12, 2, 13, 3, 4 and 14 applies.
abbrev pub CheckPasses : Type 0
CheckPasses = (profile : ℕ) (L : Lent) (F : Forecast) → Roomy F → (check profile L F ≡ 0) ↔ NoneOf (both_rows profile L F)

abbrev pub LookupTells : Type 0
LookupTells = (profile : ℕ) (L : Lent) (y : ℕ) → Tells (lookup_rows profile L y) (lookup profile L y).number

abbrev pub ScanTells : Type 0
ScanTells = (profile : ℕ) (L : Lent) (a : ℕ) (out cards : List ℕ) → Tells (read_rows profile L) (scan profile L a out cards).number

abbrev pub InsertTells : Type 0
InsertTells = (profile : ℕ) (L : Lent) (F : Forecast) (y v : ℕ) → Roomy F → Tells (insert_rows profile L F y) (insert profile L F y v).answer.number

abbrev pub DeleteTells : Type 0
DeleteTells = (profile : ℕ) (L : Lent) (F : Forecast) (y : ℕ) → Roomy F → Tells (delete_rows profile L F y) (delete profile L F y).answer.number

-- A run is refused by 15, 1 to 4 and 12 to 14 as check tells. Else it stops at its place by 9 or 10, or at the end of the bytes.
abbrev pub RunTells : Type 0
RunTells = (profile : ℕ) (L : Lent) (F : Forecast) (bytes : List ℕ) (allowance : ℕ) (T : Totals) → check profile L F ≡ 0
    → Tells (stop_rows profile bytes allowance (run profile L F bytes allowance T)) (run profile L F bytes allowance T).reply.stop
    × ((run profile L F bytes allowance T).reply.stop ≡ 0 → (run profile L F bytes allowance T).reply.tally.place ≡ length bytes)
    × ((run profile L F bytes allowance T).reply.tally.moves ≤ allowance)

-- WHAT A REFUSAL LEAVES
abbrev pub RequestRefused : Type 0
RequestRefused = (profile : ℕ) (q : Request) (v : ℕ) (L : Lent) (F : Forecast) → (request profile q v L F).answer.number ≢ 0
    → request profile q v L F ≡ unchanged L F (request profile q v L F).answer.number

abbrev pub LookupRefused : Type 0
LookupRefused = (profile : ℕ) (L : Lent) (y : ℕ) → (lookup profile L y).number ≢ 0 → lookup profile L y ≡ not_found (lookup profile L y).number

abbrev pub ScanRefused : Type 0
ScanRefused = (profile : ℕ) (L : Lent) (a : ℕ) (out cards : List ℕ) → (scan profile L a out cards).number ≢ 0
    → scan profile L a out cards ≡ record { number = (scan profile L a out cards).number; written = 0; more = false; output = out; cards = cards }

abbrev pub MakeRefused : Type 0
MakeRefused = (profile : ℕ) (L : Lent) → (make profile L).number ≢ 0 → make profile L ≡ not_made L (make profile L).number

abbrev pub RunRefused : Type 0
RunRefused = (profile : ℕ) (L : Lent) (F : Forecast) (bytes : List ℕ) (allowance : ℕ) (T : Totals) → check profile L F ≢ 0
    → run profile L F bytes allowance T ≡ stopped_at_once L F T (check profile L F)

-- A RUN THAT STOPS at place p leaves all as the run over the first p bytes, which ends with 0.
pub record SameBut (W U : Worked) : Type 0 where
  pub stop : U.reply.stop ≡ 0
  pub lent : U.lent ≡ W.lent
  pub forecast : U.forecast ≡ W.forecast
  pub totals : U.totals ≡ W.totals
  pub tally : U.reply.tally ≡ W.reply.tally

abbrev pub RunStops : Type 0
RunStops = (profile : ℕ) (L : Lent) (F : Forecast) (bytes : List ℕ) (allowance : ℕ) (T : Totals) → check profile L F ≡ 0
    → SameBut (run profile L F bytes allowance T) (run profile L F (take (run profile L F bytes allowance T).reply.tally.place bytes) allowance T)

-- A RUN IS ITS SINGLE REQUESTS, one after the other.
pub record Series : Type 0 where
  pub lent : Lent
  pub forecast : Forecast
  pub refused : ℕ
  pub moves : ℕ
  pub sweeps : ℕ

abbrev pub next : ℕ → Record → Series → Series
next profile r s =
    let c : Called = request profile r.request r.card s.lent s.forecast in
    record {
      lent = c.lent;
      forecast = c.forecast;
      refused = s.refused + one (ltb 0 c.answer.number);
      moves = s.moves + c.answer.moves;
      sweeps = s.sweeps + one (outcome (shares_of profile s.lent.slots) r.request (room_of s.lent.slots s.forecast)).swept;
    }

abbrev pub singly : ℕ → List Record → Series → Series
singly profile [] s = s
singly profile (r ∷ rs) s = singly profile rs (next profile r s)

abbrev pub begin : Lent → Forecast → Series
begin L F = record { lent = L; forecast = F; refused = 0; moves = 0; sweeps = 0 }

-- What the records come to, counted as a run counts; the place is the bytes of them all.
abbrev pub counted : List Record → Series → Tally
counted rs s = record { worked = length rs; refused = s.refused; moves = s.moves; sweeps = s.sweeps; place = total (map (λ r. r.size) rs) }

pub record Equals (T : Totals) (rs : List Record) (s : Series) (W : Worked) : Type 0 where
  pub good : All (λ r. r.request ≢ Bad) rs
  pub lent : W.lent ≡ s.lent
  pub forecast : W.forecast ≡ s.forecast
  pub tally : W.reply.tally ≡ counted rs s
  pub totals : W.totals ≡ added T (counted rs s)

abbrev pub RunIsSingly : Type 0
RunIsSingly = (profile : ℕ) (L : Lent) (F : Forecast) (bytes : List ℕ) (allowance : ℕ) (T : Totals) → Roomy F → check profile L F ≡ 0
    → (rs : List Record) → rs ≡ take (run profile L F bytes allowance T).reply.tally.worked (records_of bytes)
    → Equals T rs (singly profile rs (begin L F)) (run profile L F bytes allowance T)

-- VALID STAYS VALID
abbrev pub RequestKeeps : Type 0
RequestKeeps = (profile : ℕ) (q : Request) (v : ℕ) (L : Lent) (F : Forecast) → check profile L F ≡ 0
    → (check profile (request profile q v L F).lent (request profile q v L F).forecast ≡ 0) × (length (request profile q v L F).lent.slots ≡ length L.slots)

abbrev pub RunKeeps : Type 0
RunKeeps = (profile : ℕ) (L : Lent) (F : Forecast) (bytes : List ℕ) (allowance : ℕ) (T : Totals) → check profile L F ≡ 0
    → check profile (run profile L F bytes allowance T).lent (run profile L F bytes allowance T).forecast ≡ 0

-- A RUN IN TWO. Where the first bytes are worked to their end, a run over all the bytes is the run over the first, then the run over the
-- rest from what that leaves, with the allowance that is left; the counts and places add up.
abbrev pub in_two : Worked → Worked → Worked
in_two W U = record {
  lent = U.lent;
  forecast = U.forecast;
  totals = U.totals;
  reply = record {
    tally = record {
      worked = W.reply.tally.worked + U.reply.tally.worked;
      refused = W.reply.tally.refused + U.reply.tally.refused;
      moves = W.reply.tally.moves + U.reply.tally.moves;
      sweeps = W.reply.tally.sweeps + U.reply.tally.sweeps;
      place = W.reply.tally.place + U.reply.tally.place;
    };
    stop = U.reply.stop;
  };
}

abbrev pub RunInTwo : Type 0
RunInTwo = (profile : ℕ) (L : Lent) (F : Forecast) (first rest : List ℕ) (allowance : ℕ) (T : Totals) → (run profile L F first allowance T).reply.stop ≡ 0
    → let W : Worked = run profile L F first allowance T in
    run profile L F (first ++ rest) allowance T ≡ in_two W (run profile W.lent W.forecast rest (allowance - W.reply.tally.moves) W.totals)
