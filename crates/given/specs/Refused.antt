-- When each number is given to a C program, and what a refused call leaves, as statements.
use Rattle.std.specs.Prelude.{ℕ, ◌<◌, ◌≡◌, ◌⊎◌, ◌≢◌, List, [], ◌∷◌, length, replicate}
use Rattle.rules.specs.Lent.{lend}
use Rattle.rules.specs.Calls as rules
use Rattle.demands.specs.Rows.{Row, Tells, make_rows, read_rows, both_rows, lookup_rows, insert_rows, delete_rows, run_rows}
use Rattle.words.specs.Words.{forecast_in}
use Rattle.words.specs.Totals.{totals_in}
use Rattle.given.specs.Calls.{Given, over, make, check, lookup, insert, delete, scan, run}

-- EACH NUMBER IS GIVEN EXACTLY WHEN ITS ROW APPLIES AND NONE BEFORE IT DOES; 100 is the first.
abbrev pub row100 : Type 0 → Row
row100 wrong = record { no = 100; when = wrong }

abbrev pub NotForecast : List ℕ → Type 0
NotForecast ws = length ws ≢ 37

abbrev pub MakeTells : Type 0
MakeTells = (profile : ℕ) (list cards table forecast : List ℕ)
    → Tells (row100 (NotForecast forecast) ∷ make_rows profile (lend list cards table)) (make profile list cards table forecast).number

abbrev pub CheckTells : Type 0
CheckTells = (profile : ℕ) (list cards table forecast : List ℕ)
    → Tells (row100 (NotForecast forecast) ∷ both_rows profile (lend list cards table) (forecast_in forecast)) (check profile list cards table forecast).number

abbrev pub LookupTells : Type 0
LookupTells = (profile : ℕ) (list cards table : List ℕ) (key : ℕ) (reply : List ℕ)
    → Tells (row100 (length reply < 3) ∷ lookup_rows profile (lend list cards table) key) (lookup profile list cards table key reply).number

abbrev pub ScanTells : Type 0
ScanTells = (profile : ℕ) (list cards table : List ℕ) (from : ℕ) (output output-cards reply : List ℕ)
    → Tells (row100 (length reply < 2) ∷ read_rows profile (lend list cards table)) (scan profile list cards table from output output-cards reply).number

abbrev pub InsertTells : Type 0
InsertTells = (profile : ℕ) (list cards table forecast : List ℕ) (key card : ℕ) (reply : List ℕ)
    → Tells (row100 (NotForecast forecast ⊎ (length reply < 1)) ∷ insert_rows profile (lend list cards table) (forecast_in forecast) key) (insert profile list cards table forecast key card reply).number

abbrev pub DeleteTells : Type 0
DeleteTells = (profile : ℕ) (list cards table forecast : List ℕ) (key : ℕ) (reply : List ℕ)
    → Tells (row100 (NotForecast forecast ⊎ (length reply < 2)) ∷ delete_rows profile (lend list cards table) (forecast_in forecast) key) (delete profile list cards table forecast key reply).number

-- 9 and 10 speak of the place where the run stopped.
abbrev pub RunTells : Type 0
RunTells = (profile : ℕ) (list cards table forecast requests : List ℕ) (allowance : ℕ) (totals reply : List ℕ)
    → Tells
    (row100 (NotForecast forecast ⊎ ((length totals ≢ 4) ⊎ (length reply < 4)))
    ∷ run_rows profile (lend list cards table) (forecast_in forecast) requests allowance (rules.run profile (lend list cards table) (forecast_in forecast) requests allowance (totals_in totals)))
    (run profile list cards table forecast requests allowance totals reply).number

-- WHAT A REFUSAL LEAVES: by 100 all that was lent; by every other number but 0, 9 and 10 that too, but the listed words of the reply,
-- which are 0.
pub record Leaves (o : Given) (lent zeroed : List (List ℕ)) : Type 0 where
  pub misfit : o.number ≡ 100 → o.left ≡ lent
  pub refused : o.number ≢ 0 → o.number ≢ 9 → o.number ≢ 10 → o.number ≢ 100 → o.left ≡ zeroed

-- A make that is refused gives an empty forecast too.
abbrev pub MakeLeaves : Type 0
MakeLeaves = (profile : ℕ) (list cards table forecast : List ℕ) → Leaves (make profile list cards table forecast) (list ∷ cards ∷ table ∷ forecast ∷ []) (list ∷ cards ∷ table ∷ replicate 37 0 ∷ [])

abbrev pub LookupLeaves : Type 0
LookupLeaves = (profile : ℕ) (list cards table : List ℕ) (key : ℕ) (reply : List ℕ) → Leaves (lookup profile list cards table key reply) (reply ∷ []) (over (0 ∷ 0 ∷ 0 ∷ []) reply ∷ [])

abbrev pub ScanLeaves : Type 0
ScanLeaves = (profile : ℕ) (list cards table : List ℕ) (from : ℕ) (output output-cards reply : List ℕ)
    → Leaves (scan profile list cards table from output output-cards reply) (output ∷ output-cards ∷ reply ∷ []) (output ∷ output-cards ∷ over (0 ∷ 0 ∷ []) reply ∷ [])

abbrev pub InsertLeaves : Type 0
InsertLeaves = (profile : ℕ) (list cards table forecast : List ℕ) (key card : ℕ) (reply : List ℕ)
    → Leaves (insert profile list cards table forecast key card reply) (list ∷ cards ∷ table ∷ forecast ∷ reply ∷ []) (list ∷ cards ∷ table ∷ forecast ∷ over (0 ∷ []) reply ∷ [])

abbrev pub DeleteLeaves : Type 0
DeleteLeaves = (profile : ℕ) (list cards table forecast : List ℕ) (key : ℕ) (reply : List ℕ)
    → Leaves (delete profile list cards table forecast key reply) (list ∷ cards ∷ table ∷ forecast ∷ reply ∷ []) (list ∷ cards ∷ table ∷ forecast ∷ over (0 ∷ 0 ∷ []) reply ∷ [])

abbrev pub RunLeaves : Type 0
RunLeaves = (profile : ℕ) (list cards table forecast requests : List ℕ) (allowance : ℕ) (totals reply : List ℕ)
    → Leaves (run profile list cards table forecast requests allowance totals reply) (list ∷ cards ∷ table ∷ forecast ∷ totals ∷ reply ∷ [])
    (list ∷ cards ∷ table ∷ forecast ∷ totals ∷ over (0 ∷ 0 ∷ 0 ∷ 0 ∷ []) reply ∷ [])
