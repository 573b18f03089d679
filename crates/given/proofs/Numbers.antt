-- Each number is given to a C program exactly when its row applies and none before it does.
use Prim.Native.Nat.{ℕ, ◌<◌}
use mathlib.Core.Path.{refl, ap}
use mathlib.Core.Bool.{Bool, true, false, not, ◌||◌}
use mathlib.Core.Logic.{◌⊎◌, inl, inr, ◌≢◌}
use mathlib.Core.List.{List, ◌∷◌}
use native.Mathlib.Omega.{arith}
use lib.Dec.{eqb, ltb, eqb→eq, ltb→lt, nltb→le}
use lib.ListN.{length}
use Rattle.lists.proofs.Tests.{double-not, neqb→ne}
use Rattle.rules.specs.Checks as checks
use Rattle.rules.specs.Lent.{Lent, lend}
use Rattle.rules.specs.Calls as rules
use Rattle.demands.specs.Rows.{Row, Tells, make_rows, read_rows, both_rows, lookup_rows, insert_rows, delete_rows, stop_rows, run_rows}
use Rattle.demands.proofs.Refusals.RowsInOrder.{Decides, tells-if, tells-after}
use Rattle.demands.proofs.Refusals.Numbers as below
use Rattle.demands.proofs.Running.Runs.{run_refused}
use Rattle.demands.proofs.Running.Singly as singly
use Rattle.words.specs.Words.{forecast_in}
use Rattle.words.specs.Totals.{totals_in}
use Rattle.given.specs.Calls.{Given, sized, not_forecast, not_totals, short, make, check, lookup, insert, delete, scan, run}
use Rattle.given.specs.Refused.{row100, NotForecast, MakeTells, CheckTells, LookupTells, ScanTells, InsertTells, DeleteTells, RunTells}
use Rattle.forecast.specs.Tidy.{Roomy}
use Rattle.words.proofs.WordLaws.{forecast_in-roomy}

-- THE TESTS OF SIZES
unequal : (m n : ℕ) → Decides (not (eqb m n)) (row100 (m ≢ n))
unequal m n = (neqb→ne m n, λ t w. w (eqb→eq m n (double-not (eqb m n) t)))

shorter : (m n : ℕ) → Decides (ltb m n) (row100 (m < n))
shorter m n = (ltb→lt m n, λ t w. omega (arith, nltb→le m n t))

-- one size or the other
either-size : (a b : Bool) (A B : Type 0) → Decides a (row100 A) → Decides b (row100 B) → Decides (a || b) (row100 (A ⊎ B))
either-size true b A B d e = (λ t. inl (d.0 tt), λ t w. t)
either-size false b A B d e = (λ t. inr (e.0 t), λ t w. elim w [ inl x ↦ d.1 tt x | inr y ↦ e.1 t y ])

-- THE CALLS
pub roomy : (ws : List ℕ) → Roomy (forecast_in ws)
roomy ws = forecast_in-roomy ws

-- 100 comes before what the call below tells
sized-tells : (wrong : Bool) (W : Type 0) (rs : List Row) (lent : List (List ℕ)) (o : Given) → Decides wrong (row100 W) → Tells rs o.number
    → Tells (row100 W ∷ rs) (sized wrong lent o).number
sized-tells wrong W rs lent o d t = tells-if (λ (x : Given). x.number) wrong (row100 W) rs (record { number = 100; left = lent }) o refl d (λ _. t)

pub make_tells : MakeTells
unfolding make
make_tells profile list cards table forecast =
    sized-tells (not_forecast forecast) (NotForecast forecast) (make_rows profile (lend list cards table)) _ _ (unequal (length forecast) 37)
    (below.make_tells profile (lend list cards table))

pub check_tells : CheckTells
unfolding check
check_tells profile list cards table forecast =
    sized-tells (not_forecast forecast) (NotForecast forecast) (both_rows profile (lend list cards table) (forecast_in forecast)) _ _ (unequal (length forecast) 37)
    (below.check_tells profile (lend list cards table) (forecast_in forecast) (roomy forecast))

pub lookup_tells : LookupTells
unfolding lookup
lookup_tells profile list cards table key reply =
    sized-tells (short reply 3) (length reply < 3) (lookup_rows profile (lend list cards table) key) _ _ (shorter (length reply) 3) (below.lookup_tells profile (lend list cards table) key)

pub scan_tells : ScanTells
unfolding scan
scan_tells profile list cards table from output output-cards reply =
    sized-tells (short reply 2) (length reply < 2) (read_rows profile (lend list cards table)) _ _ (shorter (length reply) 2) (below.scan_tells profile (lend list cards table) from output output-cards)

-- a forecast and a reply of n words
both : (forecast reply : List ℕ) (n : ℕ) → Decides (not_forecast forecast || short reply n) (row100 (NotForecast forecast ⊎ (length reply < n)))
both forecast reply n = either-size (not_forecast forecast) (short reply n) _ _ (unequal (length forecast) 37) (shorter (length reply) n)

pub insert_tells : InsertTells
unfolding insert
insert_tells profile list cards table forecast key card reply =
    sized-tells (not_forecast forecast || short reply 1) (NotForecast forecast ⊎ (length reply < 1)) (insert_rows profile (lend list cards table) (forecast_in forecast) key) _ _
    (both forecast reply 1) (below.insert_tells profile (lend list cards table) (forecast_in forecast) key card (roomy forecast))

pub delete_tells : DeleteTells
unfolding delete
delete_tells profile list cards table forecast key reply =
    sized-tells (not_forecast forecast || short reply 2) (NotForecast forecast ⊎ (length reply < 2)) (delete_rows profile (lend list cards table) (forecast_in forecast) key) _ _
    (both forecast reply 2) (below.delete_tells profile (lend list cards table) (forecast_in forecast) key (roomy forecast))

-- A RUN
module _ (profile : ℕ) (L : Lent) (forecast requests : List ℕ) (allowance : ℕ) (totals reply : List ℕ) where
  abbrev W : rules.Worked
  W = rules.run profile L (forecast_in forecast) requests allowance (totals_in totals)

  abbrev pub all_rows : List Row
  all_rows = run_rows profile L (forecast_in forecast) requests allowance W

  pub below-tells : Tells all_rows W.reply.stop
  below-tells =
      tells-after (both_rows profile L (forecast_in forecast)) (stop_rows profile requests allowance W) (checks.check profile L (forecast_in forecast)) W.reply.stop (omega arith)
      (below.check_tells profile L (forecast_in forecast) (roomy forecast))
      (λ n. ap (λ (w : rules.Worked). w.reply.stop) (run_refused profile L (forecast_in forecast) requests allowance (totals_in totals) n)) λ z.
      (singly.run_tells profile L (forecast_in forecast) requests allowance (totals_in totals) z).0

  sizes : Decides (not_forecast forecast || (not_totals totals || short reply 4)) (row100 (NotForecast forecast ⊎ ((length totals ≢ 4) ⊎ (length reply < 4))))
  sizes =
      either-size (not_forecast forecast) (not_totals totals || short reply 4) _ _ (unequal (length forecast) 37)
      (either-size (not_totals totals) (short reply 4) _ _ (unequal (length totals) 4) (shorter (length reply) 4))

pub run_tells : RunTells
unfolding run
run_tells profile list cards table forecast requests allowance totals reply =
    sized-tells (not_forecast forecast || (not_totals totals || short reply 4)) (NotForecast forecast ⊎ ((length totals ≢ 4) ⊎ (length reply < 4)))
    (all_rows profile (lend list cards table) forecast requests allowance totals reply) _ _ (sizes profile (lend list cards table) forecast requests allowance totals reply)
    (below-tells profile (lend list cards table) forecast requests allowance totals reply)
