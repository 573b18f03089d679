-- Two readings of the totals round any outcome that a run's promise admits differ by the run's own numbers.
use Rattle.std.proofs.Common.{◌≡◌, ℕ, ◌≢◌, List, sym, ap, ◌∙◌, arith}
use native.Mathlib.Decide.{dec_lt}
use Rattle.forecast.specs.declared.Forecast.{Forecast}
use Rattle.rules.specs.declared.Totals.{Totals}
use Rattle.rules.specs.Lent.{Lent, cards_of}
use Rattle.rules.specs.Checks.{check}
use Rattle.rules.specs.Calls.{Worked, stopped_at_once, worked, run}
use Rattle.demands.proofs.Running.Runs.{run_refused, run-checked}
use Rattle.run.specs.declared.Run.{Run}
use Rattle.run.specs.Sums.{since}
use Rattle.run.specs.Admits.{RunAdmits}
use Rattle.steps.specs.Works.{whole}
use Rattle.run.specs.Differences.{Differs, RunDiffers}
use Rattle.run.proofs.Readings.{cut_tally, since-added, since-same}

module _ (profile : ℕ) (L : Lent) (F : Forecast) (bytes : List ℕ) (allowance : ℕ) (T : Totals) (r : Run) (left : Lent)
    (a : RunAdmits profile L F bytes allowance T r left) where
  -- by what the run of the rules comes to, and what that adds to the totals
  differs : (W : Worked) → run profile L F bytes allowance T ≡ W → since W.totals T ≡ cut_tally W.reply.tally → Differs r (since r.totals T)
  differs W w e =
      let d : since r.totals T ≡ cut_tally r.reply.tally =
      ap (λ (z : Totals). since z T) (a.totals ∙ ap (λ (z : Worked). z.totals) w) ∙ e ∙ sym (ap cut_tally (a.tally ∙ ap (λ (z : Worked). z.reply.tally) w)) in
      record {
        worked = ap (λ (z : Totals). z.worked) d;
        refused = ap (λ (z : Totals). z.refused) d;
        moved = ap (λ (z : Totals). z.moved) d;
        sweeps = ap (λ (z : Totals). z.sweeps) d;
      }

pub run-differs : RunDiffers
run-differs profile L F bytes allowance T r left h a =
    elim (dec_lt 0 (check profile L F)) [
      | yes p ↦
          let n : check profile L F ≢ 0 = omega arith in
          differs profile L F bytes allowance T r left a (stopped_at_once L F T (check profile L F)) (run_refused profile L F bytes allowance T n) (since-same T h)
      | no p ↦
          let c : check profile L F ≡ 0 = omega arith in
          differs profile L F bytes allowance T r left a (worked T (whole profile L.slots (cards_of L) F bytes allowance)) (run-checked profile L F bytes allowance T c)
          (since-added T (whole profile L.slots (cards_of L) F bytes allowance).tally h)
    ]
