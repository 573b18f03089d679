-- A run's reply is the rules': where the check refuses, and where the records have ended.
use Rattle.std.proofs.Common.{◌≡◌, ℕ, ◌≢◌, List, length, sym, ap, ◌∙◌, arith}
use native.Mathlib.Decide.{dec_lt}
use Rattle.slots.specs.Segments.{height_of, render}
use Rattle.forecast.specs.declared.Forecast.{Forecast}
use Rattle.rules.specs.declared.Totals.{Totals}
use Rattle.rules.specs.Cards.{cards_beside}
use Rattle.rules.specs.Lent.{Lent, cards_of, right_table, laid}
use Rattle.rules.specs.Checks.{check}
use Rattle.rules.specs.Calls.{Worked, stopped_at_once, worked, run}
use Rattle.rules.specs.Runs.{added}
use Rattle.demands.proofs.Requests.Checked.{checked, checked-known, table-render}
use Rattle.demands.proofs.Requests.Tabled.{room-passes}
use Rattle.demands.proofs.Running.Runs.{run_refused, run-checked}
use Rattle.demands.proofs.Running.Singly.{good-ran}
use Rattle.steps.specs.declared.Worked as steps
use Rattle.steps.specs.Works.{whole, Ends}
use Rattle.opening.specs.Opens.{Refuses, Opens}
use Rattle.run.specs.declared.Run.{Run}
use Rattle.run.specs.Admits.{RunAdmits}
use Rattle.run.specs.Differences.{Reading}
use Rattle.run.proofs.Readings.{added-nothing}

-- what was worked, with its tally added to the totals
abbrev run_of : Totals → steps.Worked → Run
run_of T r = record { reply = record { forecast = r.forecast; tally = r.tally; stop = r.stop }; totals = added T r.tally }

module _ (profile : ℕ) (L : Lent) (F : Forecast) (bytes : List ℕ) (allowance : ℕ) (T : Totals) (r : steps.Worked) (left : Lent) where
  -- the slots that are left, with the card of each key, and the table, which is right for them
  lent-ended : check profile L F ≡ 0 → Ends profile L.slots (cards_of L) F bytes allowance r left
      → left ≡ laid (whole profile L.slots (cards_of L) F bytes allowance).cards (render 0 (whole profile L.slots (cards_of L) F bytes allowance).room.segments)
  lent-ended c e =
      let b = room-passes profile L F c in
      let h = checked profile L.slots F b in
      let right : left.table ≡ right_table (render 0 (whole profile L.slots (cards_of L) F bytes allowance).room.segments) =
      e.table_left
      ∙ sym (table-render profile (checked-known profile L.slots F b) (height_of (length L.slots)) h.0 h.1 (whole profile L.slots (cards_of L) F bytes allowance).room (good-ran profile L F bytes allowance T c)) in
      let beside : left.cards ≡ cards_beside (whole profile L.slots (cards_of L) F bytes allowance).cards (render 0 (whole profile L.slots (cards_of L) F bytes allowance).room.segments) =
      e.cards_left ∙ ap (cards_beside (whole profile L.slots (cards_of L) F bytes allowance).cards) e.slots_left in
      λ i. record { slots = e.slots_left i; cards = beside i; table = right i }

  -- refused by its check: nothing is added
  run-stopped : Reading T → check profile L F ≢ 0 → Refuses profile L F r left → RunAdmits profile L F bytes allowance T (run_of T r) left
  run-stopped h n e =
      let w : run profile L F bytes allowance T ≡ stopped_at_once L F T (check profile L F) = run_refused profile L F bytes allowance T n in
      record {
        tally = e.tally ∙ sym (ap (λ (z : Worked). z.reply.tally) w);
        stop = e.stop ∙ sym (ap (λ (z : Worked). z.reply.stop) w);
        forecast = e.forecast ∙ sym (ap (λ (z : Worked). z.forecast) w);
        totals = ap (added T) e.tally ∙ added-nothing T h ∙ sym (ap (λ (z : Worked). z.totals) w);
        lent_left = e.lent_left ∙ sym (ap (λ (z : Worked). z.lent) w);
      }

  -- or it works the records
  run-ended : check profile L F ≡ 0 → Ends profile L.slots (cards_of L) F bytes allowance r left → RunAdmits profile L F bytes allowance T (run_of T r) left
  run-ended c e =
      let w : run profile L F bytes allowance T ≡ worked T (whole profile L.slots (cards_of L) F bytes allowance) = run-checked profile L F bytes allowance T c in
      let ended : left ≡ (worked T (whole profile L.slots (cards_of L) F bytes allowance)).lent = lent-ended c e in
      record {
        tally = e.tally ∙ sym (ap (λ (z : Worked). z.reply.tally) w);
        stop = e.stop ∙ sym (ap (λ (z : Worked). z.reply.stop) w);
        forecast = e.forecast ∙ sym (ap (λ (z : Worked). z.forecast) w);
        totals = ap (added T) e.tally ∙ sym (ap (λ (z : Worked). z.totals) w);
        lent_left = ended ∙ sym (ap (λ (z : Worked). z.lent) w);
      }

  pub run-opened : Reading T → Opens profile L F bytes allowance r left → RunAdmits profile L F bytes allowance T (run_of T r) left
  run-opened h o =
      elim (dec_lt 0 (check profile L F)) [
        | yes p ↦ (let n : check profile L F ≢ 0 = omega arith in run-stopped h n (o.refused n))
        | no p ↦ (let c : check profile L F ≡ 0 = omega arith in run-ended c (o.ended c))
      ]
