-- The run: from what the run below it promises to what it gives, where the sizes fit.
use Prim.Native.Nat.{ℕ, ◌≤◌}
use mathlib.Core.Path.{◌≡◌, sym, ap, ◌∙◌}
use mathlib.Core.Logic.{inl, inr, ◌≢◌}
use mathlib.Core.Bool.{true, false, ◌||◌}
use mathlib.Core.List.{List, [], ◌∷◌}
use lib.Dec.{eqb, eqb→eq}
use lib.ListN.{length}
use Rattle.lists.proofs.Tests.{tested, neqb→ne, nor}
use Rattle.forecast.specs.declared.Forecast.{Forecast}
use Rattle.rules.specs.declared.Tally.{Tally}
use Rattle.rules.specs.declared.Totals.{Totals}
use Rattle.rules.specs.Lent.{Lent, lend}
use Rattle.rules.specs.Calls as rules
use Rattle.rules.specs.Checks as checks
use Rattle.demands.specs.Rows.{Tells, both_rows, stop_rows}
use Rattle.demands.proofs.Refusals.Numbers as below
use Rattle.demands.proofs.Running.Singly as singly
use Rattle.told.specs.declared.ToldRun.{ToldRun}
use Rattle.told.specs.Tells.{RunTells}
use Rattle.words.specs.Words.{forecast_in, forecast_words, saturated}
use Rattle.words.specs.Totals.{totals_in, totals_words}
use Rattle.words.proofs.WordLaws.{words-again, forecast_in-roomy}
use Rattle.words.proofs.Called.{run-same}
use Rattle.given.specs.Calls.{not_forecast, not_totals, short, run, over, reply_words, Gives}
use Rattle.given.proofs.Sizes.{fitted, forecast-sized, totals-sized, reply-sized}
use Rattle.given.proofs.Leaves.{told-each}
use Rattle.posts.specs.Posts.{RunPosted}
use Rattle.replies.specs.Back.{works_on, handed_back}
use Rattle.replies.proofs.Back.{plain, works-not, handed, kept}

-- what a run on words is lent, of the right sizes
pub record OnWords : Type 0 where
  pub profile : ℕ
  pub list : List ℕ
  pub cards : List ℕ
  pub table : List ℕ
  pub forecast : List ℕ
  pub requests : List ℕ
  pub allowance : ℕ
  pub totals : List ℕ
  pub reply : List ℕ
  pub forecast-fits : length forecast ≡ 37
  pub totals-fit : length totals ≡ 4
  pub reply-fits : 4 ≤ length reply

module _ (x : OnWords) where
  abbrev profile : ℕ
  profile = x.profile

  abbrev L : Lent
  L = lend x.list x.cards x.table

  abbrev forecast : List ℕ
  forecast = x.forecast

  abbrev requests : List ℕ
  requests = x.requests

  abbrev allowance : ℕ
  allowance = x.allowance

  abbrev totals : List ℕ
  totals = x.totals

  abbrev W : rules.Worked
  W = rules.run profile L (forecast_in forecast) requests allowance (totals_in totals)

  -- a checked run stops by 0, 9 or 10
  late : checks.check profile L (forecast_in forecast) ≡ 0 → works_on W.reply.stop ≡ true
  late z = stops (singly.run_tells profile L (forecast_in forecast) requests allowance (totals_in totals) z).0
    where
      stops : Tells (stop_rows profile requests allowance W) W.reply.stop → works_on W.reply.stop ≡ true
      stops (inl (u, e)) = ap works_on e
      stops (inr (u, inl (v, e))) = ap works_on e
      stops (inr (u, inr (v, e))) = ap works_on e

  -- one that is refused at once, by a number of the check
  early : checks.check profile L (forecast_in forecast) ≢ 0 → works_on (checks.check profile L (forecast_in forecast)) ≡ false
  early z =
      works-not (checks.check profile L (forecast_in forecast))
      (told-each plain (both_rows profile L (forecast_in forecast)) _ tt (below.check_tells profile L (forecast_in forecast) (forecast_in-roomy forecast))) z

  -- the words written are the same where the run is worked, and where it is refused at once those lent are left
  back : (n : ℕ) (G : Forecast) → n ≡ W.reply.stop
      → G ≡ (rules.run profile L (saturated (forecast_in forecast)) requests allowance (totals_in totals)).forecast → handed_back n G forecast ≡ forecast_words W.forecast
  back n G e g =
      let same = run-same profile L (forecast_in forecast) requests allowance (totals_in totals) (forecast_in-roomy forecast) in
      elim (tested (eqb (checks.check profile L (forecast_in forecast)) 0)) [
        | inl t ↦
            (let z : checks.check profile L (forecast_in forecast) ≡ 0 = eqb→eq _ _ t in
            handed n G forecast (ap works_on e ∙ late z) ∙ ap forecast_words (g ∙ same.done z))
        | inr t ↦
            (let z : checks.check profile L (forecast_in forecast) ≢ 0 = neqb→ne _ _ t in
            let q = same.left z in
            kept n G forecast (ap works_on (e ∙ q.1) ∙ early z) ∙ sym (ap forecast_words q.0 ∙ words-again forecast x.forecast-fits))
      ]

  pub run-given : (F : Forecast) (T : Totals) (k : ToldRun) (n : ℕ) (list' cards' table' forecast' totals' reply' : List ℕ) → F ≡ saturated (forecast_in x.forecast) → T ≡ totals_in x.totals
      → RunTells x.profile (lend x.list x.cards x.table) F x.requests x.allowance T k (lend list' cards' table')
      → n ≡ k.told.stop
      → RunPosted k.told.stop k.told.forecast k.told.tally k.totals x.forecast x.reply forecast' totals' reply'
      → Gives (run x.profile x.list x.cards x.table x.forecast x.requests x.allowance x.totals x.reply) n (list' ∷ cards' ∷ table' ∷ forecast' ∷ totals' ∷ reply' ∷ [])
  unfolding run
  run-given F T k n list' cards' table' forecast' totals' reply' f g a q p =
      let is : rules.run profile L F requests allowance T ≡ rules.run profile L (saturated (forecast_in forecast)) requests allowance (totals_in totals) = λ i. rules.run profile L (f i) requests allowance (g i) in
      let same = run-same profile L (forecast_in forecast) requests allowance (totals_in totals) (forecast_in-roomy forecast) in
      let lent = a.lent_left ∙ ap (λ (w : rules.Worked). w.lent) is ∙ same.lent in
      let stop = a.stop ∙ ap (λ (w : rules.Worked). w.reply.stop) is ∙ ap (λ (r : rules.Reply). r.stop) same.reply in
      let words = p.forecast_left ∙ back k.told.stop k.told.forecast stop (a.forecast ∙ ap (λ (w : rules.Worked). w.forecast) is) in
      let sums = p.totals_left ∙ ap totals_words (a.totals ∙ ap (λ (w : rules.Worked). w.totals) is ∙ same.totals) in
      let tally = a.tally ∙ ap (λ (w : rules.Worked). w.reply.tally) is ∙ ap (λ (r : rules.Reply). r.tally) same.reply in
      let said = p.reply_left ∙ ap (λ (t : Tally). over (reply_words t) x.reply) tally in
      fitted (not_forecast x.forecast || (not_totals x.totals || short x.reply 4)) _ _
      (nor (not_forecast x.forecast) (not_totals x.totals || short x.reply 4) (forecast-sized x.forecast x.forecast-fits)
      (nor (not_totals x.totals) (short x.reply 4) (totals-sized x.totals x.totals-fit) (reply-sized x.reply 4 x.reply-fits)))
      (record { number = q ∙ stop; slices = λ i. (lent i).slots ∷ (lent i).cards ∷ (lent i).table ∷ words i ∷ sums i ∷ said i ∷ [] })
