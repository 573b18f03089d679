-- Any two outcomes of a run that its promise admits are equal.
use Rattle.std.proofs.Common.{◌≡◌, ℕ, List, sym, ◌∙◌}
use Rattle.forecast.specs.declared.Forecast.{Forecast}
use Rattle.rules.specs.declared.Totals.{Totals}
use Rattle.rules.specs.Lent.{Lent}
use Rattle.demands.proofs.Refusals.Told.{verdict-told}
use Rattle.run.specs.declared.Run.{Run}
use Rattle.run.specs.Admits.{RunAdmits}

module _ (profile : ℕ) (L : Lent) (F : Forecast) (bytes : List ℕ) (allowance : ℕ) (T : Totals) where
  pub run-one : (r r' : Run) (left left' : Lent)
      → RunAdmits profile L F bytes allowance T r left → RunAdmits profile L F bytes allowance T r' left' → (r ≡ r') × (left ≡ left')
  run-one r r' left left' a b = (
    λ i. record {
      reply = record {
        forecast = (a.forecast ∙ sym b.forecast) i;
        tally = (a.tally ∙ sym b.tally) i;
        stop = verdict-told r.reply.stop r'.reply.stop (a.stop ∙ sym b.stop) i;
      };
      totals = (a.totals ∙ sym b.totals) i;
    },
    a.lent_left ∙ sym b.lent_left,
  )
