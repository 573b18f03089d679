-- Any two outcomes of a run told in numbers that its promise admits are equal.
use mathlib.Core.Path.{◌≡◌, sym, ◌∙◌}
use mathlib.Core.List.{List}
use Prim.Native.Nat.{ℕ}
use Rattle.forecast.specs.declared.Forecast.{Forecast}
use Rattle.rules.specs.declared.Totals.{Totals}
use Rattle.rules.specs.Lent.{Lent}
use Rattle.told.specs.declared.ToldRun.{ToldRun}
use Rattle.told.specs.Tells.{RunTells}

module _ (profile : ℕ) (L : Lent) (F : Forecast) (bytes : List ℕ) (allowance : ℕ) (T : Totals) where
  pub told-one : (r r' : ToldRun) (left left' : Lent)
      → RunTells profile L F bytes allowance T r left → RunTells profile L F bytes allowance T r' left' → (r ≡ r') × (left ≡ left')
  told-one r r' left left' a b = (
    λ i. record {
      told = record {
        forecast = (a.forecast ∙ sym b.forecast) i;
        tally = (a.tally ∙ sym b.tally) i;
        stop = (a.stop ∙ sym b.stop) i;
      };
      totals = (a.totals ∙ sym b.totals) i;
    },
    a.lent_left ∙ sym b.lent_left,
  )
