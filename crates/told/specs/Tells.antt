-- What a run told in numbers promises: its reply and all that it leaves are those of the run's definition in `rules`.
use Rattle.std.specs.Prelude.{ℕ, ◌≡◌, List}
use Rattle.forecast.specs.declared.Forecast.{Forecast}
use Rattle.rules.specs.declared.Totals.{Totals}
use Rattle.rules.specs.Lent.{Lent}
use Rattle.rules.specs.Calls as rules
use Rattle.told.specs.declared.ToldRun.{ToldRun}

-- the profile's number, what is lent (slots, cards and table), forecast, bytes, allowance and totals; what it returns; and what is
-- left of slots, cards and table
pub record RunTells (profile : ℕ) (L : Lent) (F : Forecast) (bytes : List ℕ) (allowance : ℕ) (T : Totals) (r : ToldRun) (left : Lent) : Type 0 where
  pub tally : r.told.tally ≡ (rules.run profile L F bytes allowance T).reply.tally
  pub stop : r.told.stop ≡ (rules.run profile L F bytes allowance T).reply.stop
  pub forecast : r.told.forecast ≡ (rules.run profile L F bytes allowance T).forecast
  pub totals : r.totals ≡ (rules.run profile L F bytes allowance T).totals
  pub lent_left : left ≡ (rules.run profile L F bytes allowance T).lent
