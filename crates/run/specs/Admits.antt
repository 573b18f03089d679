-- What a run promises: its reply and all that it leaves are those of the run's definition in `rules`.
use Rattle.std.specs.Prelude.{◌≡◌, ℕ, List}
use Rattle.forecast.specs.declared.Forecast.{Forecast}
use Rattle.rules.specs.declared.Totals.{Totals}
use Rattle.rules.specs.Refusals.{verdict_number}
use Rattle.rules.specs.Lent.{Lent}
use Rattle.rules.specs.Calls as rules
use Rattle.run.specs.declared.Run.{Run}

-- the profile's number, what is lent (slots, cards and table), forecast, bytes, allowance and totals; what it returns; and what is
-- left of slots, cards and table
pub record RunAdmits (profile : ℕ) (L : Lent) (F : Forecast) (bytes : List ℕ) (allowance : ℕ) (T : Totals) (r : Run) (left : Lent) : Type 0 where
  pub tally : r.reply.tally ≡ (rules.run profile L F bytes allowance T).reply.tally
  pub stop : verdict_number r.reply.stop ≡ (rules.run profile L F bytes allowance T).reply.stop
  pub forecast : r.reply.forecast ≡ (rules.run profile L F bytes allowance T).forecast
  pub totals : r.totals ≡ (rules.run profile L F bytes allowance T).totals
  pub lent_left : left ≡ (rules.run profile L F bytes allowance T).lent
