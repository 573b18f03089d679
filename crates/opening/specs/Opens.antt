-- Records worked on anything that is lent.
use Rattle.std.specs.Prelude.{ℕ, ◌≡◌, ◌≢◌, List}
use Rattle.forecast.specs.declared.Forecast.{Forecast}
use Rattle.rules.specs.Refusals.{verdict_number}
use Rattle.rules.specs.Lent.{Lent, cards_of}
use Rattle.rules.specs.Checks.{check}
use Rattle.rules.specs.Runs.{nothing}
use Rattle.steps.specs.declared.Worked.{Worked}
use Rattle.steps.specs.Works.{Ends}

-- Refused by the check: its number, and all as it was.
pub record Refuses (profile : ℕ) (L : Lent) (F : Forecast) (r : Worked) (left : Lent) : Type 0 where
  pub tally : r.tally ≡ nothing
  pub stop : verdict_number r.stop ≡ check profile L F
  pub last : verdict_number r.last ≡ check profile L F
  pub forecast : r.forecast ≡ F
  pub lent_left : left ≡ L

-- Or what the records come to.
pub record Opens (profile : ℕ) (L : Lent) (F : Forecast) (bytes : List ℕ) (allowance : ℕ) (r : Worked) (left : Lent) : Type 0 where
  pub refused : check profile L F ≢ 0 → Refuses profile L F r left
  pub ended : check profile L F ≡ 0 → Ends profile L.slots (cards_of L) F bytes allowance r left
