-- Two readings of the totals, one before a run and one after it, subtract rightly across the wrap: to the run's own numbers.
use Rattle.std.specs.Prelude.{◌≡◌, ℕ, ◌%◌, ◌^◌, ◌<◌, List}
use Rattle.forecast.specs.declared.Forecast.{Forecast}
use Rattle.rules.specs.declared.Totals.{Totals}
use Rattle.rules.specs.Lent.{Lent}
use Rattle.run.specs.declared.Run.{Run}
use Rattle.run.specs.Sums.{since}
use Rattle.run.specs.Admits.{RunAdmits}

-- A reading is four numbers of 32 bits.
pub record Reading (T : Totals) : Type 0 where
  pub worked : T.worked < 2 ^ 32
  pub refused : T.refused < 2 ^ 32
  pub moved : T.moved < 2 ^ 32
  pub sweeps : T.sweeps < 2 ^ 32

-- The difference d of two readings round a run r is what its reply has counted, modulo 2^32: nothing where it is refused by 15, 1 to 4 or 12 to 14.
pub record Differs (r : Run) (d : Totals) : Type 0 where
  pub worked : d.worked ≡ r.reply.tally.worked % 2 ^ 32
  pub refused : d.refused ≡ r.reply.tally.refused % 2 ^ 32
  pub moved : d.moved ≡ r.reply.tally.moves % 2 ^ 32
  pub sweeps : d.sweeps ≡ r.reply.tally.sweeps % 2 ^ 32

-- Of any outcome that a run's promise admits.
abbrev pub RunDiffers : Type 0
RunDiffers = (profile : ℕ) (L : Lent) (F : Forecast) (bytes : List ℕ) (allowance : ℕ) (T : Totals) (r : Run) (left : Lent) → Reading T
    → RunAdmits profile L F bytes allowance T r left → Differs r (since r.totals T)
