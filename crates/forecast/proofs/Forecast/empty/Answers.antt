-- `forecast::Forecast::empty` meets its contract.
use mathlib.Core.Path.{refl}
use mathlib.Core.List.{[]}
use native.Mathlib.Omega.{arith}
use Rattle.lists.specs.Lists.{padded}
use Rattle.forecast.proofs.Stepping.{became}
use Rattle.forecast.proofs.Forecast.empty.Goals as goal

pub returns : goal.returns
unfolding padded
returns c = became [] _ (omega arith) refl refl refl refl
