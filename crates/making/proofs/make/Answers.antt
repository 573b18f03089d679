-- `make` clears, and gives an empty forecast.
use mathlib.Core.Path.{◌∙◌}
use mathlib.Core.List.{[]}
use Rattle.forecast.proofs.Became.{became-is}
use Rattle.making.proofs.make.Goals as goal

pub returns : goal.returns
returns c =
    let cleared = c.clear-answer.ensures in
    record { answer = cleared.answer; forecast = became-is [] _ c.empty.ensures ∙ cleared.forecast; lent_left = cleared.lent_left }
