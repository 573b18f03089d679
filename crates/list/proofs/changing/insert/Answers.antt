-- `insert` gives the answer that the request's verdict comes to.
use mathlib.Core.Path.{ap, ◌∙◌}
use Rattle.answers.specs.Answers.{InsertAnswer, insert_paper}
use Rattle.list.proofs.ByVerdict.{insert-told}
use Rattle.list.proofs.changing.insert.Goals as goal

pub returns : goal.returns
returns c =
    let ask = c.ask-reply in
    record { answer = ap (λ (a : InsertAnswer). insert_paper a) c.and.ensures ∙ insert-told _ _ _ _ _ ask.result.verdict _ _ ask.ensures.answer; forecast = ask.ensures.forecast; lent_left = ask.ensures.lent_left }
