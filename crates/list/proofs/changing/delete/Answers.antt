-- `delete` gives the answer that the request's verdict comes to, sparse or not.
use mathlib.Core.Path.{ap, ◌∙◌}
use Rattle.answers.specs.Answers.{DeleteAnswer, delete_paper}
use Rattle.list.proofs.ByVerdict.{delete-told}
use Rattle.list.proofs.changing.delete.Goals as goal

pub returns : goal.returns
returns c =
    let ask = c.ask-reply in
    record { answer = ap (λ (a : DeleteAnswer). delete_paper a) c.and.ensures ∙ delete-told _ _ _ _ _ ask.result.verdict _ _ ask.ensures.answer; forecast = ask.ensures.forecast; lent_left = ask.ensures.lent_left }
