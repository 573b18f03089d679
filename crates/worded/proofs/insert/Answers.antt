-- `insert`: the insert on the forecast that the words show, then the words of the reply and of the forecast.
use Rattle.worded.proofs.ChangeGiven.{insert-given}
use Rattle.worded.proofs.insert.Goals as goal

pub returns : goal.returns
returns c =
    let a = c.args in
    let read = c.read_forecast-given in
    let done = c.insert-done in
    let post = c.post_insert in
    insert-given a.profile a.list.now a.cards.now a.table.now a.forecast.now a.key a.reply.now c.requires.0 a.card read.result done.result post.result _ _ _ _ _ c.requires.1 read.ensures done.ensures post.ensures
