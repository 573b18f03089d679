-- `delete`: the delete on the forecast that the words show, then the words of the reply and of the forecast.
use Rattle.worded.proofs.ChangeGiven.{delete-given}
use Rattle.worded.proofs.delete.Goals as goal

pub returns : goal.returns
returns c =
    let a = c.args in
    let read = c.read_forecast-given in
    let done = c.delete-done in
    let post = c.post_delete in
    delete-given a.profile a.list.now a.cards.now a.table.now a.forecast.now a.key a.reply.now c.requires.0 read.result done.result post.result _ _ _ _ _ c.requires.1 read.ensures done.ensures post.ensures
