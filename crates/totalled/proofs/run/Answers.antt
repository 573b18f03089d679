-- `run`: the run on the forecast and totals that the words show, then the words of the reply, of the totals and of the forecast.
use Rattle.totalled.proofs.RunGiven.{OnWords, run-given}
use Rattle.totalled.proofs.run.Goals as goal

pub post_run-requires : goal.post_run-requires
post_run-requires c = c.requires

pub returns : goal.returns
returns c =
    let a = c.args in
    let forecast = c.read_forecast-given in
    let totals = c.read_totals-before in
    let ran = c.run_told-ran in
    let post = c.post_run in
    let lent : OnWords = record {
      profile = a.profile;
      list = a.list.now;
      cards = a.cards.now;
      table = a.table.now;
      forecast = a.forecast.now;
      requests = a.requests.now;
      allowance = a.allowance;
      totals = a.totals.now;
      reply = a.reply.now;
      forecast-fits = c.requires.0;
      totals-fit = c.requires.1;
      reply-fits = c.requires.2;
    } in
    run-given lent forecast.result totals.result ran.result post.result _ _ _ _ _ _ forecast.ensures totals.ensures ran.ensures post.ensures.number post.ensures.left
