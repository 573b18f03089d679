-- `work_lent` checks once, makes ready, and works the records.
use mathlib.Core.Path.{refl}
use lib.ListN.{get_or-replicate}
use Rattle.rules.specs.Lent.{lend}
use Rattle.seats.specs.Bounds.{top}
use Rattle.checks.proofs.Numbers.{some-number}
use Rattle.aims.proofs.Standing.{small-stands}
use Rattle.opening.proofs.Ready.{ready-passes, ready-stands, ready-ends, ready-index, ready-cards}
use Rattle.opening.proofs.work_lent.Goals as goal

pub returns-in-Err : goal.returns-in-Err
returns-in-Err c =
    let look = c.in-Err.ensures in
    record {
      refused = λ n. record { tally = c.none.ensures; stop = look; last = look; forecast = refl; lent_left = refl };
      ended = λ e. absurd (some-number _ _ look e);
    }

pub bound-requires : goal.bound-requires
bound-requires c =
    let a = c.args in
    let L = lend a.list.now a.cards.now a.table.now in
    record {
      list_len_bound = (small-stands (ready-stands a.profile L a.forecast c.in-Ok.listing c.in-Ok.ensures), refl);
      by_index = λ k l h. get_or-replicate 64 k top 0 h;
    }

pub work-requires : goal.work-requires
work-requires c =
    let a = c.args in
    let L = lend a.list.now a.cards.now a.table.now in
    let look = c.in-Ok.ensures in
    record {
      stands = (ready-stands a.profile L a.forecast c.in-Ok.listing look, ready-index a.profile L a.forecast c.in-Ok.listing look _ c.bound.ensures, refl);
      cards_value = ready-cards a.profile L a.forecast c.in-Ok.listing look;
    }

pub returns-in-Ok : goal.returns-in-Ok
returns-in-Ok c =
    let a = c.args in
    let L = lend a.list.now a.cards.now a.table.now in
    let look = c.in-Ok.ensures in
    record {
      refused = λ n. absurd (n (ready-passes a.profile L a.forecast c.in-Ok.listing look));
      ended = λ e. ready-ends a.profile L a.forecast c.in-Ok.listing look c.work.ensures;
    }
