-- `cut_out` takes a live key out of its segment, with its card, and the index is kept.
use mathlib.Core.Path.{refl}
use Prim.Native.Nat.{◌+◌, ◌-◌, ◌*◌}
use Rattle.shifts.proofs.InSegment.{closed-cards}
use Rattle.shifts.proofs.Shifted.{shifted-out, shifted-first}
use Rattle.shifts.proofs.cut_out.Goals as goal

pub returns-then-at-eq0 : goal.returns-then-at-eq0
returns-then-at-eq0 c =
    let a = c.args in
    let b = 64 * a.place.segment in
    let closes = c.close_gap in record {
      index = λ ss ix at t.
          shifted-first a.key ss a.list.now a.bounds.now a.table.now a.place ix at _ _ _ refl refl t c.requires.segment_bound.2 closes.ensures.slots _ c.take_one.ensures _ c.rebound.ensures;
      cards = λ f z h. closed-cards f a.list.now h b (b + 64 - b) a.place.held a.place.at 0 0 z closes.ensures.slots closes.ensures.cards;
    }

pub returns-else-at-eq0 : goal.returns-else-at-eq0
returns-else-at-eq0 c =
    let a = c.args in
    let b = 64 * a.place.segment in
    let closes = c.close_gap in record {
      index = λ ss ix at t.
          shifted-out a.key ss a.list.now a.bounds.now a.table.now a.place ix at _ _ _ refl refl t c.requires.segment_bound.2 closes.ensures.slots _ c.take_one.ensures c.if-at-eq0.false;
      cards = λ f z h. closed-cards f a.list.now h b (b + 64 - b) a.place.held a.place.at 0 0 z closes.ensures.slots closes.ensures.cards;
    }
