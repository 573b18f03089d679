-- `put_in` puts a new key into its segment, with its card, and the index is kept.
use mathlib.Core.Path.{refl}
use Prim.Native.Nat.{◌+◌, ◌-◌, ◌*◌}
use Rattle.shifts.proofs.InSegment.{opened-cards}
use Rattle.shifts.proofs.Shifted.{shifted_in}
use Rattle.shifts.proofs.put_in.Goals as goal

pub returns : goal.returns
returns c =
    let a = c.args in
    let b = 64 * a.place.segment in
    let opens = c.open_gap in record {
      index = λ ss bounds ix at t key.
          shifted_in a.key ss a.list.now bounds a.table.now a.place ix at _ _ _ refl refl t key c.requires.segment_in_bounds.1 c.requires.segment_in_bounds.2 opens.ensures.slots _ c.add_one.ensures;
      cards = λ f k h. opened-cards f a.list.now h b (b + 64 - b) a.place.held a.place.at a.key a.card k opens.ensures.slots opens.ensures.cards;
    }
