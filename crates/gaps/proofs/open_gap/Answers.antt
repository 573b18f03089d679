-- open_gap meets its contract: a movement to the right and one store, of slots and of cards.
use native.Mathlib.Omega.{arith}
use Rattle.gaps.proofs.Gaps.{open_step}
use Rattle.gaps.proofs.open_gap.Goals as goal

pub returns : goal.returns
returns c =
    let promise = c.move_right.ensures in
    record {
      slots = rw promise.slots (open_step _ _ _ _ (omega arith) (omega arith));
      cards = rw promise.cards (open_step _ _ _ _ (omega arith) (omega arith));
    }
