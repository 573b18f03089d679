-- close_gap meets its contract: a movement to the left and one store, of slots and of cards.
use native.Mathlib.Omega.{arith}
use Rattle.gaps.proofs.Gaps.{close-step}
use Rattle.gaps.proofs.close_gap.Goals as goal

pub returns : goal.returns
returns c =
    let promise = c.move_left.ensures in
    record {
      slots = rw promise.slots (close-step _ _ _ _ (omega arith) (omega arith));
      cards = rw promise.cards (close-step _ _ _ _ (omega arith) (omega arith));
    }
