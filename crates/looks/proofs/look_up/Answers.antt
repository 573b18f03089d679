-- `look_up` tells whether a key is live, where, and its card.
use native.Mathlib.Omega.{arith}
use Rattle.looks.proofs.Passed.{can-seek, sought, cards-long}
use Rattle.looks.proofs.LookedUp.{zero-told, live-told, absent-told}
use Rattle.looks.proofs.look_up.Goals as goal

pub returns-then-key-eq0 : goal.returns-then-key-eq0
returns-then-key-eq0 c profile e = zero-told profile _ e _ c.if-key-eq0.true

pub seek-segment-requires : goal.seek-segment-requires
seek-segment-requires c = can-seek c.requires.0 _ c.requires.1

pub bounds-cards-place : goal.bounds-cards-place
bounds-cards-place c = omega (arith, cards-long c.requires.0 _ c.requires.1)

pub returns-then-list-place : goal.returns-then-list-place
returns-then-list-place c profile e =
    absent-told profile _ e _ c.if-key-eq0.false (omega arith) _ _ (sought profile _ e _ _ c.seek-segment.ensures.place) c.place_in-place.ensures.place c.if-list-place.true

pub returns : goal.returns
returns c profile e =
    live-told profile _ e _ c.if-key-eq0.false (omega arith) _ _ (sought profile _ e _ _ c.seek-segment.ensures.place) c.place_in-place.ensures.place c.if-list-place.false
