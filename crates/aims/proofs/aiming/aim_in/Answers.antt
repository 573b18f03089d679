-- `aim_in` refuses by 5, 6 or 8, or tells the key's place, with the window that a climb finds where its segment is full.
use native.Mathlib.Omega.{arith}
use Rattle.aims.proofs.Standing.{climb-asks}
use Rattle.aims.proofs.Places.{place_in}
use Rattle.aims.proofs.AimedIn.{in-zero, in-present, in-full, in-shifted, in-some, in-swept}
use Rattle.aims.proofs.aiming.aim_in.Goals as goal

pub returns-then-key-eq0 : goal.returns-then-key-eq0
returns-then-key-eq0 c F s = in-zero s c.if-key-eq0.true

pub spot-spot-requires : goal.spot-spot-requires
spot-spot-requires c = (c.requires.index, omega arith)

pub returns-then-place : goal.returns-then-place
returns-then-place c F s =
    in-present s c.if-key-eq0.false c.spot-spot.ensures c.if-place.true

pub returns-then-shape-keys : goal.returns-then-shape-keys
returns-then-shape-keys c F s =
    in-full s c.if-key-eq0.false c.spot-spot.ensures c.if-place.false c.if-shape-keys.true

pub overflow_sub-result : goal.overflow_sub-result
overflow_sub-result c = omega (arith, c.spot-spot.ensures.order)

pub overflow_add-result : goal.overflow_add-result
overflow_add-result c = omega (arith, c.spot-spot.ensures.few)

pub returns-then-held-shape : goal.returns-then-held-shape
returns-then-held-shape c F s =
    in-shifted s c.if-key-eq0.false c.spot-spot.ensures c.if-place.false c.if-shape-keys.false c.if-held-shape.true

pub climb-requires : goal.climb-requires
climb-requires c =
    climb-asks c.requires (place_in c.requires.stands c.spot-spot.ensures.place) (omega arith) (omega arith)

-- there is a window
pub unreachable-requires : goal.unreachable-requires
unreachable-requires c =
    in-some c.requires.stands c.if-key-eq0.false c.spot-spot.ensures c.if-place.false c.if-shape-keys.false c.if-held-shape.false c.requires.index c.climb.result c.climb.ensures.window c.in_default.is

pub returns : goal.returns
returns c F s =
    in-swept s c.if-key-eq0.false c.spot-spot.ensures c.if-place.false c.if-shape-keys.false c.if-held-shape.false c.requires.index c.climb.result c.climb.ensures.window c.in-Some.is
