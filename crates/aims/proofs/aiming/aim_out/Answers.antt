-- `aim_out` refuses by 5 or 7, or tells the key's place, with the window that a climb finds, if any, where its segment falls under its low share.
use native.Mathlib.Omega.{arith}
use borrow.Author.Tests.{not-true, not-false}
use Prim.Native.Nat.{◌<◌}
use Rattle.aims.proofs.Standing.{climb-asks}
use Rattle.aims.proofs.Places.{place_in, place-held}
use Rattle.aims.proofs.AimedOut.{out-zero, out-absent, out-under, out-shifted, out-keeps, out-unswept, out-swept}
use Rattle.aims.proofs.aiming.aim_out.Goals as goal
use Rattle.aims.proofs.aiming.aim_out.Goals.{Else-not-place}

pub returns-then-key-eq0 : goal.returns-then-key-eq0
returns-then-key-eq0 c F s = out-zero s c.if-key-eq0.true

pub spot-spot-requires : goal.spot-spot-requires
spot-spot-requires c = (c.requires.index, omega arith)

pub returns-then-not-place : goal.returns-then-not-place
returns-then-not-place c F s =
    out-absent s c.if-key-eq0.false c.spot-spot.ensures (not-true _ c.if-not-place.true)

-- the key's place is below the number of keys there
under : (c : Else-not-place) → c.spot-spot.result.place.at < c.spot-spot.result.place.held
under c =
    out-under c.requires.stands c.if-key-eq0.false c.spot-spot.ensures (not-false _ c.if-not-place.false)

pub climb-requires : goal.climb-requires
climb-requires c =
    climb-asks c.requires (place_in c.requires.stands c.spot-spot.ensures.place) (omega (arith, place-held c.requires.stands c.spot-spot.ensures.place, under (goal.at.climb-requires c).Else-not-place)) (omega arith)

pub returns-in-Some : goal.returns-in-Some
returns-in-Some c F s =
    out-swept s c.if-key-eq0.false c.spot-spot.ensures (not-false _ c.if-not-place.false) (omega (arith, c.if-held-shape.true)) c.requires.index c.climb.result c.climb.ensures.window c.in-Some.is

pub overflow_sub-result : goal.overflow_sub-result
overflow_sub-result c = omega (arith, under (goal.at.overflow_sub-result c).Else-not-place)

pub overflow_sub-result-2 : goal.overflow_sub-result-2
overflow_sub-result-2 c = omega (arith, under (goal.at.overflow_sub-result-2 c).Else-not-place)

-- no window, for either reason
pub returns : goal.returns
returns c F s =
    out-shifted s c.if-key-eq0.false c.spot-spot.ensures (not-false _ c.if-not-place.false)
    (elim c.if-held-shape.branch [
      | goal.then-held-shape+in_default w ↦
          out-unswept s c.if-key-eq0.false c.spot-spot.ensures (not-false _ c.if-not-place.false) (omega (arith, w.if-held-shape.true)) c.requires.index w.climb.result w.climb.ensures.window w.in_default.is
      | goal.else-held-shape w ↦ out-keeps s c.if-key-eq0.false c.spot-spot.ensures (not-false _ c.if-not-place.false) w.if-held-shape.false
    ])
