-- `is_sparse` tells an accepted delete that leaves fewer keys than the floor of the shape.
use mathlib.Core.Path.{refl, sym, ap, ◌∙◌}
use mathlib.Core.Bool.{true≢false}
use native.Mathlib.Omega.{arith}
use Rattle.tallies.specs.Counted.{is_accepted}
use Rattle.asking.proofs.is_sparse.Goals as goal

pub returns-then-grows : goal.returns-then-grows
returns-then-grows c = record { is = λ h. rw c.if-grows.true refl; refused = λ a. refl }

pub returns-in-Err : goal.returns-in-Err
returns-in-Err c = record { is = λ h. rw (c.if-grows.false, c.in-Err.is) refl; refused = λ a. refl }

pub returns-in_default-height_of : goal.returns-in_default-height_of
returns-in_default-height_of c = record { is = λ h. absurd (omega (arith, h, c.in_default-height_of.ensures)); refused = λ a. refl }

pub returns : goal.returns
returns c =
    let done = c.in_default.is in
    let tall = sym c.in-Some.ensures.0 in
    let named = sym c.profile_of.ensures in
    record { is = λ h. rw (c.if-grows.false, done, tall, named, sym c.shape_of.ensures.1.floor) refl; refused = λ a. absurd (true≢false (sym (ap is_accepted done) ∙ a)) }
