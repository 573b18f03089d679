-- `position` counts the keys below `key` among rising slots: those stand first.
use Rattle.std.proofs.Common.{ltb, length, rules, lt-ltb, le-ltb}
use Rattle.lists.proofs.Filtered.{only-length}
use Rattle.slots.specs.Keys.{below}
use Rattle.slots.proofs.Halving.{place-below, past-place}
use Rattle.slots.proofs.Points.{point-is}
use Rattle.places.proofs.finding.position.Goals as goal

pub returns-clause-place : goal.returns-clause-place
returns-clause-place c r =
    let a = c.args in
    let l = a.part.now in
    point-is (λ x. ltb x a.key) l (length (below a.key l)) (only-length (λ k. ltb k a.key) l) (λ k h. lt-ltb _ _ (place-below a.key l r k h))
    (λ k h m. le-ltb _ _ (past-place a.key l r k h m)) _ c.partition_point.ensures.bound c.partition_point.ensures.partitioned (λ a r q k. search rules)
