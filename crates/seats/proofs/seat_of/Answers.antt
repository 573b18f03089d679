-- `seat_of` finds the segment where a search ends: std's halving parts the bounds at the key.
use Rattle.std.proofs.Common.{ltb, arith, rules}
use Rattle.std.proofs.lemmas.List.Sorted.{IsPartitionPoint-from_clause}
use Rattle.seats.proofs.Seats.{parted, seat-last}
use Rattle.seats.proofs.seat_of.Goals as goal

pub returns-clause-place : goal.returns-clause-place
returns-clause-place c ss g few e =
    let a = c.args in
    let parts = parted a.key ss a.bounds.now (omega arith) g few e in
    seat-last a.key ss a.bounds.now (omega arith) g few e _
    (IsPartitionPoint-from_clause (λ y. ltb y a.key) _ _ c.partition_point.ensures.partitioned parts (λ a r q k. search rules)) c.partition_point.ensures.bound
