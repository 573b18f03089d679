-- `count_keys` counts the keys that a segment holds first: a slot holds a key just where it is before the gaps.
use Rattle.std.proofs.Common.{not, eqb, length, ap, rules, eq-eqb, ne_eqb}
use Rattle.slots.proofs.Halving.{key-at, gap-from}
use Rattle.slots.proofs.Points.{point-is}
use Rattle.places.proofs.counting.count_keys.Goals as goal

pub returns-clause-keys : goal.returns-clause-keys
returns-clause-keys c ks live fits whole =
    let l = c.args.segment.now in
    point-is (λ x. not (eqb x 0)) l (length ks) fits (λ k h. ap not (ne_eqb _ _ (key-at l ks (length l) live whole k h)))
    (λ k h m. ap not (eq-eqb _ _ (gap-from l ks (length l) live whole k h))) _ c.partition_point.ensures.bound c.partition_point.ensures.partitioned (λ a r q k. search rules)
