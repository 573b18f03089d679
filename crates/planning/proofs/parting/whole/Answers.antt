-- `whole` has all marks, whose weights are summed.
use Rattle.std.proofs.Common.{◌≡◌, ◌≤◌, List, length, sum_by, refl, ap, arith, rules}
use Rattle.std.proofs.lemmas.List.Recursion.{is_sum_by}
use lib.ListN.{length-map}
use lib.Seq.{take-length}
use Rattle.lists.specs.Lists.{All, total}
use Rattle.stretches.specs.declared.Mark.{Mark}
use Rattle.stretches.specs.Marks.{weights_of}
use Rattle.stretches.proofs.Weighing.{total-small}
use Rattle.planning.proofs.parting.whole.Goals as goal

total-is : (ms : List Mark) → total (weights_of ms) ≡ sum_by (λ m. m.weight) ms
total-is ms = is_sum_by (λ (l : List Mark). total (weights_of l)) (λ m. m.weight) refl (λ _ _. refl) ms

few : (ms : List Mark) → length ms ≤ 12 → All (λ w. w ≤ 12) (weights_of ms) → sum_by (λ m. m.weight) ms ≤ 144
few ms h small =
    omega (arith, total-is ms, ap total (take-length (weights_of ms)), total-small (length (weights_of ms)) (weights_of ms) small, length-map ms (λ m. m.weight))

pub sum-requires-clause-fits : goal.sum-requires-clause-fits
sum-requires-clause-fits c = let h = few c.args.marks.now c.requires.0 c.requires.1 in search rules

pub overflow_add-result : goal.overflow_add-result
overflow_add-result c =
    let e : c.sum.result ≡ sum_by (λ m. m.weight) c.args.marks.now = search rules in
    omega (arith, few c.args.marks.now c.requires.0 c.requires.1)

pub returns : goal.returns
returns c =
    let e : c.sum.result ≡ sum_by (λ m. m.weight) c.args.marks.now = search rules in
    rw (e, total-is c.args.marks.now, length-map c.args.marks.now (λ m. m.weight))
