-- `keys_in` adds up counts, each at most 64.
use Rattle.std.proofs.Common.{◌≡◌, ℕ, ◌+◌, ◌-◌, ◌*◌, ◌≤◌, ◌<◌, List, length, take, drop, get_or, sum, sym, refl, ◌∙◌, arith}
use Rattle.std.specs.List.{All}
use Rattle.std.proofs.lemmas.Iterator.{YieldsList-from_slice}
use Rattle.std.proofs.lemmas.Iterator.Consumers.{sum_from_yields_List, fits_from_yields_list}
use Rattle.std.proofs.lemmas.List.{get_or_default}
use Rattle.std.proofs.lemmas.List.Recursion.{is_sum_by}
use Rattle.std.proofs.lemmas.List.Sums.{sum_by-le}
use lib.ListN.{length-take, length-drop}
use lib.Seq.{get_or-take, get_or-drop}
use Rattle.lists.specs.Lists.{total}
use Rattle.places.proofs.counting.keys_in.Goals as goal

module _ (counts : List ℕ) (first end : ℕ) (inside : end ≤ length counts) (small : (k : ℕ) → k < end → get_or counts k 0 ≤ 64) where
  abbrev part : List ℕ
  part = take (end - first) (drop first counts)

  long : length part ≡ end - first
  long = omega (arith, length-take (end - first) (drop first counts), length-drop first counts)

  each : All (λ x. x ≤ 64) part
  each k d h =
      rw (get_or_default part k d 0 h, get_or-take (end - first) (drop first counts) k 0 (omega (arith, long)), get_or-drop first counts k 0)
      (small (first + k) (omega (arith, long)))

  most : sum part ≤ 64 * (end - first)
  most = omega (arith, sum_by-le (λ x. x) 64 part each, long)

  summed : sum part ≡ total part
  summed = sym (is_sum_by total (λ x. x) refl (λ _ _. refl) part)

pub sum-requires-clause-fits : goal.sum-requires-clause-fits
sum-requires-clause-fits c =
    let a = c.args in
    let p = c.requires in
    fits_from_yields_list _ _ (YieldsList-from_slice (part a.counts.now a.first a.end p.2 p.3) cc) (omega (arith, most a.counts.now a.first a.end p.2 p.3))

pub returns-clause-range : goal.returns-clause-range
returns-clause-range c =
    let a = c.args in
    let p = c.requires in
    let s = sum_from_yields_List _ c.sum.result c.sum.ensures.ran (YieldsList-from_slice (part a.counts.now a.first a.end p.2 p.3) cc) in
    omega (arith, s, most a.counts.now a.first a.end p.2 p.3)

pub returns-clause-sum : goal.returns-clause-sum
returns-clause-sum c =
    let a = c.args in
    let p = c.requires in
    sum_from_yields_List _ c.sum.result c.sum.ensures.ran (YieldsList-from_slice (part a.counts.now a.first a.end p.2 p.3) cc) ∙ summed a.counts.now a.first a.end p.2 p.3
