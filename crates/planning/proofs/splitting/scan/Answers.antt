-- `scan` finds the number that makes formula 6 least.
use mathlib.Core.Path.{◌≡◌, ap, ◌∙◌}
use mathlib.Core.List.{List}
use Prim.Native.Nat.{ℕ, ◌+◌, ◌-◌}
use native.Mathlib.Omega.{arith}
use lib.ListN.{length-map}
use Rattle.rules.specs.SharingOut.{formula6, least}
use Rattle.demands.proofs.Sharing.SharingOut.{least-from}
use Rattle.stretches.specs.Marks.{places_of, weights_of}
use Rattle.stretches.specs.Parts.{weights_in, PartOf}
use Rattle.stretches.proofs.Looks.{best_of}
use Rattle.stretches.proofs.Parts.{next-inside}
use Rattle.planning.proofs.Scanning.{Stretched, scan-start, stretched, scan-ends}
use Rattle.planning.proofs.splitting.scan.Goals as goal
use Rattle.planning.proofs.splitting.scan.Goals.{After-reach-end}

-- what is known of a stretch, whatever the window's weights are
module _ (c : After-reach-end) where
  module _ (ws : List ℕ) (d : PartOf ws (places_of c.args.marks.now) (weights_of c.args.marks.now) c.args.part) where
    abbrev Known : Type 0
    Known = Stretched c.args.c c.args.first c.args.last ws (places_of c.args.marks.now) (weights_of c.args.marks.now) c.args.part c.requires.halves.0 d c.loop-part.i c.reach-end.result c.loop-part.passed c.loop-part.found

    known : Known
    known =
        let L = c.loop-part in
        stretched c.args.c c.args.first c.args.last ws (places_of c.args.marks.now) (weights_of c.args.marks.now) c.args.part c.requires.halves.0 d c.requires.halves.1 L.i c.reach-end.result L.passed L.found L.invariant.0.0 L.invariant.0.1 (L.invariant.2 ws d) c.reach-end.ensures

  -- by the weights that the caller has
  abbrev one : Known c.requires.by_index.0 c.requires.by_index.1
  one = known c.requires.by_index.0 c.requires.by_index.1

pub pass-passed-requires : goal.pass-passed-requires
pass-passed-requires c = record {
  by_index = c.requires.by_index;
  i_le_keys = omega arith;
}

pub loop-part-init : goal.loop-part-init
loop-part-init c = (
  (omega arith, c.requires.halves.0.some),
  omega arith,
  λ ws d. scan-start c.args.c c.args.first c.args.last ws (places_of c.args.marks.now) (weights_of c.args.marks.now) c.args.part c.requires.halves.0 d c.pass-passed.result (c.pass-passed.ensures ws d),
)

pub reach-end-requires : goal.reach-end-requires
reach-end-requires c h =
    let w = c.requires.by_index in
    let there = next-inside w.0 (places_of c.args.marks.now) (weights_of c.args.marks.now) c.args.part w.1 c.loop-part.i (omega (arith, c.loop-part.invariant.0, c.requires.halves.0.inside)) c.loop-part.passed (c.loop-part.invariant.2 w.0 w.1).passed h in
    (omega (arith, there.0, length-map c.args.marks.now (λ m. m.place)), there.1)

pub overflow_sub-stretch : goal.overflow_sub-stretch
overflow_sub-stretch c = (one (goal.at.overflow_sub-stretch c).After-reach-end).small

pub nearest-found-requires : goal.nearest-found-requires
nearest-found-requires c =
    (c.loop-part.invariant.1, (one (goal.at.nearest-found-requires c).After-reach-end).weighted, (one (goal.at.nearest-found-requires c).After-reach-end).halves)

pub pass_one-passed-requires : goal.pass_one-passed-requires
pass_one-passed-requires c =
    let m = (one (goal.at.pass_one-passed-requires c).After-reach-end).mark c.if-end-last.false in
    (omega (arith, m.0, length-map c.args.marks.now (λ m. m.weight)), (one (goal.at.pass_one-passed-requires c).After-reach-end).weighted.left, m.1, m.2)

pub overflow_add-i : goal.overflow_add-i
overflow_add-i c = let k = one (goal.at.overflow_add-i c).After-reach-end in omega (arith, k.halves.left, k.halves.small)

pub loop-part-smaller : goal.loop-part-smaller
loop-part-smaller c = let k = one (goal.at.loop-part-smaller c).After-reach-end in omega (arith, k.from, k.to, c.if-end-last.false)

pub loop-part-preserved : goal.loop-part-preserved
loop-part-preserved c = (
  (omega (arith, (one (goal.at.loop-part-preserved c).After-reach-end).from, c.loop-part.invariant.0), omega (arith, (one (goal.at.loop-part-preserved c).After-reach-end).to, c.if-end-last.false)),
  c.nearest-found.ensures.range,
  λ ws d. record {
    passed = (known (goal.at.loop-part-preserved c).After-reach-end ws d).on c.if-end-last.false c.pass_one-passed.result c.pass_one-passed.ensures.0 c.pass_one-passed.ensures.1;
    best = c.nearest-found.ensures.nearest ∙ (known (goal.at.loop-part-preserved c).After-reach-end ws d).best;
  },
)

pub returns-then-end-last : goal.returns-then-end-last
returns-then-end-last c =
    let a = c.args in
    let w = c.requires.by_index in
    let is : (ws : List ℕ) → PartOf ws (places_of a.marks.now) (weights_of a.marks.now) a.part → c.nearest-found.result.keys ≡ least (formula6 a.c a.part.front (weights_in ws a.part)) a.first (a.last - a.first) =
    λ ws d. scan-ends a.c a.first a.last ws (places_of a.marks.now) (weights_of a.marks.now) a.part c.requires.halves.0 d c.nearest-found.result (c.nearest-found.ensures.nearest ∙ (known (goal.at.returns-then-end-last c).After-reach-end ws d).best ∙ ap (λ (e : ℕ). best_of (formula6 a.c a.part.front (weights_in ws a.part)) a.first (e + 1 - a.first)) c.if-end-last.true) in
    let l = least-from (formula6 a.c a.part.front (weights_in w.0 a.part)) a.first (a.last - a.first) in
    record {
      range = (omega (arith, is w.0 w.1, l.0), omega (arith, is w.0 w.1, l.1, c.requires.halves.0.some));
      share = is;
    }
