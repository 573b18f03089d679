-- `split` gives the left half, with no weight, half the keys, rounded up; else what the scan of the allowed numbers finds.
use Rattle.std.proofs.Common.{◌≡◌, sym, ◌∙◌, arith}
use native.Mathlib.Nat.{pos_of_ne-zero}
use Rattle.stretches.specs.Marks.{places_of, weights_of}
use Rattle.stretches.specs.Parts.{weights_in}
use Rattle.stretches.proofs.Parts.{length-in}
use Rattle.planning.proofs.Ranges.{first, last, tops, tried, even-ranged, scan-ranged, even_is, scan-is}
use Rattle.planning.proofs.splitting.split.Goals as goal
use Rattle.planning.proofs.splitting.split.Goals.{After-min-last}

-- the bounds of the scan
first-is : (c : After-min-last) → c.max-first.result ≡ first c.args.half c.args.low c.args.high c.args.part.keys
first-is c = omega (arith, c.max-first.ensures, c.saturating_sub.ensures)

last-is : (c : After-min-last) → c.min-last.result ≡ last c.args.half c.args.low c.args.high c.args.part.keys
last-is c = c.min-last.ensures

pub overflow_add-result : goal.overflow_add-result
overflow_add-result c =
    let s = c.requires.splits in omega (arith, s.most, s.small, tops c.args.half c.args.low c.args.high c.args.part.keys s)

pub returns-then-part-eq0 : goal.returns-then-part-eq0
returns-then-part-eq0 c =
    let a = c.args in record {
      range = even-ranged a.half a.low a.high a.part.keys c.requires.splits;
      share = λ S l ws _ _ _ d. even_is a.half a.low a.high a.part.keys S l a.part.front (weights_in ws a.part) (length-in ws (places_of a.marks.now) (weights_of a.marks.now) a.part d)
          (sym d.all ∙ c.if-part-eq0.true);
    }

pub overflow_mul-least : goal.overflow_mul-least
overflow_mul-least c =
    let s = c.requires.splits in omega (arith, s.least, s.most, s.small, tops c.args.half c.args.low c.args.high c.args.part.keys s)

pub overflow_mul-most : goal.overflow_mul-most
overflow_mul-most c =
    let s = c.requires.splits in omega (arith, s.small, tops c.args.half c.args.low c.args.high c.args.part.keys s)

pub scan-requires : goal.scan-requires
scan-requires c =
    let a = c.args in
    let m = (goal.at.scan-requires c).After-min-last in record {
      by_index = c.requires.by_index;
      halves = (rw (first-is m, last-is m) (tried a.half a.low a.high a.part.keys c.requires.splits), pos_of_ne-zero c.if-part-eq0.false);
    }

pub returns : goal.returns
returns c =
    let a = c.args in
    let f = first-is (goal.at.returns c).After-min-last in
    let l = last-is (goal.at.returns c).After-min-last in
    let r = c.scan.ensures in record {
      range = scan-ranged a.half a.low a.high a.part.keys c.requires.splits c.scan.result (rw f at r.range.0) (rw l at r.range.1);
      share = λ S k ws z b e d. scan-is a.half a.low a.high a.part.keys S k a.part.front (weights_in ws a.part) (length-in ws (places_of a.marks.now) (weights_of a.marks.now) a.part d) c.scan.result _ _ (record { from = f; to = l; size = z; least-is = b; most-is = e })
          (λ n. c.if-part-eq0.false (d.all ∙ n)) (r.share ws d);
    }
