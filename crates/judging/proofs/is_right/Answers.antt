-- `is_right` tells whether a table is right: its length, the counts of the segments, and the sums.
use Rattle.std.proofs.Common.{◌≡◌, take, rules, arith, sym, ◌∙◌}
use Rattle.std.specs.Cmp.Lexicographic.{same_text, other_text}
use Rattle.judging.proofs.Judged.{long-answers, counts-answers, sums-answers, front-same}
use Rattle.judging.proofs.is_right.Goals as goal
use Rattle.judging.proofs.is_right.Goals.{then-table-n, else-table-n}

pub sums_right-requires : goal.sums_right-requires
sums_right-requires c =
    elim c.if-table-n.branch [
      | then-table-n w ↦
          let a = c.args in
          let e : take a.n a.table.now ≡ take a.n a.counts.now = same_text _ _ (sym c.if-eq.true ∙ w.value-is ∙ w.eq.ensures) in
          (c.requires.0, c.requires.1, w.if-table-n.true, λ k l. omega (arith, front-same a.n a.table.now a.counts.now e k l, c.requires.3 k l))
      | else-table-n w ↦ search rules
    ]

pub returns-then-eq : goal.returns-then-eq
returns-then-eq c =
    elim c.if-table-n.branch [
      | then-table-n w ↦
          let a = c.args in
          let e : take a.n a.table.now ≡ take a.n a.counts.now = same_text _ _ (sym c.if-eq.true ∙ w.value-is ∙ w.eq.ensures) in
          λ h ss p many each. sums-answers h ss a.n p many a.table.now a.counts.now each c.requires.2 e w.if-table-n.true c.sums_right.result c.sums_right.ensures
      | else-table-n w ↦ search rules
    ]

pub returns-else-eq : goal.returns-else-eq
returns-else-eq c =
    let a = c.args in
    elim c.if-table-n.branch [
      | then-table-n w ↦
          let e = other_text _ _ (sym c.if-eq.false ∙ w.value-is ∙ w.eq.ensures) in
          λ h ss p many each. rw c.if-eq.false (counts-answers h ss a.n p many a.table.now a.counts.now each c.requires.2 e)
      | else-table-n w ↦ λ h ss p many each. rw c.if-eq.false (long-answers h ss a.n p many a.table.now w.if-table-n.false)
    ]
