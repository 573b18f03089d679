-- `planning::splitting::plan_window` meets its contract, by recursion on the level: two segments' counts are written, the halves' counts of a
-- larger window are planned in the two lent parts.
use mathlib.Core.Path.{◌≡◌, sym, ap, subst, ◌∙◌}
use mathlib.Core.List.{List}
use Prim.Native.Nat.{ℕ, suc, ◌-◌, ◌/◌, ◌≤◌}
use native.Mathlib.Nat.{pos_of_ne-zero}
use native.Mathlib.Omega.{arith}
use lib.ListN.{length}
use Rattle.rules.specs.Shares.{Shares}
use Rattle.rules.specs.SharingOut.{left_share, plan}
use Rattle.shares.specs.Rows.{Rows}
use Rattle.stretches.specs.declared.Part.{Part}
use Rattle.stretches.specs.Marks.{places_of, weights_of}
use Rattle.stretches.specs.Parts.{weights_in, PartOf}
use Rattle.stretches.proofs.Parts.{left-small}
use Rattle.planning.specs.Plans.{Splits, Planned}
use Rattle.planning.specs.Parts.{left_of, right_of}
use Rattle.planning.proofs.Parts.{left-part, right-part}
use Rattle.planning.proofs.Ranges.{Ranged}
use Rattle.planning.proofs.Levels.{Down, down, plan-one, plan-pair, plan-two}
use Rattle.planning.proofs.splitting.+plan_window.Goals as goal
use Rattle.planning.proofs.splitting.+plan_window.Goals.{After-from-high, After-split-i, After-pass-p}

-- two numbers in place of equal ones
both : (P : ℕ → ℕ → Type 0) {a b x y : ℕ} → a ≡ x → b ≡ y → P a b → P x y
both P {b = b} {x = x} e f p = subst (P x) f (subst (λ (z : ℕ). P z b) e p)

module _ (t : ℕ) where
  module _ (c : After-from-high t) where
    -- the shares whose rows are lent, and the window within its limits
    abbrev S : Shares
    S = c.requires.rows.0

    given : Planned S c.args.level (length c.args.counts.now) c.args.part.keys
    given = c.requires.rows.2

    asked : Splits (length c.args.counts.now / 2) c.from-low.result c.from-high.result c.args.part.keys
    asked =
        let r = c.requires.rows.1 in
        both (λ x y. Splits (length c.args.counts.now / 2) x y c.args.part.keys) (sym (c.from-low.ensures ∙ r.low.is c.args.level given.level)) (sym (c.from-high.ensures ∙ r.high.is c.args.level given.level))
        (down S c.args.level (length c.args.counts.now) c.args.part.keys given (pos_of_ne-zero c.if-level-eq0.false)).splits

  -- what the split says of the halves
  module _ (c : After-split-i t) where
    abbrev half : ℕ
    half = length c.args.counts.now / 2

    abbrev Weighed : List ℕ → Part → Type 0
    Weighed ws p = PartOf ws (places_of c.args.marks.now) (weights_of c.args.marks.now) p

    above : 1 ≤ c.args.level
    above = pos_of_ne-zero c.if-level-eq0.false

    halved : Down c.requires.rows.0 c.args.level (length c.args.counts.now) c.args.part.keys half
    halved = down c.requires.rows.0 c.args.level (length c.args.counts.now) c.args.part.keys c.requires.rows.2 above

    -- the two shares read, by the rows of any shares
    low-is : (R : Shares) → c.args.level ≤ R.height → Rows R c.args.lows.now c.args.highs.now → c.from-low.result ≡ R.low c.args.level
    low-is R h r = c.from-low.ensures ∙ r.low.is c.args.level h

    high_is : (R : Shares) → c.args.level ≤ R.height → Rows R c.args.lows.now c.args.highs.now → c.from-high.result ≡ R.high c.args.level
    high_is R h r = c.from-high.ensures ∙ r.high.is c.args.level h

    may : Ranged half (c.requires.rows.0.low c.args.level) (c.requires.rows.0.high c.args.level) c.args.part.keys c.split-i.result
    may =
        let r = c.requires.rows in
        both (λ x y. Ranged half x y c.args.part.keys c.split-i.result) (low-is r.0 r.2.level r.1) (high_is r.0 r.2.level r.1) c.split-i.ensures.range

    share : (R : Shares) (ws : List ℕ) → c.args.level ≤ R.height → Rows R c.args.lows.now c.args.highs.now → Weighed ws c.args.part → c.split-i.result ≡ left_share R (c.args.level - 1) c.args.part.front (weights_in ws c.args.part)
    share R ws h r d =
        let e : c.args.level ≡ suc (c.args.level - 1) = omega (arith, above) in
        c.split-i.ensures.share R (c.args.level - 1) ws halved.power (low-is R h r ∙ ap R.low e) (high_is R h r ∙ ap R.high e) d

  -- and the marks passed
  module _ (c : After-pass-p t) where
    left : (ws : List ℕ) → PartOf ws (places_of c.args.marks.now) (weights_of c.args.marks.now) c.args.part → PartOf ws (places_of c.args.marks.now) (weights_of c.args.marks.now) (left_of c.args.part c.split-i.result c.pass-p.result)
    left ws d = left-part ws (places_of c.args.marks.now) (weights_of c.args.marks.now) c.args.part d c.split-i.result c.split-i.ensures.range.0 c.pass-p.result (c.pass-p.ensures ws d)

    right : (ws : List ℕ) → PartOf ws (places_of c.args.marks.now) (weights_of c.args.marks.now) c.args.part → PartOf ws (places_of c.args.marks.now) (weights_of c.args.marks.now) (right_of c.args.part c.split-i.result c.pass-p.result)
    right ws d = right-part ws (places_of c.args.marks.now) (weights_of c.args.marks.now) c.args.part d c.split-i.result c.split-i.ensures.range.0 c.pass-p.result (c.pass-p.ensures ws d)

pub split-i-requires-clause-splits : goal.split-i-requires-clause-splits
split-i-requires-clause-splits t c = asked t (goal.at.split-i-requires-clause-splits t c).After-from-high

pub returns-then-level-eq1-clause-counts : goal.returns-then-level-eq1-clause-counts
returns-then-level-eq1-clause-counts t c =
    let p = (goal.at.returns-then-level-eq1-clause-counts t c).After-split-i in
    let a = c.args.part in
    λ R ws h r d. plan-pair R a.front c.args.level a.place a.keys ws d.inside c.args.counts.now c.split-i.result c.if-level-eq1.true c.requires.rows.2.segments (may t p).0 (share t p R ws h r d)

pub plan_window-requires : goal.plan_window-requires
plan_window-requires t c =
    let b = (goal.at.plan_window-requires t c).After-pass-p in
    let p = (goal.at.plan_window-requires t c).After-split-i in
    let w = c.requires.by_index in
    let r = c.requires.rows in
    let e = c.left_of.ensures in
    (omega (arith, c.decreases, above t p), ((w.0, rw e (left t b w.0 w.1)), (r.0, r.1, rw e ((halved t p).left _ _ c.split_at_mut-left.ensures.front_len (may t p)))))

pub right_of-requires : goal.right_of-requires
right_of-requires t c =
    let w = c.requires.by_index in
    let i = c.split-i.ensures.range.0 in
    (omega (arith, w.1.inside, w.1.small), i, left-small w.0 (places_of c.args.marks.now) (weights_of c.args.marks.now) c.args.part w.1 c.split-i.result i c.pass-p.result (c.pass-p.ensures w.0 w.1))

pub plan_window-requires-2 : goal.plan_window-requires-2
plan_window-requires-2 t c =
    let b = (goal.at.plan_window-requires-2 t c).After-pass-p in
    let p = (goal.at.plan_window-requires-2 t c).After-split-i in
    let w = c.requires.by_index in
    let r = c.requires.rows in
    let e = c.right_of.ensures in
    let n : length c.split_at_mut-left.result.1.now ≡ half t p = omega (arith, c.split_at_mut-left.ensures.back_len, (halved t p).whole) in
    (omega (arith, c.decreases, above t p), ((w.0, rw e (right t b w.0 w.1)), (r.0, r.1, rw e ((halved t p).right _ _ n (may t p)))))

pub returns-then-level-eq0-clause-counts : goal.returns-then-level-eq0-clause-counts
returns-then-level-eq0-clause-counts t c =
    let a = c.args.part in
    λ R ws h r d. plan-one R a.front c.args.level a.place a.keys ws d.inside c.args.counts.now c.if-level-eq0.true c.requires.rows.2.segments

pub returns-clause-counts : goal.returns-clause-counts
returns-clause-counts t c R ws h r d =
    let b = (goal.at.returns-clause-counts t c).After-pass-p in
    let p = (goal.at.returns-clause-counts t c).After-split-i in
    let a = c.args.part in
    let l = c.args.level in
    let u = c.left_of.ensures in
    let v = c.right_of.ensures in
    let k : l - 1 ≤ R.height = omega arith in
    plan-two R a.front l a.place a.keys ws c.plan_window.new.counts c.plan_window-2.new.counts c.split-i.result (above t p) (may t p).0 (share t p R ws h r d)
    (c.plan_window.ensures.counts R ws k r (subst (Weighed t p ws) (sym u) (left t b ws d)) ∙ ap (λ (q : Part). plan R (l - 1) q.front (weights_in ws q)) u)
    (c.plan_window-2.ensures.counts R ws k r (subst (Weighed t p ws) (sym v) (right t b ws d)) ∙ ap (λ (q : Part). plan R (l - 1) q.front (weights_in ws q)) v)
