-- `stray` gathers the gaps of each segment. The loop's invariant: `all` tells whether a gap of the first `s` segments has a card.
use mathlib.Core.Path.{◌≡◌, ◌∙◌}
use Prim.Native.Nat.{◌+◌, ◌-◌, ◌*◌}
use native.Mathlib.Omega.{arith}
use lib.ListN.{drop, length-take, length-drop}
use Rattle.strays.proofs.GapCards.{told_none, told_more, told-gap}
use Rattle.strays.proofs.stray.Goals as goal

pub loop-s-init : goal.loop-s-init
loop-s-init c = told_none _ _

pub together-all-requires : goal.together-all-requires
together-all-requires c =
    let l = c.loop-s in
    (c.requires.2 l.s (omega arith), omega (arith, length-take (64 * l.s + 64 - 64 * l.s) (drop (64 * l.s) c.args.cards.now), length-drop (64 * l.s) c.args.cards.now))

pub loop-s-preserved : goal.loop-s-preserved
loop-s-preserved c =
    let l = c.loop-s in
    told_more _ _ l.s _ _ l.invariant c.together-all.ensures

pub returns : goal.returns
returns c ss slots sh many each =
    let s = c.args in
    let l = c.loop-s in
    let e : s.n ≡ l.s = omega arith in
    told-gap s.cards.now s.counts.now ss slots sh l.s (many ∙ e) each l.all l.invariant
