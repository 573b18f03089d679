-- `forecast::Forecast::retarget` meets its contract: the cells below i name their markers' segments already.
use mathlib.Core.Path.{refl}
use native.Mathlib.Omega.{arith}
use Rattle.slots.specs.Keys.{segment_of}
use Rattle.forecast.proofs.Stepping.{segments-row}
use Rattle.forecast.proofs.Forecast.retarget.Answers.Lemmas.{tidy-aimed, marked, unaimed, aim-more, aimed-all}
use Rattle.forecast.proofs.Forecast.retarget.Goals as goal
pub mod Lemmas

pub loop-i-init : goal.loop-i-init
loop-i-init c = (refl, c.requires.tidy, refl, refl, λ ss ls some few bs lv el. segments-row c.args.self c.requires.tidy)

pub loop-i-preserved : goal.loop-i-preserved
loop-i-preserved c =
    let f = c.args.self in
    let t = c.requires.tidy in
    let i = c.loop-i.i in
    let g = c.loop-i.self in
    let inv = c.loop-i.invariant in (
      inv.0,
      tidy-aimed g inv.1 i _ (omega arith),
      inv.2,
      inv.3,
      λ ss ls some few bs lv el.
          let e = inv.4 ss ls some few bs lv el in
          aim-more f t (segment_of ss) i (omega arith) g inv.2 e _
          (c.aim.ensures ss ls few bs (marked f t ss lv i (omega arith) g inv.2) (unaimed f t ss _ _ el i (omega arith) g inv.2 e)),
    )

pub returns : goal.returns
returns c =
    let inv = c.loop-i.invariant in
    (inv.1, λ ss ls some few bs lv el. aimed-all c.args.self c.requires.tidy (segment_of ss) c.loop-i.i (omega arith) c.loop-i.self inv.0 inv.2 inv.3 (inv.4 ss ls some few bs lv el))
