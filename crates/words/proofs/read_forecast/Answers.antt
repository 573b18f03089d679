-- `words::read_forecast` meets its contract: the rows below i are those of the words.
use Prim.Native.Nat.{◌≤◌}
use mathlib.Core.Path.{refl, sym, ◌∙◌}
use mathlib.Core.List.{map-map}
use native.Mathlib.Omega.{arith}
use lib.ListN.{drop}
use Rattle.forecast.proofs.Stepping.{tidy-roomy}
use Rattle.words.specs.Words.{capped, cells_in}
use Rattle.words.proofs.Capped.{capped_small}
use Rattle.words.proofs.ForecastLoops.{read-turn, read-end}
use Rattle.words.proofs.read_forecast.Invariants.{segment, count}
use Rattle.words.proofs.read_forecast.Goals as goal

pub loop-i-init : goal.loop-i-init
loop-i-init c =
    let r = tidy-roomy _ c.empty-forecast.ensures.tidy in
    (record { markers = r.markers; segments = r.segments; counts = r.counts }, c.from.ensures ∙ c.narrow.ensures, refl, refl, refl)

pub loop-i-preserved : goal.loop-i-preserved
loop-i-preserved c =
    let v = c.loop-i in
    let ws = c.args.words.now in
    let z : 0 ≤ 255 = omega arith in (
      v.invariant.0,
      v.invariant.1,
      read-turn (λ c. c.marker) ws _ _ v.invariant.0.markers refl v.i (omega arith) _ refl v.invariant.2,
      read-turn segment ws _ _ v.invariant.0.segments (capped_small 0 z) v.i (omega arith) _ c.narrow-in-loop-i.ensures v.invariant.3,
      read-turn count ws _ _ v.invariant.0.counts (capped_small 0 z) v.i (omega arith) _ c.narrow-in-loop-i-2.ensures v.invariant.4,
    )

pub returns : goal.returns
returns c =
    let v = c.loop-i in
    let ws = c.args.words.now in
    let ms = read-end (λ c. c.marker) ws _ _ v.invariant.0.markers v.i (omega arith) v.invariant.2 in
    let ss = read-end segment ws _ _ v.invariant.0.segments v.i (omega arith) v.invariant.3 ∙ sym (map-map capped (λ c. c.segment) (cells_in 12 (drop 1 ws))) in
    let ns = read-end count ws _ _ v.invariant.0.counts v.i (omega arith) v.invariant.4 ∙ sym (map-map capped (λ c. c.count) (cells_in 12 (drop 1 ws))) in
    λ k. record { markers = ms k; segments = ss k; counts = ns k; used = v.invariant.1 k }
