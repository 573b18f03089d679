-- spread meets its contract. Invariant: the segments from s on are laid out, the keys before them are still packed, and each slot has its card.
use mathlib.Core.Path.{◌≡◌, sym, ap, ◌∙◌}
use Prim.Native.Nat.{ℕ, ◌+◌, ◌*◌, ◌-◌, ◌<◌}
use native.Mathlib.Omega.{arith}
use lib.ListN.{get_or, take}
use lib.Seq.{take-length}
use Rattle.gaps.proofs.Natural.{cleared-kept}
use Rattle.lists.specs.Lists.{total}
use Rattle.spreads.specs.Newcomers.{entered}
use Rattle.spreads.proofs.Inserting.{laid_in}
use Rattle.spreads.proofs.Packing.{total-bound, total-all, total-pred}
use Rattle.spreads.proofs.Laying.{Laid, laid_none, laid-all}
use Rattle.spreads.proofs.spread.Goals as goal

pub loop-s-init : goal.loop-s-init
loop-s-init c =
    let cs = c.args.counts.now in
    (sym c.requires.counts_value.0 ∙ ap total (sym (take-length cs)), omega arith, laid_none 0 cs _ _ c.args.m c.requires.window_len, λ f z k h. h)

pub overflow_sub-at : goal.overflow_sub-at
overflow_sub-at c = omega (arith, total-pred c.args.counts.now c.loop-s.s (omega arith) (omega arith))

pub lay-requires-clause-at_le_to : goal.lay-requires-clause-at_le_to
lay-requires-clause-at_le_to c =
    let cs = c.args.counts.now in
    let s = c.loop-s.s in
    let fits = c.requires.by_index in omega (arith, total-pred cs s (omega arith) (omega arith), total-bound cs (s - 1) fits, fits (s - 1))

pub loop-s-preserved : goal.loop-s-preserved
loop-s-preserved c =
    let a = c.args in
    let cs = a.counts.now in
    let loop = c.loop-s in
    let inv = loop.invariant in
    let lays = c.lay.ensures in
    let clears = c.clear.ensures in
    let t = loop.s - 1 in
    let h : 0 < loop.s = omega arith in (
      omega (arith, total-pred cs loop.s h (omega arith)),
      omega arith,
      laid_in a.newcomer cs a.window.now loop.window _ _ a.m loop.s loop.at
          (record { some = h; up_to = omega arith; long = c.requires.window_len; fits = c.requires.by_index; sum = inv.0; held = inv.1; room = omega (arith, total-all cs c.requires.by_index); among = c.requires.counts_value.1 }) inv.2
          lays.keys clears.slots,
      λ f z k e. cleared-kept f _ (lays.cards f k (inv.3 f z k e)) (64 * t + get_or cs t 0) (64 * t + 64) 0 0 z clears.slots clears.cards,
    )

pub returns-clause-keys : goal.returns-clause-keys
returns-clause-keys c =
    let a = c.args in
    let inv = c.loop-s.invariant in
    let e : c.loop-s.s ≡ 0 = omega arith in
    let e₀ : c.loop-s.at ≡ 0 = inv.0 ∙ ap (λ (n : ℕ). total (take n a.counts.now)) e in
    let ks = take a.m (entered a.newcomer a.window.now) in
    inv.2
    ∙ ap (λ (n : ℕ). Laid 0 a.counts.now ks a.window.now n c.loop-s.at) e
    ∙ ap (λ (n : ℕ). Laid 0 a.counts.now ks a.window.now 0 n) e₀
    ∙ laid-all 0 a.counts.now ks a.window.now
