-- pack meets its contract. Invariant: the keys of the first s segments stand in front, all slots after them are as they were, and each has its card.
use mathlib.Core.Path.{refl}
use Prim.Native.Nat.{◌*◌, ◌≤◌, ◌<◌}
use native.Mathlib.Numerals.{add-one}
use native.Mathlib.Omega.{arith}
use lib.ListN.{length, get_or}
use Rattle.lists.proofs.Joined.{total-suc}
use Rattle.moves.specs.Moves.{gather}
use Rattle.gaps.proofs.Natural.{moved-kept}
use Rattle.spreads.proofs.Packing.{pack-step, gather-length-suc}
use Rattle.spreads.proofs.pack.Goals as goal

pub loop-s-init : goal.loop-s-init
unfolding gather
loop-s-init c = (omega arith, refl, refl, refl, λ f h. h)

pub loop-s-preserved : goal.loop-s-preserved
loop-s-preserved c =
    let cs = c.args.counts.now in
    let l = c.args.window.now in
    let loop = c.loop-s in
    let inv = loop.invariant in
    let moves = c.move_left.ensures in
    let small : get_or cs loop.s 0 ≤ 64 = c.requires.by_index loop.s in
    let h : loop.s < length cs = omega arith in
    rw (add-one loop.s) (
      omega arith,
      omega (arith, total-suc cs loop.s h),
      gather-length-suc cs l loop.s loop.at h small c.requires.window_len inv.2,
      pack-step cs l loop.window _ loop.s loop.at h inv.0 inv.2 inv.3 moves.slots,
      λ f k. moved-kept f loop.window (inv.4 f k) (64 * loop.s) loop.at (get_or cs loop.s 0) moves.slots moves.cards,
    )
