-- `bound` writes the bounds of a list: none at first, then all of its segments'.
use mathlib.Core.Path.{sym, ap}
use Prim.Native.Nat.{◌/◌}
use native.Mathlib.Omega.{arith}
use lib.ListN.{length}
use Rattle.slots.proofs.Render.{length-render}
use Rattle.seats.proofs.Bounds.{bounded-is, bound-past}
use Rattle.bounding.proofs.Rewritten.{near-blank, near-all}
use Rattle.bounding.proofs.bound.Goals as goal

pub returns : goal.returns
returns c ss sh =
    let a = c.args in
    let n = near-blank a.list.now ss sh a.bounds.now c.requires.list_len_bound.1 c.requires.by_index in
    let past = bound-past ss (length a.list.now / 64) (omega (arith, ap length sh.whole, length-render 0 ss sh.fits)) in
    bounded-is ss _ (near-all 0 ss 0 _ (c.rebound_from.ensures 0 ss sh n (sym past)).0)
