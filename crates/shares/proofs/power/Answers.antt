-- `power` is at least 1 and at most 64.
use Rattle.std.proofs.Common.{refl, arith}
use Rattle.std.proofs.lemmas.Nat.{one_shl, pow_pos}
use native.Mathlib.Nat.{pow-le-pow_right}
use Rattle.shares.proofs.power.Goals as goal

pub returns : goal.returns
returns c =
    rw (one_shl c.args.l 64 (omega arith)) (refl, pow-le-pow_right {n = 2} (omega arith) {i = c.args.l} {j = 6} c.requires, pow_pos c.args.l)
