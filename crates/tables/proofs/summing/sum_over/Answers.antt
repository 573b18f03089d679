-- `sum_over` makes the table right. Invariant: what is still to be summed stands over entries a to z, of one level.
use mathlib.Core.Path.{◌≡◌, refl, ◌∙◌}
use Prim.Native.Nat.{◌+◌, ◌-◌, ◌/◌}
use native.Mathlib.Omega.{arith}
use Rattle.tables.specs.Tree.{Resummed}
use Rattle.tables.proofs.RightTables.{sums-table}
use Rattle.tables.proofs.Resums.{standing-up, rising-start, rising-small, rising-more, rising-sums, rising-first}
use Rattle.tables.proofs.summing.sum_over.Goals as goal

pub loop-z-init : goal.loop-z-init
loop-z-init c =
    let a = c.args in
    (refl, omega arith, omega arith, rising-start a.n a.first a.last a.table.now c.requires.0 c.requires.1 c.requires.2)

pub sum_level-requires : goal.sum_level-requires
sum_level-requires c =
    let L = c.loop-z in
    let R = L.invariant.3 in
    let P = c.requires.0 in
    let d : c.args.n + L.z / 2 - c.args.n ≡ L.z / 2 = omega arith in
    let u = standing-up c.args.n L.a L.z R.standing (omega arith) in
    (omega arith, omega arith, rw d u.2, omega arith, omega (arith, P.long), rising-small c.args.n c.args.first c.args.last c.args.table.now L.table L.a L.z R P.low)

pub loop-z-preserved : goal.loop-z-preserved
loop-z-preserved c =
    let a = c.args in
    let L = c.loop-z in
    let f = c.sum_level in
    let r : Resummed a.n (a.n + L.a / 2) (a.n + L.z / 2) L.table f.new.table = f.ensures in
    (r.long ∙ L.invariant.0, omega arith, omega arith, rising-more a.n a.first a.last a.table.now L.table L.a L.z L.invariant.3 f.new.table (omega arith) r)

pub returns : goal.returns
returns c =
    let a = c.args in
    let L = c.loop-z in
    let P = c.requires.0 in
    let R = L.invariant.3 in
    λ h ss p e b f.
    sums-table h ss a.n p e L.table (rising-sums a.n a.first a.last a.table.now L.table L.a L.z R (omega arith) b)
    (rising-first a.n a.first a.last a.table.now L.table L.a L.z R (omega (arith, P.long)) ∙ f) (omega (arith, P.long))
