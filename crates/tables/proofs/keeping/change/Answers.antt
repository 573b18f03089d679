-- `change` changes each entry from the segment's to the root. Invariant: those of the walk before e are changed.
use Rattle.std.proofs.Common.{◌≡◌, get_or, arith}
use Rattle.levels.proofs.Tables.{table-changed}
use Rattle.tables.proofs.Walking.{walked_start, walked_more, walked_end, walked-few, walked-least}
use Rattle.tables.proofs.keeping.change.Goals as goal

pub loop-e-init : goal.loop-e-init
loop-e-init g c = λ S. walked_start g.to c.args.n c.args.s S.sized.height S.sized.size c.requires.1.0.1 c.args.table.now

pub f-requires : goal.f-requires
f-requires g c =
    let a = c.args in
    let L = c.loop-e in
    let S = c.requires.1.0.0 in
    let w = L.invariant S in
    c.requires.1.1.0 _
    (walked-least g.to a.n a.s a.table.now L.table L.e S c.requires.1.0.1 w (omega (arith, S.sized.long)))
    (walked-few g.to a.n a.s a.table.now L.table L.e S c.requires.1.0.1 w)

pub loop-e-preserved : goal.loop-e-preserved
loop-e-preserved g c =
    let a = c.args in
    let L = c.loop-e in
    λ S.
    let w = L.invariant S in
    let is : c.f.result ≡ g.to (get_or L.table L.e 0) = c.requires.1.1.1 _ _ (walked-few g.to a.n a.s a.table.now L.table L.e S c.requires.1.0.1 w) c.f.ensures in
    rw is (walked_more g.to a.n a.s S.sized.height S.sized.size c.requires.1.0.1 a.table.now L.table L.e w (omega (arith, S.sized.long)))

pub returns : goal.returns
returns g c =
    let a = c.args in
    let L = c.loop-e in
    let S = c.requires.1.0.0 in
    let P = S.sized in
    let d = walked_end g.to a.n a.s P.height P.size c.requires.1.0.1 a.table.now L.table L.e (L.invariant S) (omega (arith, P.long)) in
    λ h ss new q e t v m. table-changed g.to h P.height a.n a.s ss new a.table.now L.table P.size q c.requires.1.0.1 e t m v d
