-- `ask` works the request's record on what is lent, with an allowance that it cannot pass.
use mathlib.Core.Path.{◌≡◌, sym, ap, ◌∙◌, subst}
use Prim.Native.Nat.{ℕ}
use native.Mathlib.Omega.{arith}
use lib.ListN.{length, take}
use lib.Seq.{length-take-le}
use Rattle.forecast.specs.Tidy.{Roomy}
use Rattle.rules.specs.Lent.{lend}
use Rattle.rules.specs.Runs.{records_of}
use Rattle.asking.specs.Requested.{TellsSparse}
use Rattle.asking.proofs.OneRecord.{requested}
use borrow.Author.Rules.{rules}
use Rattle.asking.proofs.ask.Goals as goal
use Rattle.asking.proofs.ask.Goals.{Start}

pub slice_bounds-work_lent-end : goal.slice_bounds-work_lent-end
slice_bounds-work_lent-end c = sym (length-take-le _ _ (search rules))

roomy : (s : Start) → Roomy s.args.forecast
roomy s = record { markers = search rules; segments = search rules; counts = search rules }

pub returns : goal.returns
returns c =
    let worked = c.work_lent-worked.result in
    let long : length c.work_lent-worked.new.list ≡ length c.args.list.now = search rules in
    let t = subst (λ (n : ℕ). TellsSparse c.args.profile c.args.grows worked.last worked.keys n c.is_sparse-sparse.result) long c.is_sparse-sparse.ensures in
    let one = ap (λ (n : ℕ). records_of (take n c.bytes_of-bytes.result)) c.size_of-n.ensures.0 ∙ c.bytes_of-bytes.ensures in
    requested c.args.profile c.args.grows c.args.key c.args.card (lend c.args.list.now c.args.cards.now c.args.table.now) c.args.forecast _ _ worked _ c.is_sparse-sparse.result t one (omega arith) (roomy (goal.at.returns c).Start) c.work_lent-worked.ensures
