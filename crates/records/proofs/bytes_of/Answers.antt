-- `bytes_of` writes a request's record: its bytes, read high byte first, are the key and the card.
use mathlib.Core.Path.{◌≡◌, sym, ap, ◌∙◌}
use native.Mathlib.Omega.{arith}
use Rattle.records.proofs.RecordBytes.{kind_of, one-record}
use Rattle.records.proofs.bytes_of.Goals as goal
use Rattle.records.proofs.bytes_of.Goals.{Joined-grows}

-- where the two arms meet
kind-is : (j : Joined-grows) → j.if-grows.kind ≡ kind_of j.args.grows
kind-is j =
    elim j.if-grows.branch [
      | goal.then-grows t ↦ t.kind-is ∙ sym (ap kind_of t.if-grows.true)
      | goal.else-grows t ↦ t.kind-is ∙ sym (ap kind_of t.if-grows.false)
    ]

pub returns : goal.returns
returns c =
    rw (kind-is (goal.at.returns c).Joined-grows, c.to_be_bytes-k.ensures, c.to_be_bytes-c.ensures)
    (one-record c.args.grows c.args.key c.args.card (omega arith) (omega arith))
