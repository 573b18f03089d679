-- `record_of` reads the record that the bytes begin with: a return for each test.
use mathlib.Core.Path.{sym, ap, ◌∙◌}
use native.Mathlib.Omega.{arith}
use Rattle.rules.specs.declared.Record.{Record}
use Rattle.rules.specs.declared.Request.TheVariants.{Insert, Delete}
use Rattle.rules.specs.Runs.{asking}
use Rattle.records.proofs.Reading as reading
use Rattle.records.proofs.record_of.Goals as goal

pub returns-then-bytes-lt11 : goal.returns-then-bytes-lt11
returns-then-bytes-lt11 c = c.bad.ensures ∙ sym (reading.too_short _ c.if-bytes-lt11.true)

pub returns-then-bytes : goal.returns-then-bytes
returns-then-bytes c = c.bad-then-bytes.ensures ∙ sym (reading.first-wrong _ c.if-bytes-lt11.false c.if-bytes.true)

pub returns-then-bytes-ne90 : goal.returns-then-bytes-ne90
returns-then-bytes-ne90 c = c.bad-then-bytes-ne90.ensures ∙ sym (reading.second-wrong _ c.if-bytes-lt11.false c.if-bytes.false c.if-bytes-ne90.true)

pub returns-in-1 : goal.returns-in-1
returns-in-1 c =
    ap {B = Record} (λ k. asking (Insert k) 0 11) c.key_of.ensures
    ∙ sym (reading.kind-one _ c.if-bytes-lt11.false c.if-bytes.false c.if-bytes-ne90.false c.in-1.is)

pub returns-in-2 : goal.returns-in-2
returns-in-2 c =
    ap {B = Record} (λ k. asking (Delete k) 0 11) c.key_of-in-2.ensures
    ∙ sym (reading.kind-two _ c.if-bytes-lt11.false c.if-bytes.false c.if-bytes-ne90.false c.in-2.is)

pub returns-in-4 : goal.returns-in-4
returns-in-4 c = c.with_card.ensures ∙ sym (reading.kind-four _ c.if-bytes-lt11.false c.if-bytes.false c.if-bytes-ne90.false c.in-4.is)

pub returns-in_default : goal.returns-in_default
returns-in_default c = c.bad-in_default.ensures ∙ sym (reading.kind-else _ c.if-bytes-lt11.false c.if-bytes.false c.if-bytes-ne90.false (omega arith) (omega arith) (omega arith))
