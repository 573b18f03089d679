-- `with_card` reads a record of kind 4, which has 15 bytes.
use mathlib.Core.Path.{ap₂}
use borrow.Author.Tests.{le-ltb, lt-ltb}
use Rattle.rules.specs.declared.Record.{Record}
use Rattle.rules.specs.declared.Request.TheVariants.{Insert}
use Rattle.rules.specs.Runs.{asking}
use Rattle.records.proofs.with_card.Goals as goal

pub returns-then-bytes-lt15 : goal.returns-then-bytes-lt15
returns-then-bytes-lt15 c = rw (lt-ltb _ _ c.if-bytes-lt15.true) c.bad.ensures

pub returns : goal.returns
returns c =
    rw (le-ltb _ _ c.if-bytes-lt15.false)
    (ap₂ {C = Record} (λ k v. asking (Insert k) v 15) c.key_of.ensures c.card_of.ensures)
