-- `card_of` reads the card of a record from its bytes 11 to 14.
use mathlib.Core.Path.{◌∙◌}
use Rattle.records.proofs.KeyBytes.{card-read}
use Rattle.records.proofs.card_of.Goals as goal

pub returns : goal.returns
returns c = c.from_be_bytes.ensures ∙ card-read c.args.bytes.now c.requires
