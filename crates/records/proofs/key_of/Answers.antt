-- `key_of` reads the key of a record from its bytes 3 to 10.
use mathlib.Core.Path.{◌∙◌}
use Rattle.records.proofs.KeyBytes.{key-read}
use Rattle.records.proofs.key_of.Goals as goal

pub returns : goal.returns
returns c = c.from_be_bytes.ensures ∙ key-read c.args.bytes.now c.requires
