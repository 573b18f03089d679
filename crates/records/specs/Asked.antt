-- The request that puts a key in, or takes it out, as a record: its bytes and its card.
use Rattle.std.specs.Prelude.{ℕ, Bool, true, false, List, ltb, length, if◌then◌else◌}
use Rattle.rules.specs.declared.Request.{Request}
use Rattle.rules.specs.declared.Request.TheVariants.{Insert, Delete, Bad}
use Rattle.rules.specs.declared.Record.{Record}
use Rattle.rules.specs.Runs.{asking, key_of, card_of}

abbrev pub asked : Bool → ℕ → Request
asked true y = Insert y
asked false y = Delete y

-- An insert is written as kind 4, with its card; a delete has none.
abbrev pub size_for : Bool → ℕ
size_for true = 15
size_for false = 11

abbrev pub card_for : Bool → ℕ → ℕ
card_for true v = v
card_for false v = 0

-- What bytes with the marks and kind 4 are.
abbrev pub carrying : List ℕ → Record
carrying bs = if ltb (length bs) 15 then asking Bad 0 11 else asking (Insert (key_of bs)) (card_of bs) 15
