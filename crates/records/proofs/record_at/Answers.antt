-- `record_at` reads the record that the bytes from a place on begin with.
use mathlib.Core.Path.{◌≡◌, ap, ◌∙◌}
use mathlib.Core.List.{List}
use Prim.Native.Nat.{ℕ, ◌-◌}
use native.Mathlib.Omega.{arith}
use lib.ListN.{length, take, drop, length-drop}
use lib.Seq.{take_all}
use Rattle.rules.specs.Runs.{record_of}
use Rattle.records.proofs.record_at.Goals as goal

-- the part from a place to the end
part-all : (p : ℕ) (l : List ℕ) → take (length l - p) (drop p l) ≡ drop p l
part-all p l = take_all (length l - p) (drop p l) (omega (arith, length-drop p l))

pub returns : goal.returns
returns c = c.record_of.ensures ∙ ap record_of (part-all c.args.place c.args.bytes.now)
