-- The words of a reply beyond those listed stay.
use Prim.Native.Nat.{ℕ}
use mathlib.Core.Path.{◌≡◌, refl}
use mathlib.Core.List.{List}
use lib.ListN.{length, drop}
use lib.Seq.{drop_at}
use Rattle.given.specs.Calls.{over}

pub beyond : (ws reply : List ℕ) → drop (length ws) (over ws reply) ≡ drop (length ws) reply
beyond ws reply = drop_at ws (drop (length ws) reply) (length ws) refl
