-- Every place of a list cleared.
use mathlib.Core.Path.{◌≡◌}
use mathlib.Core.List.{List, append-nil}
use Prim.Native.Nat.{ℕ}
use native.Mathlib.Nat.{sub-zero}
use lib.ListN.{length, replicate}
use lib.Seq.{drop-length}
use Rattle.gaps.specs.Gaps.{cleared}

pub all-cleared : (l : List ℕ) → cleared 0 (length l) 0 l ≡ replicate (length l) 0
all-cleared l = rw (sub-zero, drop-length) (append-nil (replicate (length l) 0))
