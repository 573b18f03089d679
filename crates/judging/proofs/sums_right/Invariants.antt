-- `sums_right` tells whether each entry above level 0 is the sum of its halves. Invariant: those below n + i are, so that the next two
-- halves have at most all keys between them.
use mathlib.Core.Path.{◌≡◌}
use Prim.Native.Nat.{ℕ, ◌+◌, ◌*◌, ◌≤◌, ◌<◌}
use lib.ListN.{get_or}
use Rattle.judging.proofs.Judged.{front}
use Rattle.judging.proofs.sums_right.Given as goal

abbrev pub invariant-loop-i : goal.invariant-loop-i
invariant-loop-i l = ((j : ℕ) → j < l.i → get_or l.table (l.n + j) 0 ≡ get_or l.table (2 * j) 0 + get_or l.table (2 * j + 1) 0) × (front l.n l.i l.table ≤ 4096)
