-- pack meets its contract. Invariant: the keys of the first s segments stand in front, all slots after them are as they were, and each has its card.
use mathlib.Core.Path.{◌≡◌}
use Prim.Native.Nat.{ℕ, ◌*◌, ◌≤◌}
use mathlib.Core.List.{◌++◌, map}
use lib.ListN.{length, take, drop}
use Rattle.lists.specs.Lists.{total}
use Rattle.moves.specs.Moves.{gather}
use Rattle.spreads.proofs.pack.Given as goal

abbrev pub invariant-loop-s : goal.invariant-loop-s
invariant-loop-s l =
    (l.at ≤ 64 * l.s) × (l.at ≡ total (take l.s l.counts)) × (length (gather (take l.s l.counts) l.initial.window) ≡ l.at)
    × (l.window ≡ gather (take l.s l.counts) l.initial.window ++ drop l.at l.initial.window)
    × ((f : ℕ → ℕ) → l.initial.cards ≡ map f l.initial.window → l.cards ≡ map f l.window)
