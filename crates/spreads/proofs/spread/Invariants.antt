-- spread meets its contract. Invariant: the segments from s on are laid out, the keys before them are still packed, and each slot has its card.
use mathlib.Core.Path.{◌≡◌}
use Prim.Native.Nat.{ℕ, ◌≤◌}
use mathlib.Core.List.{map}
use lib.ListN.{take}
use Rattle.lists.specs.Lists.{total}
use Rattle.spreads.specs.Newcomers.{entered, Carded}
use Rattle.spreads.proofs.Laying.{Laid}
use Rattle.spreads.proofs.spread.Given as goal

abbrev pub invariant-loop-s : goal.invariant-loop-s
invariant-loop-s l =
    (l.at ≡ total (take l.s l.counts)) × (l.at ≤ l.m)
    × (l.window ≡ Laid 0 l.counts (take l.m (entered l.newcomer l.initial.window)) l.initial.window l.s l.at)
    × ((f : ℕ → ℕ) → f 0 ≡ 0 → Carded f l.newcomer → l.initial.cards ≡ map f l.initial.window → l.cards ≡ map f l.window)
