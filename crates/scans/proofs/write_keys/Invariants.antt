-- `write_keys` writes the keys from a place on, and their cards, until an output is full or they end. The loop's invariant: `w` keys are written, and those
-- left are those from key `from` of segment `s` on; the same of their cards.
use mathlib.Core.Path.{◌≡◌}
use mathlib.Core.List.{[], map}
use Prim.Native.Nat.{ℕ, ◌/◌, ◌≤◌, ◌<◌}
use lib.ListN.{length, get_or}
use Rattle.slots.specs.Segments.{Segments}
use Rattle.slots.specs.Shown.{Shows}
use Rattle.scans.specs.Scans.{keys_from}
use Rattle.scans.proofs.Pages.{Halfway}
use Rattle.scans.proofs.Stretches.{Counted}
use Rattle.scans.proofs.write_keys.Given as goal

abbrev pub invariant-loop-s : goal.invariant-loop-s
invariant-loop-s l =
    (l.w ≤ l.room) × (l.s < length l.list / 64 → l.from ≤ get_or l.counts l.s 0)
    × ((ss : Segments) → Shows ss l.list → Counted l.counts ss → Halfway (keys_from l.first l.at ss) l.initial.output l.output l.w [] (keys_from l.s l.from ss))
    × ((f : ℕ → ℕ) (ss : Segments) → Shows ss l.list → Counted l.counts ss → l.cards ≡ map f l.list
    → Halfway (map f (keys_from l.first l.at ss)) l.initial.output_cards l.output_cards l.w [] (map f (keys_from l.s l.from ss)))
