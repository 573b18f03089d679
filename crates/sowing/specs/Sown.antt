-- What the sweep of a planned window asks for, and the keys that it leaves.
use Rattle.std.specs.Prelude.{ℕ, ◌+◌, ◌≤◌, ◌≡◌, Bool, true, false, not, List, map, T, length, get_or}
use Rattle.lists.specs.Lists.{total}
use Rattle.slots.specs.Segments.{keys, segments_of}
use Rattle.slots.specs.Keys.{member, below}
use Rattle.slots.specs.Shown.{Shows}

-- A window that shows its segments, whose counts are these, and a plan for its keys with y, whose place is p, put in or taken out.
pub record Planted (window counts plan : List ℕ) (p y : ℕ) (grows : Bool) : Type 0 where
  pub shows : Shows (segments_of window) window
  pub counted : counts ≡ map length (segments_of window)
  pub long : length plan ≡ length counts
  pub few : length counts ≤ 64
  pub fits : (k : ℕ) → get_or plan k 0 ≤ 64
  pub place : p ≡ length (below y (keys (segments_of window)))
  pub grown : grows ≡ true → (total plan ≡ total counts + 1) × T (not (member y (keys (segments_of window))))
  pub shrunk : grows ≡ false → (total plan + 1 ≡ total counts) × T (member y (keys (segments_of window)))
