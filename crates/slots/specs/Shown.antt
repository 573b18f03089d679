-- What it is for slots to show segments, as the promises of searches and counts say it.
use Rattle.std.specs.Prelude.{ℕ, ◌/◌, ◌≤◌, ◌<◌, ◌≡◌, List, [], ◌++◌, map, T, length, take, drop, get_or, if◌then◌else◌, Result, Ok, Err}
use Rattle.lists.specs.Lists.{All, total, splice}
use Rattle.slots.specs.declared.Disorder.{Disorder}
use Rattle.slots.specs.declared.Place.{Place}
use Rattle.slots.specs.Segments.{Segments, keys, live, render, segments_of}
use Rattle.slots.specs.Keys.{Listed, member, below, predecessor, segment_of}
use Rattle.slots.specs.Orders.{order_of, is_kept}

-- The slots show these segments: none over 64 keys, and keys rising strictly from 1 up.
pub record Shows (ss : Segments) (slots : List ℕ) : Type 0 where
  pub whole : slots ≡ render 0 ss
  pub fits : All (λ s. length s ≤ 64) ss
  pub listed : Listed ss

-- Where a search for y ends: the segment of y, or of its predecessor where y is not live.
unfoldable pub seat : ℕ → Segments → ℕ
seat y ss = if member y (keys ss) then segment_of ss y else segment_of ss (predecessor y ss)

-- Where it ends, with the number of keys there, how many of them are below y, and whether y is live.
pub record Located (y : ℕ) (ss : Segments) (r : Place) : Type 0 where
  pub segment : r.segment ≡ seat y ss
  pub held : r.held ≡ length (get_or ss (seat y ss) [])
  pub at : r.at ≡ length (below y (get_or ss (seat y ss) []))
  pub present : r.present ≡ member y (keys ss)

-- Each segment has its number of keys in its place; the table may be longer.
abbrev pub CountsOf : Segments → List ℕ → Type 0
CountsOf ss counts = (k : ℕ) → k < length ss → get_or counts k 0 ≡ length (get_or ss k [])

-- The counts of the n segments from first on, r keys in all, written to their places.
pub record Counted (ss : Segments) (first n : ℕ) (counts : List ℕ) (r : ℕ) (counts' : List ℕ) : Type 0 where
  pub sum : r ≡ total (map length (take n (drop first ss)))
  pub places : counts' ≡ splice first n (map length (take n (drop first ss))) counts

-- What a reading of any slots finds: the first slot that breaks the order, and the number of keys where none does.
abbrev pub Reads : List ℕ → Result ℕ Disorder → Type 0
Reads slots (Err d) = order_of slots ≡ Err d
Reads slots (Ok n) = (order_of slots ≡ Ok tt) × (n ≡ length (live slots)) × (n ≤ length slots)

-- Where the order is kept, the number of keys of each segment is in its place; the other places are as they were.
pub record Tallied (slots counts counts' : List ℕ) : Type 0 where
  pub long : length counts' ≡ length counts
  pub places : T (is_kept (order_of slots)) → counts' ≡ map length (segments_of slots) ++ drop (length slots / 64) counts
