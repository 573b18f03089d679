-- What a climb reads, and what it finds: the window to sweep, by its level, and its keys.
use Rattle.std.specs.Prelude.{ℕ, ◌^◌, ◌≤◌, ◌≡◌, List, [], length, get_or, Option, None, Some}
use Rattle.std.proofs.Math.Option.{none, some}
use Rattle.slots.specs.Segments.{Segments, keys}
use Rattle.slots.specs.Windows.{count}
use Rattle.levels.specs.Tables.{table_of}
use Rattle.rules.specs.Shares.{Shares}
use Rattle.rules.specs.Placing.{chosen}
use Rattle.climbs.specs.declared.Climb.{Climb}

-- The table of 2^h segments, of which segment s has so many keys or more.
pub record Tabled (h s gone : ℕ) (table : List ℕ) : Type 0 where
  pub segments : Segments
  pub size : length segments ≡ 2 ^ h
  pub few : length (keys segments) ≤ 4096
  pub right : table ≡ table_of h segments
  pub there : gone ≤ length (get_or segments s [])

-- ms are the segments with the request done in segment s: the window that is chosen of them, with its keys, or none.
abbrev pub Climbed : Shares → ℕ → Segments → Option Climb → Type 0
Climbed S s ms None = chosen S s ms ≡ none
Climbed S s ms (Some c) = (chosen S s ms ≡ some c.level) × (c.keys ≡ count c.level s ms)
