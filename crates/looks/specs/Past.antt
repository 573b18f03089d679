-- Where the keys above a key begin.
use Rattle.std.specs.Prelude.{ℕ, ◌≤◌, ◌≡◌, [], length, get_or}
use Rattle.slots.specs.Segments.{Segments, keys}
use Rattle.slots.specs.Keys.{above}
use Rattle.scans.specs.Scans.{keys_from}

-- After the first n keys of segment s.
pub record Past (y : ℕ) (ss : Segments) (s n : ℕ) : Type 0 where
  pub few : n ≤ length (get_or ss s [])
  pub rest : above y (keys ss) ≡ keys_from s n ss
