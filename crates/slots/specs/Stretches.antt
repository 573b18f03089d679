-- What the loops under a search find, in any slots.
use Rattle.std.specs.Prelude.{ℕ, ◌+◌, ◌*◌, ◌≤◌, ◌<◌, ◌≡◌, ◌≢◌, List, length}
use Rattle.slots.specs.Orders.{slot_at}

-- Of the segments from a to mid, r is the last that begins with a key, or a.
pub record Filled (slots : List ℕ) (a mid r : ℕ) : Type 0 where
  pub from : a ≤ r
  pub to : r ≤ mid
  pub after : (k : ℕ) → r < k → k ≤ mid → slot_at slots (64 * k) ≡ 0
  pub there : a < r → slot_at slots (64 * r) ≢ 0

-- One of the 64 slots of segment s holds y.
pub record Stands (slots : List ℕ) (s y : ℕ) : Type 0 where
  pub at : ℕ
  pub from : 64 * s ≤ at
  pub to : at < 64 * s + 64
  pub inside : at < length slots
  pub there : slot_at slots at ≡ y
