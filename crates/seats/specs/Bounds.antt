-- A number for each of 64 segments, by which a key's segment is found: one less than the first key from the segment on.
use Rattle.std.specs.Prelude.{ℕ, zero, suc, ◌-◌, ◌^◌, ◌≤◌, ◌<◌, ◌≡◌, ◌≢◌, List, [], ◌∷◌, eqb, length, drop, get_or, if◌then◌else◌}
use Rattle.slots.specs.Segments.{Segments, keys}
use Rattle.slots.specs.Shown.{Shows}
use Rattle.levels.specs.Tables.{table_of}

-- The largest number a slot holds: below no key.
abbrev pub top : ℕ
top = 18446744073709551615

abbrev pub first_bound : List ℕ → ℕ
first_bound [] = top
first_bound (k ∷ ks) = k - 1

-- One less than the first key in the segments from s on; the largest number where there is none.
unfoldable pub bound_at : Segments → ℕ → ℕ
bound_at ss s = first_bound (keys (drop s ss))

abbrev pub bounds_from : ℕ → Segments → List ℕ
bounds_from zero ss = []
bounds_from (suc n) ss = first_bound (keys ss) ∷ bounds_from n (drop 1 ss)

-- The 64 bounds of a list's segments.
unfoldable pub bounds_of : Segments → List ℕ
bounds_of ss = bounds_from 64 ss

-- The bound of a segment by its first slot and the bound of the next.
abbrev pub bound_by : ℕ → ℕ → ℕ
bound_by head later = if eqb head 0 then later else head - 1

-- These are the bounds of ss from place m on: from 0, or from 1, which is all that a search reads.
pub record Bounded (m : ℕ) (ss : Segments) (bounds : List ℕ) : Type 0 where
  pub long : length bounds ≡ 64
  pub each : (k : ℕ) → m ≤ k → k < 64 → get_or bounds k 0 ≡ bound_at ss k

-- They are, but for the segments from a up to e and the empty ones before them.
pub record Near (m : ℕ) (ss : Segments) (a e : ℕ) (bounds : List ℕ) : Type 0 where
  pub long : length bounds ≡ 64
  pub after : (k : ℕ) → m ≤ k → e ≤ k → k < 64 → get_or bounds k 0 ≡ bound_at ss k
  pub before : (k j : ℕ) → m ≤ k → k < 64 → k ≤ j → j < a → get_or ss j [] ≢ [] → get_or bounds k 0 ≡ bound_at ss k

-- What a run keeps beside the slots of its list: the bounds, and the table of counts, which is right.
pub record Indexed (ss : Segments) (slots bounds table : List ℕ) : Type 0 where
  pub shows : Shows ss slots
  pub bound : Bounded 1 ss bounds
  pub height : ℕ
  pub low : height ≤ 6
  pub size : length ss ≡ 2 ^ height
  pub right : table ≡ table_of height ss
