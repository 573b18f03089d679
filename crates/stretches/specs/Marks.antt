-- The weights of a window's keys, by the places of the few that weigh.
use Rattle.std.specs.Prelude.{ℕ, ◌+◌, ◌≤◌, ◌<◌, ◌≡◌, List, [], ◌∷◌, map, ltb, length, take, if◌then◌else◌}
use Rattle.lists.specs.Lists.{All, total}
use Rattle.slots.specs.Keys.{Rising}
use Rattle.stretches.specs.declared.Mark.{Mark}

-- The places of marks, and their weights.
abbrev pub places_of : List Mark → List ℕ
places_of ms = map (λ m. m.place) ms

abbrev pub weights_of : List Mark → List ℕ
weights_of ms = map (λ m. m.weight) ms

-- What the places below i weigh.
abbrev pub weight_below : List ℕ → List ℕ → ℕ → ℕ
weight_below [] ws i = 0
weight_below (p ∷ ps) [] i = 0
weight_below (p ∷ ps) (w ∷ ws) i = (if ltb p i then w else 0) + weight_below ps ws i

-- ws are the weights of the keys of a window; the few that are not 0 stand at these places, rising.
pub record Marked (ws at weights : List ℕ) : Type 0 where
  pub same : length at ≡ length weights
  pub few : length at ≤ 12
  pub rising : Rising at
  pub inside : All (λ p. p < length ws) at
  pub small : All (λ w. w ≤ 12) weights
  pub totals : (i : ℕ) → total (take i ws) ≡ weight_below at weights i
