-- Slots in segments of 64: the keys of a segment stand first, gaps follow. z is a gap.
use Rattle.std.specs.Prelude.{List, map}
use Rattle.lists.specs.Lists.{joined, padded}

module _ {A : Type 0} where
  abbrev pub pad : A → List A → List A
  pad z = padded 64 z

  unfoldable pub render : A → List (List A) → List A
  render z ss = joined (map (pad z) ss)
