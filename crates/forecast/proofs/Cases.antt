-- A computed case of cells aimed by a list's segments.
use mathlib.Core.Path.{◌≡◌, refl}
use mathlib.Core.List.{[], ◌∷◌}
use Rattle.slots.specs.Keys.{segment_of}
use Rattle.cells.specs.Cells.{cell}
use Rattle.cells.specs.Steps.{retargeted}

-- every cell names its marker's segment: key 20 has moved from segment 2 to 0
pub aims : retargeted (segment_of ((10 ∷ 20 ∷ []) ∷ (30 ∷ []) ∷ [])) (cell 20 2 3 ∷ cell 30 1 4 ∷ cell 0 0 1 ∷ []) ≡ cell 20 0 3 ∷ cell 30 1 4 ∷ cell 0 0 1 ∷ []
unfolding retargeted segment_of
aims = refl
