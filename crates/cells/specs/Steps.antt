-- Document 01, "The forecast": what an insert notes, what a delete drops, and where cells aim.
use Rattle.std.specs.Prelude.{ℕ, ◌+◌, ◌-◌, List, ◌∷◌, map, leb, ltb, eqb, length, take, get_or, set, if◌then◌else◌}
use Rattle.lists.specs.Lists.{without}
use Rattle.cells.specs.declared.Cell.{Cell}
use Rattle.cells.specs.Cells.{cell, zero_cell, with_count, cell_at}

-- The cell at i: count plus one, then it changes places with its neighbour toward the head, if any.
unfoldable pub raised : ℕ → List Cell → List Cell
raised i cs =
    let c = get_or cs i zero_cell in
    let more = with_count (c.count + 1) c in
    if eqb i 0 then set cs i more else set (set cs i (get_or cs (i - 1) zero_cell)) (i - 1) more

-- The tail's count drops by one; a count that reaches 0 removes its cell.
unfoldable pub tailed : List Cell → List Cell
tailed cs =
    let t = length cs - 1 in
    let c = get_or cs t zero_cell in
    if leb c.count 1 then take t cs else set cs t (with_count (c.count - 1) c)

-- An insert notes its predecessor x, which is in segment s.
unfoldable pub noted : ℕ → ℕ → ℕ → List Cell → List Cell
noted P x s cs =
    let i = cell_at x cs in
    if ltb i (length cs)
    then (if ltb (get_or cs i zero_cell).count P then raised i cs else tailed cs)
    else (if ltb (length cs) P then cell x s 1 ∷ cs else tailed cs)

-- Deleting a marker removes its cell and the others close up.
unfoldable pub dropped : ℕ → List Cell → List Cell
dropped x cs = without (cell_at x cs) cs

-- Every cell names its marker's actual segment, as `place` gives it.
abbrev pub aimed : (ℕ → ℕ) → Cell → Cell
aimed place c = cell c.marker (place c.marker) c.count

unfoldable pub retargeted : (ℕ → ℕ) → List Cell → List Cell
retargeted place = map (aimed place)
