-- Document 01, "The forecast": at most P cells, ordered from newest (head) to oldest (tail).
use Rattle.std.specs.Prelude.{ℕ, Bool, List, [], ◌∷◌, map, eqb, get_or}
use Rattle.lists.specs.Lists.{padded}
use Rattle.lists.specs.Search.{place_by}
use Rattle.cells.specs.declared.Cell.{Cell}

-- A cell holds a marker (a live key, or 0 for the front), the segment where the marker is, and a count.
abbrev pub cell : ℕ → ℕ → ℕ → Cell
cell x s n = record { marker = x; segment = s; count = n }

abbrev pub zero_cell : Cell
zero_cell = cell 0 0 0

abbrev pub with_count : ℕ → Cell → Cell
with_count n c = cell c.marker c.segment n

-- The cells of a row of markers, one of segments and one of counts.
abbrev pub zip3 : List ℕ → List ℕ → List ℕ → List Cell
zip3 [] ss ns = []
zip3 (x ∷ xs) [] ns = []
zip3 (x ∷ xs) (s ∷ ss) [] = []
zip3 (x ∷ xs) (s ∷ ss) (n ∷ ns) = cell x s n ∷ zip3 xs ss ns

-- One field of the cells, in a row of 12 with zeros after them.
abbrev pub row : (Cell → ℕ) → List Cell → List ℕ
row f cs = padded 12 0 (map f cs)

-- The place of the cell with marker x; the number of cells where x has none.
abbrev pub marks : ℕ → Cell → Bool
marks x c = eqb c.marker x

abbrev pub cell_at : ℕ → List Cell → ℕ
cell_at x cs = place_by (marks x) cs

abbrev pub markers_of : List Cell → List ℕ
markers_of cs = map (λ c. c.marker) cs

-- The weight of a key (of the front, for 0) is its cell's count, else 0.
unfoldable pub weight : List Cell → ℕ → ℕ
weight cs x = (get_or cs (cell_at x cs) zero_cell).count
