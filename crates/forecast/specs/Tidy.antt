-- A forecast between two steps: its used cells, and zeros after them.
use Rattle.std.specs.Prelude.{ℕ, ◌+◌, ◌≤◌, ◌<◌, ◌≡◌, ◌⊎◌, length, get_or}
use mathlib.Core.List.{List, Memᴰ as Mem}
use Rattle.lists.specs.Lists.{All}
use Rattle.slots.specs.Segments.{Segments, keys}
use Rattle.slots.specs.Keys.{segment_of}
use Rattle.cells.specs.declared.Cell.{Cell}
use Rattle.cells.specs.Cells.{zero_cell, markers_of}
use Rattle.forecast.specs.declared.Forecast.{Forecast}
use Rattle.forecast.specs.Cells.{cells, used_cells, forecast_of}

-- at most 12 cells in use, and the others all zeros
pub record Tidy (F : Forecast) : Type 0 where
  pub room : F.used ≤ 12
  pub rest : F ≡ forecast_of (used_cells F)

-- a tidy forecast with exactly these cells: there is one, `forecast_of cs`
pub record Became (cs : List Cell) (F : Forecast) : Type 0 where
  pub tidy : Tidy F
  pub is : used_cells F ≡ cs

-- the three rows have room for 12 cells each, as those of any forecast that code holds
pub record Roomy (F : Forecast) : Type 0 where
  pub markers : length F.markers ≡ 12
  pub segments : length F.segments ≡ 12
  pub counts : length F.counts ≡ 12

-- 0 for the front, or a live key
abbrev pub Marker : Segments → ℕ → Type 0
Marker ss k = (k ≡ 0) ⊎ Mem k (keys ss)

-- every used cell's marker is one
abbrev pub Live : Segments → Forecast → Type 0
Live ss F = All (λ c. Marker ss c.marker) (used_cells F)

-- s is none of the n segments from first on
abbrev pub Outside : ℕ → ℕ → ℕ → Type 0
Outside first n s = (s < first) ⊎ (first + n ≤ s)

-- every used cell that names none of them names its marker's segment
abbrev pub Elsewhere : Segments → ℕ → ℕ → Forecast → Type 0
Elsewhere ss first n F = All (λ c. Outside first n c.segment → c.segment ≡ segment_of ss c.marker) (used_cells F)

-- counts of at most 12, and markers that differ
pub record Fitting (F : Forecast) : Type 0 where
  pub small : All (λ c. c.count ≤ 12) (used_cells F)
  pub apart : (i j : ℕ) → i < length (used_cells F) → j < length (used_cells F)
      → (get_or (used_cells F) i zero_cell).marker ≡ (get_or (used_cells F) j zero_cell).marker → i ≡ j

-- c is cell i of the forecast, which uses so many of its cells and has these markers
pub record CellOf (F : Forecast) (i : ℕ) (c : Cell) (n : ℕ) (ms : List ℕ) : Type 0 where
  pub cell : c ≡ get_or (cells F) i zero_cell
  pub used : n ≡ F.used
  pub markers : ms ≡ markers_of (cells F)
