-- A tidy forecast while a step changes it: its rows, its cells, and what a step leaves in them.
use Prim.Native.Nat.{ℕ, zero, suc, ◌-◌, ◌≤◌, ◌<◌}
use mathlib.Core.Path.{◌≡◌, refl, ap, ap₂, sym, ◌∙◌, subst}
use mathlib.Core.List.{List, ◌∷◌, map, map-append}
use native.Mathlib.Omega.{arith}
use lib.Dec.{eqb}
use lib.ListN.{length, take, get_or, replicate, length-map}
use Rattle.lists.specs.Lists.{padded}
use Rattle.lists.proofs.Fill.{get_or-padded, take-padded-all}
use Rattle.lists.specs.Search.{place_by}
use Rattle.lists.proofs.Maps.{place_map}
use Rattle.cells.specs.declared.Cell.{Cell}
use Rattle.cells.specs.Cells.{cell, zero_cell, row, cell_at}
use Rattle.cells.proofs.Zipped.{length-zip, get_or-zip, markers-zip, segments-zip, counts-zip}
use Rattle.forecast.specs.declared.Forecast.{Forecast}
use Rattle.forecast.specs.Cells.{cells, used_cells, forecast_of}
use Rattle.forecast.specs.Tidy.{Tidy, Became, Roomy, CellOf}
use Rattle.forecast.proofs.Laws.{forecast_of-used, forecast_of-cells, used-forecast_of}
use Rattle.forecast.proofs.Rows.{row_at, row-long}

-- THE ONE TIDY FORECAST with given cells
-- it is tidy, with those cells
pub is-became : (cs : List Cell) → length cs ≤ 12 → Became cs (forecast_of cs)
is-became cs h = record {
  tidy = record { room = rw (forecast_of-used cs) h; rest = ap forecast_of (sym (used-forecast_of cs)) };
  is = used-forecast_of cs;
}

-- a tidy forecast with the cells cs is the one that cs make
pub became-is : (cs : List Cell) (F : Forecast) → Became cs F → F ≡ forecast_of cs
became-is cs F b = b.tidy.rest ∙ ap forecast_of b.is

-- a forecast by its rows and the number used
abbrev pub made : List ℕ → List ℕ → List ℕ → ℕ → Forecast
made ms ss ns u = record { markers = ms; segments = ss; counts = ns; used = u }

-- a forecast whose rows hold cs, then zeros, and their number
pub became : (cs : List Cell) (F : Forecast) → length cs ≤ 12 → F.used ≡ length cs
    → F.markers ≡ row (λ c. c.marker) cs → F.segments ≡ row (λ c. c.segment) cs → F.counts ≡ row (λ c. c.count) cs → Became cs F
unfolding forecast_of
became cs F l u m s n = subst (Became cs) (λ i. record { markers = sym m i; segments = sym s i; counts = sym n i; used = sym u i }) (is-became cs l)

-- THE CELLS OF ROOMY ROWS
module _ (F : Forecast) (r : Roomy F) where
  pub roomy-12 : length (cells F) ≡ 12
  unfolding cells
  roomy-12 = length-zip F.markers F.segments F.counts (r.segments ∙ sym r.markers) (r.counts ∙ sym r.markers) ∙ r.markers

  pub roomy-at : (i : ℕ) → i < 12 → get_or (cells F) i zero_cell ≡ cell (get_or F.markers i 0) (get_or F.segments i 0) (get_or F.counts i 0)
  unfolding cells
  roomy-at i h = get_or-zip F.markers F.segments F.counts (r.segments ∙ sym r.markers) (r.counts ∙ sym r.markers) i (omega (arith, r.markers))

  -- their fields are the rows
  pub roomy-markers : map (λ c. c.marker) (cells F) ≡ F.markers
  unfolding cells
  roomy-markers = markers-zip F.markers F.segments F.counts (r.segments ∙ sym r.markers) (r.counts ∙ sym r.markers)

  -- the cell at i, with its fields read from the rows
  pub roomy-cell : (i : ℕ) → i < 12 → (s n : ℕ) → s ≡ get_or F.segments i 0 → n ≡ get_or F.counts i 0 → CellOf F i (cell (get_or F.markers i 0) s n) F.used F.markers
  roomy-cell i h s n a b = record {
    cell = (λ k. cell (get_or F.markers i 0) (a k) (b k)) ∙ sym (roomy-at i h);
    used = refl;
    markers = sym roomy-markers;
  }

  -- where the cells are cs, and zeros after them, the forecast is the one that cs make
  pub roomy-whole : (cs : List Cell) → F.used ≡ length cs → cells F ≡ padded 12 zero_cell cs → F ≡ forecast_of cs
  unfolding cells forecast_of padded
  roomy-whole cs u e = λ i. record { markers = m i; segments = s i; counts = n i; used = u i }
    where
      filled : (f : Cell → ℕ) → f zero_cell ≡ 0 → (k : ℕ) → map f (replicate k zero_cell) ≡ replicate k 0
      filled f z zero = refl
      filled f z (suc k) = ap₂ {C = List ℕ} ◌∷◌ z (filled f z k)

      field : (f : Cell → ℕ) → f zero_cell ≡ 0 → (xs : List ℕ) → map f (cells F) ≡ xs → xs ≡ row f cs
      field f z xs q = sym q ∙ ap (map f) e ∙ map-append f cs (replicate (12 - length cs) zero_cell) ∙ rw (filled f z (12 - length cs), length-map cs f) refl

      m : F.markers ≡ row (λ c. c.marker) cs
      m = field (λ c. c.marker) refl F.markers roomy-markers

      s : F.segments ≡ row (λ c. c.segment) cs
      s = field (λ c. c.segment) refl F.segments (segments-zip F.markers F.segments F.counts (r.segments ∙ sym r.markers) (r.counts ∙ sym r.markers))

      n : F.counts ≡ row (λ c. c.count) cs
      n = field (λ c. c.count) refl F.counts (counts-zip F.markers F.segments F.counts (r.segments ∙ sym r.markers) (r.counts ∙ sym r.markers))

module _ (F : Forecast) (t : Tidy F) where
  abbrev us : List Cell
  us = used_cells F

  -- as many cells as it says are used
  pub cells-used : length us ≡ F.used
  cells-used = sym (ap (λ (G : Forecast). G.used) t.rest ∙ forecast_of-used us)

  -- each row holds the used cells' fields, and zeros after them
  pub markers-row : F.markers ≡ row (λ c. c.marker) us
  unfolding forecast_of
  markers-row = ap (λ (G : Forecast). G.markers) t.rest

  pub segments-row : F.segments ≡ row (λ c. c.segment) us
  unfolding forecast_of
  segments-row = ap (λ (G : Forecast). G.segments) t.rest

  pub counts-row : F.counts ≡ row (λ c. c.count) us
  unfolding forecast_of
  counts-row = ap (λ (G : Forecast). G.counts) t.rest

  -- and has room for 12
  pub tidy-roomy : Roomy F
  tidy-roomy =
      let r = t.room in
      let l : length us ≤ 12 = omega (arith, cells-used) in
      record {
        markers = ap length markers-row ∙ row-long (λ c. c.marker) us l;
        segments = ap length segments-row ∙ row-long (λ c. c.segment) us l;
        counts = ap length counts-row ∙ row-long (λ c. c.count) us l;
      }

  -- each is the one of the used cells, or zero
  pub cell-is : (i : ℕ) → get_or (cells F) i zero_cell ≡ get_or us i zero_cell
  cell-is i = ap (λ (G : Forecast). get_or (cells G) i zero_cell) t.rest ∙ rw (forecast_of-cells us) (get_or-padded 12 zero_cell us i)

  -- its fields stand in the rows
  pub marker-is : (i : ℕ) → get_or F.markers i 0 ≡ (get_or us i zero_cell).marker
  marker-is i = ap (λ (l : List ℕ). get_or l i 0) markers-row ∙ (row_at (λ c. c.marker) us refl i)

  pub segment-is : (i : ℕ) → get_or F.segments i 0 ≡ (get_or us i zero_cell).segment
  segment-is i = ap (λ (l : List ℕ). get_or l i 0) segments-row ∙ row_at (λ c. c.segment) us refl i

  pub count-is : (i : ℕ) → get_or F.counts i 0 ≡ (get_or us i zero_cell).count
  count-is i = ap (λ (l : List ℕ). get_or l i 0) counts-row ∙ (row_at (λ c. c.count) us refl i)

  -- the used markers are the used cells'
  pub markers-used : take F.used F.markers ≡ map (λ c. c.marker) us
  markers-used =
      let n : F.used ≡ length (map (λ c. c.marker) us) = sym (length-map us (λ c. c.marker) ∙ cells-used) in
      ap₂ {C = List ℕ} take n markers-row ∙ take-padded-all 12 0 (map (λ c. c.marker) us)

  -- a search of the markers is one of the cells
  pub place_is : (x : ℕ) → place_by (λ m. eqb m x) (take F.used F.markers) ≡ cell_at x us
  place_is x = ap (place_by (λ m. eqb m x)) markers-used ∙ place_map (λ m. eqb m x) (λ c. c.marker) us
