-- Cells as words and back: each place, the lengths, and that each undoes the other.
use Prim.Native.Nat.{ℕ, zero, suc, ◌+◌, ◌*◌, ◌<◌}
use mathlib.Core.Path.{◌≡◌, refl, sym, ap, ◌∙◌}
use mathlib.Core.List.{List, [], ◌∷◌, map}
use native.Mathlib.Omega.{arith}
use lib.ListN.{length, drop, get_or, length-map}
use lib.Seq.{get_or-drop}
use Rattle.cells.specs.declared.Cell.{Cell}
use Rattle.cells.specs.Cells.{cell, zero_cell, zip3}
use Rattle.cells.proofs.Zipped.{markers-zip, segments-zip, counts-zip}
use Rattle.forecast.specs.declared.Forecast.{Forecast}
use Rattle.forecast.specs.Cells.{cells}
use Rattle.forecast.specs.Tidy.{Roomy}
use Rattle.forecast.proofs.Stepping.{roomy-12}
use Rattle.words.specs.Words.{cells_in, cell_words, showing, forecast_in, forecast_words}

-- ROWS of cells' fields show those cells
zip-rows : (cs : List Cell) → zip3 (map (λ c. c.marker) cs) (map (λ c. c.segment) cs) (map (λ c. c.count) cs) ≡ cs
zip-rows [] = refl
zip-rows (c ∷ cs) = ap {B = List Cell} (λ l. c ∷ l) (zip-rows cs)

pub showing-cells : (n : ℕ) (cs : List Cell) → cells (showing n cs) ≡ cs
unfolding cells
showing-cells n cs = zip-rows cs

-- and a forecast's rows are those of its cells
pub roomy-shows : (F : Forecast) → Roomy F → F ≡ showing F.used (cells F)
unfolding cells
roomy-shows F r =
    let p = r.segments ∙ sym r.markers in
    let q = r.counts ∙ sym r.markers in
    λ i. record {
      markers = sym (markers-zip F.markers F.segments F.counts p q) i;
      segments = sym (segments-zip F.markers F.segments F.counts p q) i;
      counts = sym (counts-zip F.markers F.segments F.counts p q) i;
      used = F.used;
    }

-- LENGTHS
pub cells-long : (n : ℕ) (ws : List ℕ) → length (cells_in n ws) ≡ n
unfolding cells_in
cells-long zero ws = refl
cells-long (suc n) ws = ap suc (cells-long n (drop 3 ws))

pub words_long : (cs : List Cell) → length (cell_words cs) ≡ 3 * length cs
unfolding cell_words
words_long [] = refl
words_long (c ∷ cs) = omega (arith, words_long cs)

-- THE CELL AT A PLACE
abbrev pub cell_from : List ℕ → ℕ → Cell
cell_from ws a = cell (get_or ws a 0) (get_or ws (a + 1) 0) (get_or ws (a + 2) 0)

from-drop : (n a : ℕ) (ws : List ℕ) → cell_from (drop n ws) a ≡ cell_from ws (n + a)
from-drop n a ws =
    let b : n + (a + 1) ≡ n + a + 1 = omega arith in
    let c : n + (a + 2) ≡ n + a + 2 = omega arith in
    λ i. cell (get_or-drop n ws a 0 i) ((get_or-drop n ws (a + 1) 0 ∙ ap (λ (k : ℕ). get_or ws k 0) b) i) ((get_or-drop n ws (a + 2) 0 ∙ ap (λ (k : ℕ). get_or ws k 0) c) i)

pub cell_at : (n : ℕ) (ws : List ℕ) (i : ℕ) → i < n → get_or (cells_in n ws) i zero_cell ≡ cell_from ws (3 * i)
unfolding cells_in
cell_at zero ws i h = absurd (omega arith)
cell_at (suc n) ws zero h = refl
cell_at (suc n) ws (suc i) h =
    let e : 3 + 3 * i ≡ 3 * suc i = omega arith in
    cell_at n (drop 3 ws) i (omega arith) ∙ from-drop 3 (3 * i) ws ∙ ap (cell_from ws) e

-- past the used word
pub cell_in : (ws : List ℕ) (i : ℕ) → i < 12 → get_or (cells_in 12 (drop 1 ws)) i zero_cell ≡ cell_from ws (3 * i + 1)
cell_in ws i h = let e : 1 + 3 * i ≡ 3 * i + 1 = omega arith in cell_at 12 (drop 1 ws) i h ∙ from-drop 1 (3 * i) ws ∙ ap (cell_from ws) e

-- THE WORDS OF A PLACE
pub words-at : (cs : List Cell) (i : ℕ) → cell_from (cell_words cs) (3 * i) ≡ get_or cs i zero_cell
unfolding cell_words
words-at [] i = refl
words-at (c ∷ cs) zero = refl
words-at (c ∷ cs) (suc i) =
    let e : 3 * suc i ≡ 3 + 3 * i = omega arith in
    ap (cell_from (cell_words (c ∷ cs))) e ∙ sym (from-drop 3 (3 * i) (cell_words (c ∷ cs))) ∙ words-at cs i

pub words-in : (F : Forecast) (i : ℕ) → cell_from (forecast_words F) (3 * i + 1) ≡ get_or (cells F) i zero_cell
words-in F i =
    let e : 3 * i + 1 ≡ 1 + 3 * i = omega arith in
    ap (cell_from (forecast_words F)) e ∙ sym (from-drop 1 (3 * i) (forecast_words F)) ∙ words-at (cells F) i

-- THERE AND BACK
words-cells : (n : ℕ) (ws : List ℕ) → length ws ≡ 3 * n → cell_words (cells_in n ws) ≡ ws
unfolding cells_in cell_words
words-cells zero [] h = refl
words-cells zero (w ∷ ws) h = absurd (omega arith)
words-cells (suc n) [] h = absurd (omega arith)
words-cells (suc n) (a ∷ []) h = absurd (omega arith)
words-cells (suc n) (a ∷ b ∷ []) h = absurd (omega arith)
words-cells (suc n) (a ∷ b ∷ c ∷ ws) h = ap (λ (r : List ℕ). a ∷ b ∷ c ∷ r) (words-cells n ws (omega arith))

cells-words : (cs : List Cell) → cells_in (length cs) (cell_words cs) ≡ cs
unfolding cells_in cell_words
cells-words [] = refl
cells-words (c ∷ cs) = ap (λ (r : List Cell). c ∷ r) (cells-words cs)

-- 37 words that were read and written again are the same words
pub words-again : (ws : List ℕ) → length ws ≡ 37 → forecast_words (forecast_in ws) ≡ ws
words-again [] h = absurd (omega arith)
words-again (w ∷ ws) h = ap (λ (r : List ℕ). w ∷ r) (ap cell_words (showing-cells w (cells_in 12 ws)) ∙ words-cells 12 ws (omega arith))

-- a forecast that was written and read again is the same forecast
pub forecast-again : (F : Forecast) → Roomy F → forecast_in (forecast_words F) ≡ F
forecast-again F r =
    ap (showing F.used) (ap (λ (n : ℕ). cells_in n (cell_words (cells F))) (sym (roomy-12 F r)) ∙ cells-words (cells F)) ∙ sym (roomy-shows F r)

-- the forecast that words show has room for 12 cells
pub forecast_in-roomy : (ws : List ℕ) → Roomy (forecast_in ws)
forecast_in-roomy ws = record {
  markers = length-map (cells_in 12 (drop 1 ws)) (λ c. c.marker) ∙ cells-long 12 (drop 1 ws);
  segments = length-map (cells_in 12 (drop 1 ws)) (λ c. c.segment) ∙ cells-long 12 (drop 1 ws);
  counts = length-map (cells_in 12 (drop 1 ws)) (λ c. c.count) ∙ cells-long 12 (drop 1 ws);
}
