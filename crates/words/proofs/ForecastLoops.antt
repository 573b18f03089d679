-- The loops that read a forecast from words and write one to them: one turn, and the end.
use Prim.Native.Nat.{ℕ, ◌+◌, ◌*◌, ◌<◌, ◌≤◌}
use mathlib.Core.Path.{◌≡◌, refl, sym, ap, ◌∙◌}
use mathlib.Core.List.{List, [], ◌∷◌, map}
use native.Mathlib.Omega.{arith}
use lib.ListN.{length, drop, get_or, set, drop_of_length-le, length-map, get_or-map}
use Rattle.lists.proofs.Overwritten.{written, written-more, written-done}
use Rattle.cells.specs.declared.Cell.{Cell}
use Rattle.cells.specs.Cells.{zero_cell}
use Rattle.forecast.specs.declared.Forecast.{Forecast}
use Rattle.forecast.specs.Cells.{cells}
use Rattle.forecast.specs.Tidy.{Roomy}
use Rattle.forecast.proofs.Stepping.{roomy-12, roomy-at}
use Rattle.words.specs.Words.{cells_in, forecast_words}
use Rattle.words.proofs.WordLaws.{cells-long, words_long, cell_from, cell_in, words-in}

-- all is written where neither is longer
all-written : {A : Type 0} (new old : List A) (n : ℕ) → length new ≤ n → length old ≤ n → written new old n ≡ new
all-written new old n a b = written-done new old n (drop_of_length-le new a ∙ sym (drop_of_length-le old b))

-- READING a row: field f of the cells
abbrev pub field : (Cell → ℕ) → List ℕ → List ℕ
field f ws = map f (cells_in 12 (drop 1 ws))

module _ (f : Cell → ℕ) (ws old xs : List ℕ) (long : length old ≡ 12) where
  field-long : length (field f ws) ≡ 12
  field-long = length-map (cells_in 12 (drop 1 ws)) f ∙ cells-long 12 (drop 1 ws)

  pub read-turn : f zero_cell ≡ 0 → (i : ℕ) → i < 12 → (x : ℕ) → x ≡ f (cell_from ws (3 * i + 1)) → xs ≡ written (field f ws) old i → set xs i x ≡ written (field f ws) old (i + 1)
  read-turn z i h x q e =
      let r : x ≡ get_or (field f ws) i 0 = q ∙ ap f (sym (cell_in ws i h)) ∙ sym (ap (get_or (field f ws) i) (sym z) ∙ get_or-map f (cells_in 12 (drop 1 ws)) i zero_cell) in
      ap (set xs i) r ∙ ap (λ (l : List ℕ). set l i (get_or (field f ws) i 0)) e ∙ written-more (field f ws) old i 0 (omega (arith, field-long)) (omega arith)

  pub read-end : (i : ℕ) → 12 ≤ i → xs ≡ written (field f ws) old i → xs ≡ field f ws
  read-end i h e = e ∙ all-written (field f ws) old i (omega (arith, field-long)) (omega arith)

-- WRITING
module _ (F : Forecast) (r : Roomy F) (old : List ℕ) (long : length old ≡ 37) where
  words37 : length (forecast_words F) ≡ 37
  words37 = omega (arith, words_long (cells F), roomy-12 F r)

  -- one word more
  word : (a : ℕ) (w : ℕ) → a < 37 → w ≡ get_or (forecast_words F) a 0 → set (written (forecast_words F) old a) a w ≡ written (forecast_words F) old (a + 1)
  word a w h e = ap (set (written (forecast_words F) old a) a) e ∙ written-more (forecast_words F) old a 0 (omega (arith, words37)) (omega arith)

  -- the three words of a cell
  pub write-turn : (words : List ℕ) (i : ℕ) → i < 12 → words ≡ written (forecast_words F) old (3 * i + 1) → (s n : ℕ) → s ≡ get_or F.segments i 0 → n ≡ get_or F.counts i 0
      → set (set (set words (3 * i + 1) (get_or F.markers i 0)) (3 * i + 1 + 1) s) (3 * i + 1 + 2) n ≡ written (forecast_words F) old (3 * (i + 1) + 1)
  write-turn words i h e s n p q =
      let a : ℕ = 3 * i + 1 in
      let is = sym (roomy-at F r i h) ∙ sym (words-in F i) in
      let one = word a (get_or F.markers i 0) (omega arith) (ap (λ (x : Cell). x.marker) is) in
      let two = word (a + 1) s (omega arith) (p ∙ ap (λ (x : Cell). x.segment) is) in
      let two' : a + 1 + 1 ≡ a + 2 = omega arith in
      let three = word (a + 2) n (omega arith) (q ∙ ap (λ (x : Cell). x.count) is) in
      let three' : a + 2 + 1 ≡ 3 * (i + 1) + 1 = omega arith in
      ap (λ (ws : List ℕ). set (set (set ws a (get_or F.markers i 0)) (a + 1) s) (a + 2) n) e
      ∙ ap (λ (ws : List ℕ). set (set ws (a + 1) s) (a + 2) n) one ∙ ap (λ (ws : List ℕ). set ws (a + 2) n) two
      ∙ ap (λ (k : ℕ). set (written (forecast_words F) old k) (a + 2) n) two' ∙ three ∙ ap (written (forecast_words F) old) three'

  pub write-end : (words : List ℕ) (i : ℕ) → 12 ≤ i → words ≡ written (forecast_words F) old (3 * i + 1) → words ≡ forecast_words F
  write-end words i h e = e ∙ all-written (forecast_words F) old (3 * i + 1) (omega (arith, words37)) (omega arith)

-- the word of the used cells is written first
pub write-start : (F : Forecast) (ws : List ℕ) → 0 < length ws → set ws 0 F.used ≡ written (forecast_words F) (set ws 0 F.used) 1
write-start F [] h = absurd (omega arith)
write-start F (w ∷ ws) h = refl
