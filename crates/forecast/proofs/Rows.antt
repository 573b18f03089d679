-- Rows of 12 under the steps: stored to, shifted, closed up.
use Prim.Native.Nat.{ℕ, suc, ◌+◌, ◌-◌, ◌≤◌, ◌<◌}
use mathlib.Core.Path.{◌≡◌, refl, sym, ap, ap₂, ◌∙◌, subst}
use mathlib.Core.List.{List, [], ◌∷◌, ◌++◌, map, map-append, append-nil}
use Rattle.std.specs.List.{copy_within}
use Rattle.std.proofs.lemmas.List.{drop-append-le}
use native.Mathlib.Omega.{arith}
use native.Mathlib.Numerals.{add-one}
use lib.ListN.{length, take, drop, get_or, set, replicate, length-map, length-set, length-append, length-take, length-drop, length-replicate, replicate-append-replicate, drop_of_length-le, get_or-map}
use lib.Seq.{length-take-le, take_at, take-append-add, take-append-le, drop-cons, set_at, paste, set-append_left, set_split, append_snoc, map-set_same}
use Rattle.lists.specs.Lists.{padded, without}
use Rattle.lists.proofs.Maps.{map-take, map-drop, map-set}
use Rattle.lists.proofs.Fill.{length-padded, get_or-padded, set-padded, drop-padded}
use Rattle.forecast.specs.Ahead.{ahead_row}
use Rattle.cells.specs.declared.Cell.{Cell}
use Rattle.cells.specs.Cells.{zero_cell, row}

-- LISTS OF NUMBERS WITH ZEROS AFTER THEM
-- the last of them made zero
pub padded-less : (n t : ℕ) (xs : List ℕ) → length xs ≡ t + 1 → t < n → set (padded n 0 xs) t 0 ≡ padded n 0 (take t xs)
unfolding padded
padded-less n t xs e h =
    let k : length xs ≤ suc t = omega arith in
    let r : n - t ≡ suc (n - length xs) = omega arith in
    set-append_left xs _ t 0 (omega arith)
    ∙ rw (set_split xs t 0 (omega arith), drop_of_length-le xs k, length-take-le t xs (omega arith), r) (append_snoc (take t xs) 0 (replicate (n - length xs) 0))

-- one more in front of them, and the last zero out
pub padded-more : (n v : ℕ) (xs : List ℕ) → length xs ≤ n → v ∷ take n (padded (suc n) 0 xs) ≡ padded (suc n) 0 (v ∷ xs)
unfolding padded
padded-more n v xs h =
    let e : n ≡ length xs + (n - length xs) = omega arith in
    let r : suc n - length xs ≡ (n - length xs) + 1 = omega arith in
    let q : suc n - suc (length xs) ≡ n - length xs = omega arith in
    ap {B = List ℕ} (λ l. v ∷ l)
    (ap (λ (k : ℕ). take k (xs ++ replicate (suc n - length xs) 0)) e ∙ take-append-add xs _ (n - length xs)
    ∙ rw (r, q) (ap {B = List ℕ} (λ l. xs ++ l) (take_rep (n - length xs))))
  where
    take_rep : (k : ℕ) → ◌≡◌ {A = List ℕ} (take k (replicate (k + 1) 0)) (replicate k 0)
    take_rep k = rw (← replicate-append-replicate {A = ℕ} k 1 0) (take_at (replicate k 0) _ k (length-replicate k 0))

-- moved back by one place, the last out, and one stored in front
pub pushed-row : (n : ℕ) (xs : List ℕ) (v : ℕ) → length xs ≡ suc n → set (paste xs 1 xs n) 0 v ≡ v ∷ take n xs
pushed-row n [] v h = absurd (omega arith)
pushed-row n (x ∷ xs) v h =
    let k : length (x ∷ xs) ≤ 1 + n = omega arith in
    ap {B = List ℕ} (λ l. v ∷ (take n (x ∷ xs) ++ l)) (drop_of_length-le (x ∷ xs) k) ∙ ap {B = List ℕ} (λ l. v ∷ l) (append-nil (take n (x ∷ xs)))

-- one of them lost: those after it come forward, and the last place is made zero
pub padded-closed : (n at : ℕ) (xs : List ℕ) → at < length xs → length xs ≤ n → set (copy_within (padded n 0 xs) (at + 1) (length xs) at) (length xs - 1) 0 ≡ padded n 0 (without at xs)
unfolding padded without
padded-closed n at xs h l =
    let k : at ≤ length xs = omega arith in
    let k' : at + 1 ≤ length xs = omega arith in
    let t : length xs - 1 ≤ length xs = omega arith in
    let full : length xs ≤ suc (length xs - 1) = omega arith in
    let e : at + (length xs - (at + 1)) ≡ length xs - 1 = omega arith in
    let m : length (drop (at + 1) xs) ≡ length xs - (at + 1) = length-drop (at + 1) xs in
    let w : length (take at xs ++ drop (at + 1) xs) ≡ length xs - 1 = simp (length-append, length-take, length-drop) (omega arith) in
    let w' : length (take at xs ++ drop (suc at) xs) ≡ length xs - 1 = simp (length-append, length-take, length-drop) (omega arith) in
    let z : n - (length xs - 1) ≡ suc (n - length xs) = omega arith in
    rw (
      e,
      take-append-le at xs _ k,
      drop-append-le (at + 1) xs _ k',
      take_at (drop (at + 1) xs) _ _ m,
      drop-append-le (length xs - 1) xs _ t,
      drop-cons xs (length xs - 1) 0 (omega arith),
      drop_of_length-le xs full,
      set_at (take at xs ++ drop (at + 1) xs) (get_or xs (length xs - 1) 0) (replicate (n - length xs) 0) 0 (length xs - 1) w,
      add-one,
      w',
      z,
    ) refl

-- ONE FIELD OF CELLS, IN A ROW OF 12
map-without : {A B : Type 0} (f : A → B) (at : ℕ) (xs : List A) → map f (without at xs) ≡ without at (map f xs)
unfolding without
map-without {B} f at xs = map-append f (take at xs) (drop (suc at) xs) ∙ ap₂ {C = List B} ◌++◌ (map-take f at xs) (map-drop f (suc at) xs)

module _ (f : Cell → ℕ) (cs : List Cell) where
  pub row-long : length cs ≤ 12 → length (row f cs) ≡ 12
  row-long k = length-padded 12 0 (map f cs) (rw (length-map cs f) k)

  -- zeros after them
  pub row_drop : (i : ℕ) → length cs ≤ i → drop i (row f cs) ≡ replicate (12 - i) 0
  row_drop i k = drop-padded 12 0 (map f cs) i (rw (length-map cs f) k)

  -- a cell set
  pub row-set : (i : ℕ) (c : Cell) → i < length cs → set (row f cs) i (f c) ≡ row f (set cs i c)
  row-set i c h = set-padded 12 0 (map f cs) i (f c) (rw (length-map cs f) h) ∙ ap (padded 12 0) (sym (map-set f cs i c))

  -- a cell set that has the same
  pub row_kept : (i : ℕ) (c : Cell) → f c ≡ f (get_or cs i zero_cell) → row f cs ≡ row f (set cs i c)
  row_kept i c e = ap (padded 12 0) (sym (map-set_same f cs i c zero_cell e))

  -- the last cell gone
  pub row-less : (t : ℕ) → length cs ≡ t + 1 → t < 12 → set (row f cs) t 0 ≡ row f (take t cs)
  row-less t e h = padded-less 12 t (map f cs) (length-map cs f ∙ e) h ∙ ap (padded 12 0) (sym (map-take f t cs))

  -- a new cell at the head
  pub row_more : (c : Cell) → length cs < 12 → f c ∷ take 11 (row f cs) ≡ row f (c ∷ cs)
  row_more c h = padded-more 11 (f c) (map f cs) (rw (length-map cs f) (omega arith))

  -- what stands at a place
  pub row_at : f zero_cell ≡ 0 → (i : ℕ) → get_or (row f cs) i 0 ≡ f (get_or cs i zero_cell)
  row_at z i = get_or-padded 12 0 (map f cs) i ∙ ap (get_or (map f cs) i) (sym z) ∙ get_or-map f cs i zero_cell

module _ (f : Cell → ℕ) (z : f zero_cell ≡ 0) (cs : List Cell) where
  -- two neighbours that change places
  pub row-ahead : (i : ℕ) → 0 < i → i < length cs → ahead_row i (row f cs) ≡ row f (set (set cs i (get_or cs (i - 1) zero_cell)) (i - 1) (get_or cs i zero_cell))
  row-ahead i h k = rw (row_at f cs z i, row_at f cs z (i - 1), row-set f cs i (get_or cs (i - 1) zero_cell) k) (ahead2 (set cs i (get_or cs (i - 1) zero_cell)) (length-set cs i _))
    where
      ahead2 : (ds : List Cell) → length ds ≡ length cs → set (row f ds) (i - 1) (f (get_or cs i zero_cell)) ≡ row f (set ds (i - 1) (get_or cs i zero_cell))
      ahead2 ds e = set-padded 12 0 (map f ds) (i - 1) (f (get_or cs i zero_cell)) (rw (length-map ds f) (omega arith)) ∙ ap (padded 12 0) (sym (map-set f ds (i - 1) (get_or cs i zero_cell)))

-- a cell lost
pub row-closed : (f : Cell → ℕ) (cs : List Cell) (at : ℕ) → at < length cs → length cs ≤ 12 → set (copy_within (row f cs) (at + 1) (length cs) at) (length cs - 1) 0 ≡ row f (without at cs)
row-closed f cs at h l =
    let n : length (map f cs) ≡ length cs = length-map cs f in
    subst (λ (k : ℕ). set (copy_within (row f cs) (at + 1) k at) (k - 1) 0 ≡ padded 12 0 (without at (map f cs))) n (padded-closed 12 at (map f cs) (omega arith) (omega arith))
    ∙ ap (padded 12 0) (sym (map-without f at cs))
