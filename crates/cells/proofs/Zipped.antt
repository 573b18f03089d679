-- Cells and the three rows that show them.
use Prim.Native.Nat.{ℕ, zero, suc, ◌<◌}
use mathlib.Core.Path.{◌≡◌, refl, ap}
use mathlib.Core.List.{List, [], ◌∷◌, ◌++◌, map}
use native.Mathlib.Omega.{arith}
use lib.ListN.{length, get_or, replicate}
use Rattle.cells.specs.declared.Cell.{Cell}
use Rattle.cells.specs.Cells.{cell, zero_cell, zip3}

-- rows filled with zeros show the cells, and zero cells after them
pub zip-fill : (cs : List Cell) (k : ℕ)
    → zip3 (map (λ c. c.marker) cs ++ replicate k 0) (map (λ c. c.segment) cs ++ replicate k 0) (map (λ c. c.count) cs ++ replicate k 0) ≡ cs ++ replicate k zero_cell
zip-fill [] zero = refl
zip-fill [] (suc k) = ap {B = List Cell} (λ l. zero_cell ∷ l) (zip-fill [] k)
zip-fill (c ∷ cs) k = ap {B = List Cell} (λ l. c ∷ l) (zip-fill cs k)

-- rows of one length: so many cells, each with its fields from the rows, which are the cells' fields
pub length-zip : (xs ss ns : List ℕ) → length ss ≡ length xs → length ns ≡ length xs → length (zip3 xs ss ns) ≡ length xs
length-zip [] ss ns p q = refl
length-zip (x ∷ xs) [] ns p q = absurd (omega arith)
length-zip (x ∷ xs) (s ∷ ss) [] p q = absurd (omega arith)
length-zip (x ∷ xs) (s ∷ ss) (n ∷ ns) p q = ap suc (length-zip xs ss ns (omega arith) (omega arith))

pub get_or-zip : (xs ss ns : List ℕ) → length ss ≡ length xs → length ns ≡ length xs → (i : ℕ) → i < length xs → get_or (zip3 xs ss ns) i zero_cell ≡ cell (get_or xs i 0) (get_or ss i 0) (get_or ns i 0)
get_or-zip [] ss ns p q i h = absurd (omega arith)
get_or-zip (x ∷ xs) [] ns p q i h = absurd (omega arith)
get_or-zip (x ∷ xs) (s ∷ ss) [] p q i h = absurd (omega arith)
get_or-zip (x ∷ xs) (s ∷ ss) (n ∷ ns) p q zero h = refl
get_or-zip (x ∷ xs) (s ∷ ss) (n ∷ ns) p q (suc i) h = get_or-zip xs ss ns (omega arith) (omega arith) i (omega arith)

pub markers-zip : (xs ss ns : List ℕ) → length ss ≡ length xs → length ns ≡ length xs → map (λ c. c.marker) (zip3 xs ss ns) ≡ xs
markers-zip [] ss ns p q = refl
markers-zip (x ∷ xs) [] ns p q = absurd (omega arith)
markers-zip (x ∷ xs) (s ∷ ss) [] p q = absurd (omega arith)
markers-zip (x ∷ xs) (s ∷ ss) (n ∷ ns) p q = ap {B = List ℕ} (λ l. x ∷ l) (markers-zip xs ss ns (omega arith) (omega arith))

pub segments-zip : (xs ss ns : List ℕ) → length ss ≡ length xs → length ns ≡ length xs → map (λ c. c.segment) (zip3 xs ss ns) ≡ ss
segments-zip [] [] ns p q = refl
segments-zip [] (s ∷ ss) ns p q = absurd (omega arith)
segments-zip (x ∷ xs) [] ns p q = absurd (omega arith)
segments-zip (x ∷ xs) (s ∷ ss) [] p q = absurd (omega arith)
segments-zip (x ∷ xs) (s ∷ ss) (n ∷ ns) p q = ap {B = List ℕ} (λ l. s ∷ l) (segments-zip xs ss ns (omega arith) (omega arith))

pub counts-zip : (xs ss ns : List ℕ) → length ss ≡ length xs → length ns ≡ length xs → map (λ c. c.count) (zip3 xs ss ns) ≡ ns
counts-zip [] ss [] p q = refl
counts-zip [] ss (n ∷ ns) p q = absurd (omega arith)
counts-zip (x ∷ xs) [] ns p q = absurd (omega arith)
counts-zip (x ∷ xs) (s ∷ ss) [] p q = absurd (omega arith)
counts-zip (x ∷ xs) (s ∷ ss) (n ∷ ns) p q = ap {B = List ℕ} (λ l. n ∷ l) (counts-zip xs ss ns (omega arith) (omega arith))
