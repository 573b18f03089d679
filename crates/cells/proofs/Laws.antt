-- One law for each case of the cells' definitions, so that nothing else has to open them.
use mathlib.Core.Path.{◌≡◌, refl, sym, ap, ◌∙◌}
use mathlib.Core.Logic.{◌≢◌}
use mathlib.Core.List.{List, ◌∷◌, map}
use Prim.Native.Nat.{ℕ, ◌+◌, ◌-◌, ◌≤◌, ◌<◌}
use native.Mathlib.Omega.{arith}
use borrow.Author.Tests.{lt-ltb, le-ltb, le-leb, lt-leb, ne_eqb}
use lib.Dec.{eqb, eqb→eq}
use lib.ListN.{length, take, get_or, set, get_or-eq_default}
use Rattle.lists.specs.Lists.{without}
use Rattle.lists.specs.Search.{place_by}
use Rattle.lists.proofs.Tests.{eq→eqb}
use Rattle.lists.proofs.Maps.{map-take, place_map}
use Rattle.lists.proofs.Members.{at_mem}
use Rattle.lists.proofs.Search.{place-passes, place-mem}
use Rattle.lists.proofs.Fill.{without-past}
use Rattle.cells.specs.declared.Cell.{Cell}
use Rattle.cells.specs.Cells.{cell, zero_cell, with_count, marks, cell_at, weight, markers_of}
use Rattle.cells.specs.Steps.{raised, tailed, noted, dropped, aimed, retargeted}

-- WHERE A MARKER'S CELL IS
module _ (x : ℕ) (cs : List Cell) where
  -- the cell found has the marker
  pub found-marks : cell_at x cs < length cs → (get_or cs (cell_at x cs) zero_cell).marker ≡ x
  found-marks h = eqb→eq _ _ (place-passes (marks x) cs zero_cell h)

  -- a cell with the marker is found
  pub marked-found : (i : ℕ) → i < length cs → (get_or cs i zero_cell).marker ≡ x → cell_at x cs < length cs
  marked-found i h e = place-mem (marks x) cs (get_or cs i zero_cell) (at_mem cs i zero_cell h) (eq→eqb _ _ e)

-- the markers by themselves are searched alike
pub place-marker : (x n : ℕ) (cs : List Cell) → place_by (λ m. eqb m x) (take n (markers_of cs)) ≡ cell_at x (take n cs)
place-marker x n cs = ap (place_by (λ m. eqb m x)) (sym (map-take (λ c. c.marker) n cs)) ∙ place_map (λ m. eqb m x) (λ c. c.marker) (take n cs)

-- NOTING
module _ (P x s : ℕ) (cs : List Cell) where
  -- x has a cell with count below P
  pub noted-raised : cell_at x cs < length cs → (get_or cs (cell_at x cs) zero_cell).count < P → noted P x s cs ≡ raised (cell_at x cs) cs
  unfolding noted
  noted-raised h k = rw (lt-ltb _ _ h, lt-ltb _ _ k)

  -- x has a cell with count P
  pub noted-spent : cell_at x cs < length cs → P ≤ (get_or cs (cell_at x cs) zero_cell).count → noted P x s cs ≡ tailed cs
  unfolding noted
  noted-spent h k = rw (lt-ltb _ _ h, le-ltb _ _ k)

  -- x has no cell and fewer than P are used
  pub noted-new : length cs ≤ cell_at x cs → length cs < P → noted P x s cs ≡ cell x s 1 ∷ cs
  unfolding noted
  noted-new h k = rw (le-ltb _ _ h, lt-ltb _ _ k)

  -- x has no cell and P are used
  pub noted-full : length cs ≤ cell_at x cs → P ≤ length cs → noted P x s cs ≡ tailed cs
  unfolding noted
  noted-full h k = rw (le-ltb _ _ h, le-ltb _ _ k)

-- RAISING
-- the head stays at the head
pub raised-head : (cs : List Cell) → raised 0 cs ≡ set cs 0 (with_count ((get_or cs 0 zero_cell).count + 1) (get_or cs 0 zero_cell))
unfolding raised
raised-head cs = refl

-- another cell changes places with its neighbour toward the head
pub raised-past : (i : ℕ) (cs : List Cell) → 0 < i
    → raised i cs ≡ set (set cs i (get_or cs (i - 1) zero_cell)) (i - 1) (with_count ((get_or cs i zero_cell).count + 1) (get_or cs i zero_cell))
unfolding raised
raised-past i cs h = let e : i ≢ 0 = omega arith in rw (ne_eqb i 0 e)

-- THE TAIL'S COUNT DROPS
module _ (cs : List Cell) where
  -- to 0: the cell goes
  pub tailed-gone : (get_or cs (length cs - 1) zero_cell).count ≤ 1 → tailed cs ≡ take (length cs - 1) cs
  unfolding tailed
  tailed-gone h = rw (le-leb _ _ h)

  -- to something else: the cell stays
  pub tailed-less : 1 < (get_or cs (length cs - 1) zero_cell).count
      → tailed cs ≡ set cs (length cs - 1) (with_count ((get_or cs (length cs - 1) zero_cell).count - 1) (get_or cs (length cs - 1) zero_cell))
  unfolding tailed
  tailed-less h = rw (lt-leb _ _ h)

-- DROPPING AND AIMING
-- the marker's cell goes
pub dropped-is : (x : ℕ) (cs : List Cell) → dropped x cs ≡ without (cell_at x cs) cs
unfolding dropped
dropped-is x cs = refl

-- a marker with no cell changes nothing
pub dropped-none : (x : ℕ) (cs : List Cell) → length cs ≤ cell_at x cs → dropped x cs ≡ cs
unfolding dropped
dropped-none x cs h = without-past (cell_at x cs) cs h

-- each cell is aimed
pub retargeted-is : (place : ℕ → ℕ) (cs : List Cell) → retargeted place cs ≡ map (aimed place) cs
unfolding retargeted
retargeted-is place cs = refl

-- WEIGHTS
module _ (cs : List Cell) (x : ℕ) where
  -- a marker whose cell is at i weighs its count
  pub weight-at : (i : ℕ) → cell_at x cs ≡ i → weight cs x ≡ (get_or cs i zero_cell).count
  unfolding weight
  weight-at i e = ap (λ (k : ℕ). (get_or cs k zero_cell).count) e

  -- a marker with no cell weighs nothing
  pub weight-none : length cs ≤ cell_at x cs → weight cs x ≡ 0
  unfolding weight
  weight-none h = ap (λ (c : Cell). c.count) (get_or-eq_default cs zero_cell h)
