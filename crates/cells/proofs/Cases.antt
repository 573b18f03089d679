-- Computed cases that pin the steps, at small sizes.
use mathlib.Core.Path.{◌≡◌, refl}
use mathlib.Core.List.{List, [], ◌∷◌}
use Prim.Native.Nat.{ℕ, zero, suc}
use lib.ListN.{length}
use Rattle.lists.specs.Lists.{without}
use Rattle.cells.specs.declared.Cell.{Cell}
use Rattle.cells.specs.Cells.{cell, weight}
use Rattle.cells.specs.Steps.{raised, tailed, noted, dropped}

-- PLACES
-- noted, the cell in third place moves to second, its count one more; the others stay in order
pub third-to-second : noted 8 30 0 (cell 10 1 2 ∷ cell 20 2 3 ∷ cell 30 3 4 ∷ cell 40 4 5 ∷ []) ≡ cell 10 1 2 ∷ cell 30 3 5 ∷ cell 20 2 3 ∷ cell 40 4 5 ∷ []
unfolding noted raised tailed
third-to-second = refl

-- the head stays at the head
pub head-stays : noted 8 10 0 (cell 10 1 2 ∷ cell 20 2 3 ∷ []) ≡ cell 10 1 3 ∷ cell 20 2 3 ∷ []
unfolding noted raised tailed
head-stays = refl

-- a marker with no cell gets one at the head, count 1
pub new-at-head : noted 8 30 5 (cell 10 1 2 ∷ cell 20 2 3 ∷ []) ≡ cell 30 5 1 ∷ cell 10 1 2 ∷ cell 20 2 3 ∷ []
unfolding noted raised tailed
new-at-head = refl

-- COUNTS
-- at count P and not the tail: only the tail's count drops
pub spent-head : noted 8 10 0 (cell 10 1 8 ∷ cell 20 2 3 ∷ cell 30 3 5 ∷ []) ≡ cell 10 1 8 ∷ cell 20 2 3 ∷ cell 30 3 4 ∷ []
unfolding noted raised tailed
spent-head = refl

-- at count P and the tail itself
pub spent-tail : noted 8 30 0 (cell 10 1 2 ∷ cell 20 2 3 ∷ cell 30 3 8 ∷ []) ≡ cell 10 1 2 ∷ cell 20 2 3 ∷ cell 30 3 7 ∷ []
unfolding noted raised tailed
spent-tail = refl

-- at count P, the tail's count drops to 0 and its cell goes
pub spent-gone : noted 8 10 0 (cell 10 1 8 ∷ cell 20 2 1 ∷ []) ≡ cell 10 1 8 ∷ []
unfolding noted raised tailed
spent-gone = refl

-- P cells are used: the tail's count drops to 0, its cell goes, and x gets no cell
pub full-gone : noted 3 40 0 (cell 10 1 2 ∷ cell 20 2 3 ∷ cell 30 3 1 ∷ []) ≡ cell 10 1 2 ∷ cell 20 2 3 ∷ []
unfolding noted raised tailed
full-gone = refl

-- P cells are used: the tail's count drops, and x gets no cell
pub full-less : noted 3 40 0 (cell 10 1 2 ∷ cell 20 2 3 ∷ cell 30 3 2 ∷ []) ≡ cell 10 1 2 ∷ cell 20 2 3 ∷ cell 30 3 1 ∷ []
unfolding noted raised tailed
full-less = refl

-- one cell of height 1, P = 7: its count reaches P, and noted again drops by one, as it is the tail itself
pub reaches-p : (noted 7 10 1 (cell 10 1 6 ∷ []) ≡ cell 10 1 7 ∷ []) × (noted 7 10 1 (noted 7 10 1 (cell 10 1 6 ∷ [])) ≡ cell 10 1 6 ∷ [])
unfolding noted raised tailed
reaches-p = (refl, refl)

-- of height 6, P = 12, beside another: from place 1 it reaches P at the head, and noted again only the tail's count drops
pub reaches-p-ahead : noted 12 10 1 (noted 12 10 1 (cell 20 2 5 ∷ cell 10 1 11 ∷ [])) ≡ cell 10 1 12 ∷ cell 20 2 4 ∷ []
unfolding noted raised tailed
reaches-p-ahead = refl

-- RUNS OF INSERTS
-- n inserts, the k-th of which notes g k
abbrev after : (ℕ → ℕ) → ℕ → List Cell
after g zero = []
after g (suc n) = noted 8 (g n) 0 (after g n)

-- rising, each notes the key before it: 7 cells are left; falling, each notes the front: one cell, count 7
pub inserts-65 : (length (after (λ k. k) 65) ≡ 7) × (after (λ k. 0) 65 ≡ cell 0 0 7 ∷ [])
unfolding noted raised tailed
inserts-65 = (refl, refl)

-- DROPPING, WEIGHING
-- the one marker is dropped, and no cell is left
pub drop-lone : dropped 7 (cell 7 3 3 ∷ []) ≡ []
unfolding dropped without
drop-lone = refl

-- the others close up; a marker with no cell changes nothing
pub drop-middle : (dropped 20 (cell 10 1 2 ∷ cell 20 2 3 ∷ cell 30 3 4 ∷ []) ≡ cell 10 1 2 ∷ cell 30 3 4 ∷ []) × (dropped 40 (cell 10 1 2 ∷ cell 20 2 3 ∷ []) ≡ cell 10 1 2 ∷ cell 20 2 3 ∷ [])
unfolding dropped without
drop-middle = (refl, refl)

-- a key with a cell, the front with one, a key with none
pub weighs : (weight (cell 20 2 3 ∷ cell 0 0 4 ∷ []) 20 ≡ 3) × (weight (cell 20 2 3 ∷ cell 0 0 4 ∷ []) 0 ≡ 4) × (weight (cell 20 2 3 ∷ cell 0 0 4 ∷ []) 10 ≡ 0)
unfolding weight
weighs = (refl, refl, refl)
