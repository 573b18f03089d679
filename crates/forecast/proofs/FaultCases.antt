-- A computed case for each kind of fault, and for the order in which they are looked for.
use mathlib.Core.Path.{◌≡◌, refl}
use mathlib.Core.List.{List, [], ◌∷◌}
use Prim.Native.Nat.{ℕ}
use Rattle.std.specs.Prelude.{Ok, Err}
use Rattle.lists.specs.Lists.{padded}
use Rattle.slots.specs.Segments.{Segments}
use Rattle.slots.specs.Keys.{segment_of}
use Rattle.cells.specs.declared.Cell.{Cell}
use Rattle.cells.specs.Cells.{cell, zero_cell, row}
use Rattle.forecast.specs.declared.Forecast.{Forecast}
use Rattle.forecast.specs.declared.Fault.TheVariants.{TooMany, NotZero, Count, Repeated, NotLive, Misplaced}
use Rattle.forecast.specs.Cells.{cells, forecast_of}
use Rattle.forecast.specs.Faults.{fault_at, fault_of}

-- keys 10 and 20 in segment 0, 30 in segment 1
abbrev list : Segments
list = (10 ∷ 20 ∷ []) ∷ (30 ∷ []) ∷ []

-- so many cells used, of these
abbrev of : ℕ → List Cell → Forecast
of n cs = record { markers = row (λ c. c.marker) cs; segments = row (λ c. c.segment) cs; counts = row (λ c. c.count) cs; used = n }

-- SOUND
-- cells for a key of each segment and for the front; no cell at all
pub sound : (fault_of 7 list (forecast_of (cell 30 1 7 ∷ cell 0 0 1 ∷ cell 20 0 3 ∷ [])) ≡ Ok tt) × (fault_of 7 list (forecast_of []) ≡ Ok tt)
unfolding fault_of fault_at cells forecast_of padded segment_of
sound = (refl, refl)

-- EACH FAULT
-- more than P cells used: this comes before what is wrong with a cell
pub too_many : fault_of 2 list (of 3 (cell 30 1 0 ∷ cell 0 0 1 ∷ cell 20 0 1 ∷ [])) ≡ Err TooMany
unfolding fault_of fault_at cells padded segment_of
too_many = refl

-- an unused cell is not all zeros: its marker, its segment or its count
pub not-zero : (fault_of 7 list (of 1 (cell 30 1 1 ∷ zero_cell ∷ cell 10 0 0 ∷ [])) ≡ Err (NotZero 2)) × (fault_of 7 list (of 0 (cell 0 1 0 ∷ [])) ≡ Err (NotZero 0))
    × (fault_of 7 list (of 0 (zero_cell ∷ cell 0 0 1 ∷ [])) ≡ Err (NotZero 1))
unfolding fault_of fault_at cells padded segment_of
not-zero = (refl, refl, refl)

-- the twelfth cell is looked at too
pub not-zero-last : fault_of 7 list (of 0 (zero_cell ∷ zero_cell ∷ zero_cell ∷ zero_cell ∷ zero_cell ∷ zero_cell ∷ zero_cell ∷ zero_cell ∷ zero_cell ∷ zero_cell ∷ zero_cell ∷ cell 0 0 1 ∷ [])) ≡ Err (NotZero 11)
unfolding fault_of fault_at cells padded segment_of
not-zero-last = refl

-- a count of 0, and one past P
pub count : (fault_of 7 list (of 2 (cell 30 1 1 ∷ cell 20 0 0 ∷ [])) ≡ Err (Count 1)) × (fault_of 7 list (of 2 (cell 30 1 1 ∷ cell 20 0 8 ∷ [])) ≡ Err (Count 1))
unfolding fault_of fault_at cells padded segment_of
count = (refl, refl)

-- the later of two cells with one marker; the front's counts as one
pub repeats : (fault_of 7 list (of 3 (cell 30 1 1 ∷ cell 20 0 2 ∷ cell 30 1 1 ∷ [])) ≡ Err (Repeated 2)) × (fault_of 7 list (of 2 (cell 0 0 1 ∷ cell 0 0 1 ∷ [])) ≡ Err (Repeated 1))
unfolding fault_of fault_at cells padded segment_of
repeats = (refl, refl)

-- a marker that is no key of the list
pub not_live : fault_of 7 list (of 2 (cell 30 1 1 ∷ cell 15 0 1 ∷ [])) ≡ Err (NotLive 1)
unfolding fault_of fault_at cells padded segment_of
not_live = refl

-- a key's segment that is another; the front's that is not 0
pub misplaced : (fault_of 7 list (of 1 (cell 30 0 1 ∷ [])) ≡ Err (Misplaced 0)) × (fault_of 7 list (of 1 (cell 0 1 1 ∷ [])) ≡ Err (Misplaced 0))
unfolding fault_of fault_at cells padded segment_of
misplaced = (refl, refl)

-- THE ORDER
-- of two bad cells, the one nearer the head, whatever is wrong with it
pub nearer-head : (fault_of 7 list (of 2 (cell 30 0 1 ∷ cell 20 0 0 ∷ [])) ≡ Err (Misplaced 0)) × (fault_of 7 list (of 1 (cell 15 0 1 ∷ cell 0 0 1 ∷ [])) ≡ Err (NotLive 0))
unfolding fault_of fault_at cells padded segment_of
nearer-head = (refl, refl)

-- within a cell: its count, then its marker repeated, then not live, then its segment
pub within-a-cell : (fault_of 7 list (of 2 (cell 30 1 1 ∷ cell 30 0 9 ∷ [])) ≡ Err (Count 1)) × (fault_of 7 list (of 1 (cell 15 9 0 ∷ [])) ≡ Err (Count 0))
    × (fault_of 7 list (of 2 (cell 30 1 1 ∷ cell 30 0 1 ∷ [])) ≡ Err (Repeated 1)) × (fault_of 7 list (of 1 (cell 15 9 1 ∷ [])) ≡ Err (NotLive 0))
unfolding fault_of fault_at cells padded segment_of
within-a-cell = (refl, refl, refl, refl)
