-- Refusal 4: the forecast uses over P cells; or a used cell's count is not 1 to P, its marker is another's or neither 0 nor live,
-- or its segment is wrong; or an unused cell is not all zeros. The first bad cell from the head, and why.
use Rattle.std.specs.Prelude.{ℕ, Bool, true, false, Result, Ok, Err, ⊤, not, ◌&&◌, ◌||◌, leb, ltb, eqb, length, take, get_or, if◌then◌else◌}
use Rattle.std.proofs.Math.Option.{none, some}
use Rattle.lists.specs.Lists.{any_of}
use Rattle.lists.specs.Search.{first}
use Rattle.slots.specs.Segments.{Segments, keys}
use Rattle.slots.specs.Keys.{member, segment_of}
use Rattle.cells.specs.declared.Cell.{Cell}
use Rattle.cells.specs.Cells.{zero_cell, marks}
use Rattle.forecast.specs.declared.Forecast.{Forecast}
use Rattle.forecast.specs.declared.Fault.{Fault}
use Rattle.forecast.specs.declared.Fault.TheVariants.{TooMany, NotZero, Count, Repeated, NotLive, Misplaced}
use Rattle.forecast.specs.Cells.{cells}

abbrev pub is_zero : Cell → Bool
is_zero c = eqb c.marker 0 && eqb c.segment 0 && eqb c.count 0

-- What is wrong with a used cell's marker or segment, if anything. It is cell i.
abbrev pub marker_fault : Segments → Cell → ℕ → Result ⊤ Fault
marker_fault ss c i =
    if not (eqb c.marker 0 || member c.marker (keys ss)) then Err (NotLive i)
    else if not (eqb c.segment (segment_of ss c.marker)) then Err (Misplaced i)
    else Ok tt

-- What is wrong with cell i, if anything.
unfoldable pub fault_at : ℕ → Segments → Forecast → ℕ → Result ⊤ Fault
fault_at P ss F i =
    let c = get_or (cells F) i zero_cell in
    if leb F.used i then (if is_zero c then Ok tt else Err (NotZero i))
    else if ltb c.count 1 || ltb P c.count then Err (Count i)
    else if any_of (marks c.marker) (take i (cells F)) then Err (Repeated i)
    else marker_fault ss c i

abbrev pub is_sound : Result ⊤ Fault → Bool
is_sound (Ok x) = true
is_sound (Err f) = false

unfoldable pub fault_of : ℕ → Segments → Forecast → Result ⊤ Fault
fault_of P ss F =
    let found = first (λ i. not (is_sound (fault_at P ss F i))) 0 (length (cells F)) in
    if ltb P F.used then Err TooMany else elim found [ none ↦ Ok tt | some i ↦ fault_at P ss F i ]
