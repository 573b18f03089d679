-- Document 01, "Refusal numbers, in order of testing", and document 02's 12 to 15: each row in words about single slots, cards, cells
-- and bytes.
use Rattle.std.specs.Prelude.{ℕ, ◌+◌, ◌*◌, ◌/◌, ◌^◌, ◌≤◌, ◌<◌, ◌≡◌, ◌⊎◌, ◌≢◌, List, [], ◌∷◌, ◌++◌, length, take, drop, get_or}
use Rattle.slots.specs.Segments.{live}
use Rattle.slots.specs.Windows.{start}
use Rattle.levels.specs.Tables.{table_size, entry_at}
use Rattle.slots.specs.Orders.{slot_at}
use Rattle.cells.specs.declared.Cell.{Cell}
use Rattle.cells.specs.Cells.{zero_cell}
use Rattle.forecast.specs.declared.Forecast.{Forecast}
use Rattle.forecast.specs.Cells.{cells}
use Rattle.rules.specs.Profiles.{profile_of, most}
use Rattle.rules.specs.declared.Record.{Record}
use Rattle.rules.specs.Runs.{record_of}
use Rattle.rules.specs.Lent.{Lent}
use Rattle.rules.specs.Calls.{request, Worked}

-- A row: its number, and when it is given.
pub record Row : Type 1 where
  pub no : ℕ
  pub when : Type 0

-- n is the number of the first row that applies, or 0 where none does.
abbrev pub Tells : List Row → ℕ → Type 0
Tells [] n = n ≡ 0
Tells (r ∷ rs) n = (r.when × (n ≡ r.no)) ⊎ ((¬ r.when) × Tells rs n)

-- None of the rows applies.
abbrev pub NoneOf : List Row → Type 0
NoneOf [] = Unit {0}
NoneOf (r ∷ rs) = (¬ r.when) × NoneOf rs

-- 15: unknown profile, tested first of all.
abbrev pub row15 : ℕ → Row
row15 profile = record { no = 15; when = (profile ≢ 1) × (profile ≢ 2) }

-- 1: length is not 64 × 2^h, h from 1 to 6.
abbrev pub row1 : List ℕ → Row
row1 slots = record { no = 1; when = (h : ℕ) → 1 ≤ h → h ≤ 6 → length slots ≢ 64 * 2 ^ h }

-- 12: card array of another length than its list.
abbrev pub row12 : Lent → Row
row12 L = record { no = 12; when = length L.cards ≢ length L.slots }

-- 2: keys not strictly rising, or a key after a gap in a segment.
abbrev pub NotRisingAt : List ℕ → ℕ → ℕ → Type 0
NotRisingAt slots i j = (i < j) × (slot_at slots i ≢ 0) × (slot_at slots j ≢ 0) × (slot_at slots j ≤ slot_at slots i)

abbrev pub AfterGapAt : List ℕ → ℕ → ℕ → Type 0
AfterGapAt slots i j = (i < j) × (i / 64 ≡ j / 64) × (slot_at slots i ≡ 0) × (slot_at slots j ≢ 0)

abbrev pub row2 : List ℕ → Row
row2 slots = record { no = 2; when = ((i : ℕ) × (j : ℕ) × NotRisingAt slots i j) ⊎ ((i : ℕ) × (j : ℕ) × AfterGapAt slots i j) }

-- 13: a card in a gap.
abbrev pub row13 : Lent → Row
row13 L = record { no = 13; when = (i : ℕ) × (i < length L.slots) × (slot_at L.slots i ≡ 0) × (get_or L.cards i 0 ≢ 0) }

-- 3: over 32 × 2^h keys; in the second profile over 44 × 2^h.
abbrev pub row3 : ℕ → List ℕ → Row
row3 profile slots = record { no = 3; when = (h : ℕ) × (length slots ≡ 64 * 2 ^ h) × (most (profile_of profile) * 2 ^ h < length (live slots)) }

-- 4: the forecast uses over P cells; or a used cell's count is not 1 to P, its marker is another's or neither 0 nor live, or its segment
-- is wrong; or an unused cell is not all zeros.
abbrev pub cell_of : Forecast → ℕ → Cell
cell_of F i = get_or (cells F) i zero_cell

abbrev pub NotLiveAt : List ℕ → ℕ → Type 0
NotLiveAt slots x = (x ≢ 0) × ((t : ℕ) → t < length slots → slot_at slots t ≢ x)

abbrev pub WrongSegment : List ℕ → Cell → Type 0
WrongSegment slots c =
    ((c.marker ≡ 0) × (c.segment ≢ 0))
    ⊎ ((c.marker ≢ 0) × ((t : ℕ) × (t < length slots) × (slot_at slots t ≡ c.marker) × (c.segment ≢ t / 64)))

pub data BadCell (P : ℕ) (slots : List ℕ) (F : Forecast) (i : ℕ) : Type 0 where
  no_count : (cell_of F i).count < 1 → BadCell P slots F i
  over_count : P < (cell_of F i).count → BadCell P slots F i
  anothers : (j : ℕ) → j < F.used → j ≢ i → (cell_of F j).marker ≡ (cell_of F i).marker → BadCell P slots F i
  not_live : NotLiveAt slots (cell_of F i).marker → BadCell P slots F i
  wrong_segment : WrongSegment slots (cell_of F i) → BadCell P slots F i

pub data BadForecast (P : ℕ) (slots : List ℕ) (F : Forecast) : Type 0 where
  too_many : P < F.used → BadForecast P slots F
  bad_cell : (i : ℕ) → i < F.used → BadCell P slots F i → BadForecast P slots F
  not_zero : (i : ℕ) → F.used ≤ i → i < length (cells F) → cell_of F i ≢ zero_cell → BadForecast P slots F

abbrev pub row4 : List ℕ → Forecast → Row
row4 slots F = record { no = 4; when = (h : ℕ) × (length slots ≡ 64 * 2 ^ h) × BadForecast (6 + h) slots F }

-- 14: table of the wrong length or with a wrong entry: the entry of the window of level l round segment s is not the number of keys in the
-- window's slots.
abbrev pub keys_in : List ℕ → ℕ → ℕ → ℕ
keys_in slots l s = length (live (take (64 * 2 ^ l) (drop (64 * start l s) slots)))

pub data WrongTable (h : ℕ) (L : Lent) : Type 0 where
  wrong_size : length L.table ≢ table_size h → WrongTable h L
  wrong_entry : (l s : ℕ) → l ≤ h → s < 2 ^ h → get_or L.table (entry_at h l s) 0 ≢ keys_in L.slots l s → WrongTable h L

abbrev pub row14 : Lent → Row
row14 L = record { no = 14; when = (h : ℕ) × (length L.slots ≡ 64 * 2 ^ h) × WrongTable h L }

-- A table to be filled is tested for its length only.
abbrev pub row14_size : Lent → Row
row14_size L = record { no = 14; when = (h : ℕ) × (length L.slots ≡ 64 * 2 ^ h) × (length L.table ≢ table_size h) }

-- 5: the key of an insert, delete or lookup is 0.
abbrev pub row5 : ℕ → Row
row5 y = record { no = 5; when = y ≡ 0 }

-- 6: insert: key present. 7: delete: key absent.
abbrev pub PresentIn : List ℕ → ℕ → Type 0
PresentIn slots y = (i : ℕ) × (i < length slots) × (slot_at slots i ≡ y)

abbrev pub row6 : List ℕ → ℕ → Row
row6 slots y = record { no = 6; when = PresentIn slots y }

abbrev pub row7 : List ℕ → ℕ → Row
row7 slots y = record { no = 7; when = ¬ (PresentIn slots y) }

-- 8: insert: list already holds 32 × 2^h keys; in the second profile 44 × 2^h.
abbrev pub row8 : ℕ → List ℕ → Row
row8 profile slots = record { no = 8; when = (h : ℕ) × (length slots ≡ 64 * 2 ^ h) × (most (profile_of profile) * 2 ^ h ≤ length (live slots)) }

-- 9: run: short record (under 11 bytes; of kind 4 under 15), wrong mark or wrong kind, at byte place p.
pub data BadRecord (bytes : List ℕ) (p : ℕ) : Type 0 where
  short : length bytes < p + 11 → BadRecord bytes p
  short_card : get_or bytes (p + 2) 0 ≡ 4 → length bytes < p + 15 → BadRecord bytes p
  first_mark : get_or bytes p 0 ≢ 0xA5 → BadRecord bytes p
  second_mark : get_or bytes (p + 1) 0 ≢ 0x5A → BadRecord bytes p
  wrong_kind : get_or bytes (p + 2) 0 ≢ 1 → get_or bytes (p + 2) 0 ≢ 2 → get_or bytes (p + 2) 0 ≢ 4 → BadRecord bytes p

abbrev pub row9 : List ℕ → ℕ → Row
row9 bytes p = record { no = 9; when = (p < length bytes) × BadRecord bytes p }

-- 10: run: allowance would be passed. W is what the run has done before the record at its place.
abbrev pub row10 : ℕ → List ℕ → ℕ → Worked → Row
row10 profile bytes allowance W = record {
  no = 10;
  when =
      let r : Record = record_of (drop W.reply.tally.place bytes) in
      (W.reply.tally.place < length bytes)
      × (allowance < W.reply.tally.moves + (request profile r.request r.card W.lent W.forecast).answer.moves);
}

-- THE ROWS OF EACH CALL, in order of testing: of the list and its cards, of all that is lent with and without a forecast, then the call's own.
abbrev pub list_rows : ℕ → Lent → List Row
list_rows profile L = row15 profile ∷ row1 L.slots ∷ row12 L ∷ row2 L.slots ∷ row13 L ∷ row3 profile L.slots ∷ []

abbrev pub make_rows : ℕ → Lent → List Row
make_rows profile L = row15 profile ∷ row1 L.slots ∷ row12 L ∷ row14_size L ∷ []

abbrev pub read_rows : ℕ → Lent → List Row
read_rows profile L = list_rows profile L ++ (row14 L ∷ [])

abbrev pub both_rows : ℕ → Lent → Forecast → List Row
both_rows profile L F = list_rows profile L ++ (row4 L.slots F ∷ row14 L ∷ [])

abbrev pub lookup_rows : ℕ → Lent → ℕ → List Row
lookup_rows profile L y = read_rows profile L ++ (row5 y ∷ [])

abbrev pub insert_rows : ℕ → Lent → Forecast → ℕ → List Row
insert_rows profile L F y = both_rows profile L F ++ (row5 y ∷ row6 L.slots y ∷ row8 profile L.slots ∷ [])

abbrev pub delete_rows : ℕ → Lent → Forecast → ℕ → List Row
delete_rows profile L F y = both_rows profile L F ++ (row5 y ∷ row7 L.slots y ∷ [])

-- The rows by which a run stops, and all of a run's; W is what it did before its place.
abbrev pub stop_rows : ℕ → List ℕ → ℕ → Worked → List Row
stop_rows profile bytes allowance W = row9 bytes W.reply.tally.place ∷ row10 profile bytes allowance W ∷ []

abbrev pub run_rows : ℕ → Lent → Forecast → List ℕ → ℕ → Worked → List Row
run_rows profile L F bytes allowance W = both_rows profile L F ++ stop_rows profile bytes allowance W
