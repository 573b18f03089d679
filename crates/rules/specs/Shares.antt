-- Document 01, "High and low shares", and document 02, (v): in keys per segment, by profile, height and level.
use Rattle.std.specs.Prelude.{ℕ, suc, ◌+◌, ◌-◌, ◌*◌, ◌/◌, ◌^◌, ◌≤◌, ◌<◌, Bool, ◌&&◌, List, [], ◌∷◌, leb, get_or}
use Rattle.rules.specs.declared.Profile.{Profile}
use Rattle.rules.specs.declared.Profile.TheVariants.{First, Second}

-- The shares that one list keeps to: its height, and the high and low share of each level.
pub record Shares : Type 0 where
  pub height : ℕ
  pub high : ℕ → ℕ
  pub low : ℕ → ℕ

-- First profile: high(h, l) = 32(2h − l)/h rounded down, low(h, l) = 32(h + l)/(5h) rounded up.
-- Second: high(h, l) = 64(92h − 22l)/(100h) rounded down, low(h, l) = 64(8h + 22l)/(100h) rounded up.
abbrev pub high_by : Profile → ℕ → ℕ → ℕ
high_by First h l = 32 * (2 * h - l) / h
high_by Second h l = 64 * (92 * h - 22 * l) / (100 * h)

abbrev pub low_by : Profile → ℕ → ℕ → ℕ
low_by First h l = (32 * (h + l) + (5 * h - 1)) / (5 * h)
low_by Second h l = (64 * (8 * h + 22 * l) + (100 * h - 1)) / (100 * h)

-- The rows of the tables, h = 1 .. 6, each for l = 0 .. h.
abbrev pub high_rows : Profile → List (List ℕ)
high_rows First =
    (64 ∷ 32 ∷ [])
    ∷ (64 ∷ 48 ∷ 32 ∷ [])
    ∷ (64 ∷ 53 ∷ 42 ∷ 32 ∷ [])
    ∷ (64 ∷ 56 ∷ 48 ∷ 40 ∷ 32 ∷ [])
    ∷ (64 ∷ 57 ∷ 51 ∷ 44 ∷ 38 ∷ 32 ∷ [])
    ∷ (64 ∷ 58 ∷ 53 ∷ 48 ∷ 42 ∷ 37 ∷ 32 ∷ [])
    ∷ []
high_rows Second =
    (58 ∷ 44 ∷ [])
    ∷ (58 ∷ 51 ∷ 44 ∷ [])
    ∷ (58 ∷ 54 ∷ 49 ∷ 44 ∷ [])
    ∷ (58 ∷ 55 ∷ 51 ∷ 48 ∷ 44 ∷ [])
    ∷ (58 ∷ 56 ∷ 53 ∷ 50 ∷ 47 ∷ 44 ∷ [])
    ∷ (58 ∷ 56 ∷ 54 ∷ 51 ∷ 49 ∷ 47 ∷ 44 ∷ [])
    ∷ []

abbrev pub low_rows : Profile → List (List ℕ)
low_rows First =
    (7 ∷ 13 ∷ [])
    ∷ (7 ∷ 10 ∷ 13 ∷ [])
    ∷ (7 ∷ 9 ∷ 11 ∷ 13 ∷ [])
    ∷ (7 ∷ 8 ∷ 10 ∷ 12 ∷ 13 ∷ [])
    ∷ (7 ∷ 8 ∷ 9 ∷ 11 ∷ 12 ∷ 13 ∷ [])
    ∷ (7 ∷ 8 ∷ 9 ∷ 10 ∷ 11 ∷ 12 ∷ 13 ∷ [])
    ∷ []
low_rows Second =
    (6 ∷ 20 ∷ [])
    ∷ (6 ∷ 13 ∷ 20 ∷ [])
    ∷ (6 ∷ 10 ∷ 15 ∷ 20 ∷ [])
    ∷ (6 ∷ 9 ∷ 13 ∷ 16 ∷ 20 ∷ [])
    ∷ (6 ∷ 8 ∷ 11 ∷ 14 ∷ 17 ∷ 20 ∷ [])
    ∷ (6 ∷ 8 ∷ 10 ∷ 13 ∷ 15 ∷ 17 ∷ 20 ∷ [])
    ∷ []

abbrev pub row_at : List (List ℕ) → ℕ → ℕ → ℕ
row_at rows h l = get_or (get_or rows (h - 1) []) l 0

abbrev pub shares : Profile → ℕ → Shares
shares p h = record { height = h; high = row_at (high_rows p) h; low = row_at (low_rows p) h }

-- A window of level l is within limits when its count n is from 2^l × low to 2^l × high.
abbrev pub within : Shares → ℕ → ℕ → Bool
within S l n = leb (2 ^ l * S.low l) n && leb n (2 ^ l * S.high l)

-- A list never holds more keys than this (32 × 2^h; second profile: 44 × 2^h), and is sparse below that (13 × 2^h; 20 × 2^h).
abbrev pub capacity : Shares → ℕ
capacity S = 2 ^ S.height * S.high S.height

abbrev pub sparse_below : Shares → ℕ
sparse_below S = 2 ^ S.height * S.low S.height

-- P = 6 + h, the number of cells and the highest count of one.
abbrev pub cells_of : Shares → ℕ
cells_of S = 6 + S.height

-- What sharing out asks of any shares: strictly falling and rising by level, a segment high of at most 64, a gap in every half,
-- and the whole array's low doubled below its high.
pub record Lawful (S : Shares) : Type 0 where
  pub falls : (l : ℕ) → l < S.height → S.high (suc l) < S.high l
  pub rises : (l : ℕ) → l < S.height → S.low l < S.low (suc l)
  pub fits : S.high 0 ≤ 64
  pub gaps : (l : ℕ) → l < S.height → S.high (suc l) < 64
  pub doubled : 2 * S.low S.height < S.high S.height
