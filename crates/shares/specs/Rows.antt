-- Rows of shares, as the code reads them.
use Rattle.std.specs.Prelude.{ℕ, ◌≤◌, ◌<◌, ◌≡◌, List, length, get_or}
use Rattle.rules.specs.Shares.{Shares, shares, capacity, sparse_below, cells_of}
use Rattle.shares.specs.declared.Shape.{Shape}

-- A row has a share for each level up to the whole array's.
pub record Row (height : ℕ) (share : ℕ → ℕ) (row : List ℕ) : Type 0 where
  pub long : height < length row
  pub is : (l : ℕ) → l ≤ height → get_or row l 0 ≡ share l

-- Rows of low and high shares.
pub record Rows (S : Shares) (lows highs : List ℕ) : Type 0 where
  pub low : Row S.height S.low lows
  pub high : Row S.height S.high highs

-- The shares that a shape keeps to, by its profile and height.
abbrev pub shares_at : Shape → Shares
shares_at k = shares k.profile k.height

-- A shape fetched for shares S.
pub record Fetched (S : Shares) (k : Shape) : Type 0 where
  pub height : k.height ≡ S.height
  pub cells : k.cells ≡ cells_of S
  pub capacity : k.capacity ≡ capacity S
  pub floor : k.floor ≡ sparse_below S
  pub high : k.high ≡ S.high 0
  pub low : k.low ≡ S.low 0
  pub rows : Rows S k.levels.lows k.levels.highs
