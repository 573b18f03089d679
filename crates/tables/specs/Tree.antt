-- The table as a tree: the halves of entry n + i are entries 2i and 2i + 1, and entries below n are the segments.
use Rattle.std.specs.Prelude.{ℕ, ◌+◌, ◌-◌, ◌*◌, ◌≤◌, ◌<◌, ◌≡◌, ◌⊎◌, List, length, get_or}

-- Each entry above the segments is the sum of its halves.
abbrev pub Sums : ℕ → List ℕ → Type 0
Sums n t = (i : ℕ) → i + 1 < n → get_or t (n + i) 0 ≡ get_or t (2 * i) 0 + get_or t (2 * i + 1) 0

-- Each that has neither half among entries a to z is.
abbrev pub SumsBut : ℕ → ℕ → ℕ → List ℕ → Type 0
SumsBut n a z t = (i : ℕ) → i + 1 < n → (2 * i + 1 < a) ⊎ (z < 2 * i) → get_or t (n + i) 0 ≡ get_or t (2 * i) 0 + get_or t (2 * i + 1) 0

-- Entries a to z are made the sums of their halves, and no other changes.
pub record Resummed (n a z : ℕ) (t t' : List ℕ) : Type 0 where
  pub long : length t' ≡ length t
  pub sums : (k : ℕ) → a ≤ k → k ≤ z → get_or t' k 0 ≡ get_or t (2 * (k - n)) 0 + get_or t (2 * (k - n) + 1) 0
  pub others : (k : ℕ) → (k < a) ⊎ (z < k) → get_or t' k 0 ≡ get_or t k 0
