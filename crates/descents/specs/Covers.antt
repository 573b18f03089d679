-- The segments that an entry of the table stands for, and the first of them that is not empty.
use Rattle.std.specs.Prelude.{ℕ, ◌+◌, ◌*◌, ◌≤◌, ◌<◌, ◌≡◌, ◌≢◌, List, get_or}

-- Entry e stands for the m segments from a on.
pub data Covers (n : ℕ) : ℕ → ℕ → ℕ → Type 0 where
  leaf : {e a m : ℕ} → e < n → a ≡ e → m ≡ 1 → Covers n e a m
  node : {e a m : ℕ} (i p : ℕ) → e ≡ n + i → m ≡ p + p → i + 1 < n → Covers n (2 * i) a p → Covers n (2 * i + 1) (a + p) p → Covers n e a m

-- Of the m segments from a on, r is the first that is not empty.
pub record FirstIn (t : List ℕ) (a m r : ℕ) : Type 0 where
  pub from : a ≤ r
  pub to : r < a + m
  pub some : get_or t r 0 ≢ 0
  pub before : (k : ℕ) → a ≤ k → k < r → get_or t k 0 ≡ 0
