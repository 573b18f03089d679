-- What the code on a table asks and promises.
use Rattle.std.specs.Prelude.{ℕ, ◌+◌, ◌*◌, ◌^◌, ◌≤◌, ◌≡◌, List, length, take, get_or}
use Rattle.lists.specs.Lists.{total}
use Rattle.levels.specs.Levels.{levels}

-- A table over n segments, a power of two, whose first n counts are those of at most 4,096 keys.
pub record Sized (n : ℕ) (t : List ℕ) : Type 0 where
  pub height : ℕ
  pub size : n ≡ 2 ^ height
  pub long : length t + 1 ≡ 2 * n
  pub few : total (take n t) ≤ 4096

-- One that is right for them.
pub record Summed (n : ℕ) (t : List ℕ) : Type 0 where
  pub sized : Sized n t
  pub right : t ≡ levels sized.height (take n t)

-- One of at most 64 segments that need not be right, with no entry above 4,096.
pub record Loose (n : ℕ) (t : List ℕ) : Type 0 where
  pub height : ℕ
  pub size : n ≡ 2 ^ height
  pub low : n ≤ 64
  pub long : length t + 1 ≡ 2 * n
  pub small : (k : ℕ) → get_or t k 0 ≤ 4096
