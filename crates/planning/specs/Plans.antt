-- What a split and a plan ask for: numbers within limits.
use Rattle.std.specs.Prelude.{ℕ, ◌*◌, ◌^◌, ◌≤◌, ◌<◌, ◌≡◌}
use Rattle.rules.specs.Shares.{Shares, Lawful}
use Rattle.rules.specs.Readings.{Limits}

-- A window whose halves have `half` segments each, with m keys, is within its limits, and its high leaves a gap.
pub record Splits (half low high m : ℕ) : Type 0 where
  pub some : 1 ≤ half
  pub small : half ≤ 32
  pub gap : high < 64
  pub least : 2 * (half * low) ≤ m
  pub most : m ≤ 2 * (half * high)

-- A window of level l, with n segments and m keys, of a list with these shares is within its limits.
pub record Planned (S : Shares) (l n m : ℕ) : Type 0 where
  pub lawful : Lawful S
  pub height : S.height ≤ 6
  pub level : l ≤ S.height
  pub segments : n ≡ 2 ^ l
  pub limits : Limits S l l m
