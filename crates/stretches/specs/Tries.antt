-- What one try, the nearer of two, and the looks at a stretch give: formula 6 of document 01 by the weights left and right.
use Rattle.std.specs.Prelude.{ℕ, ◌+◌, ◌-◌, ◌*◌, ◌/◌, ◌≤◌, ◌<◌, max, min, if◌then◌else◌}
use Rattle.rules.specs.SharingOut.{Fraction, distance, less}
use Rattle.stretches.specs.declared.Stretch.{Stretch}
use Rattle.stretches.specs.declared.Tried.{Tried}

-- The numbers from first to last of m keys for the left of two halves of c slots each, at which neither denominator is 0.
pub record Halves (c m first last : ℕ) : Type 0 where
  pub some : first ≤ last
  pub inside : last ≤ m
  pub left : last < c
  pub right : m < c + first
  pub small : c ≤ 2048

abbrev pub fraction : Tried → Fraction
fraction t = record { num = t.num; den = t.den }

-- i keys, at this distance
abbrev pub tried_of : ℕ → Fraction → Tried
tried_of i d = record { keys = i; num = d.num; den = d.den }

abbrev pub tried_with : (left right c m i : ℕ) → Tried
tried_with left right c m i = tried_of i (distance left (c - i) right (c + i - m))

-- a distance whose cross products fit 64 bits
pub record Modest (t : Tried) : Type 0 where
  pub num : t.num ≤ 614400
  pub den : t.den ≤ 4194304

-- b where its distance is strictly smaller
abbrev pub nearer_of : Tried → Tried → Tried
nearer_of a b = if less (fraction b) (fraction a) then b else a

-- The first number from 1 up that is past the crossing: the left fraction is above the right one, left/(c − i) > right/(c + i − m).
unfoldable pub past_crossing : (left right c m : ℕ) → ℕ
past_crossing left right c m = (right * c + left * m - left * c) / (left + right) + 1

-- The weights left and right of a stretch are small, and not both 0.
pub record Weighted (s : Stretch) : Type 0 where
  pub left : s.left ≤ 300
  pub right : s.right ≤ 300
  pub some : 0 < s.left + s.right

-- i, or the end of the stretch that is nearest to it, tried
abbrev pub tried_in : Stretch → (c m i : ℕ) → Tried
tried_in s c m i = tried_with s.left s.right c m (max s.first (min i s.last))

-- The nearest of what was found before and the two numbers of a stretch round the crossing: the last that is not past it and the first past it,
-- or the end of the stretch that is nearest.
unfoldable pub nearest_of : Tried → Stretch → (c m : ℕ) → Tried
nearest_of found s c m =
    let past : ℕ = past_crossing s.left s.right c m in
    nearer_of (nearer_of found (tried_in s c m (past - 1))) (tried_in s c m past)
