-- Document 01, "Sharing out a swept window": how many keys each segment gets, and the keys dealt out so.
use Rattle.std.specs.Prelude.{ℕ, zero, suc, ◌+◌, ◌-◌, ◌*◌, ◌/◌, ◌^◌, min, max, Bool, List, [], ◌∷◌, ◌++◌, map, ltb, eqb, length, take, drop, if◌then◌else◌}
use Rattle.lists.specs.Lists.{total, deal}
use Rattle.slots.specs.Segments.{Segments}
use Rattle.rules.specs.Shares.{Shares}

-- An exact fraction; two are compared by cross products of whole numbers.
pub record Fraction : Type 0 where
  pub num : ℕ
  pub den : ℕ

abbrev pub less : Fraction → Fraction → Bool
less p q = ltb (p.num * q.den) (q.num * p.den)

-- The distance between a/b and c/d.
abbrev pub distance : ℕ → ℕ → ℕ → ℕ → Fraction
distance a b c d = record { num = (a * d - c * b) + (c * b - a * d); den = b * d }

-- Formula 6 at i: the distance between (left weight)/(C − i) and (right weight)/(C − m + i). ws are the weights of the window's m keys,
-- and f is the front's where the window begins at slot 0, else 0.
abbrev pub formula6 : ℕ → ℕ → List ℕ → ℕ → Fraction
formula6 C f ws i = distance (f + total (take i ws)) (C - i) (total (drop i ws)) (C + i - length ws)

-- Of i .. i + n, the one that makes d least. Ties take the least: only a strictly smaller distance replaces.
abbrev pub least : (ℕ → Fraction) → ℕ → ℕ → ℕ
least d i zero = i
least d i (suc n) = let best = least d i n in if less (d (i + suc n)) (d best) then i + suc n else best

-- What the left half of a window of level l + 1 takes: each half has C = 64 × 2^l slots, and i and m − i both lie from 2^l × low to
-- 2^l × high of level l + 1. With no weight, the front's included, it takes m/2 rounded up.
unfoldable pub left_share : Shares → ℕ → ℕ → List ℕ → ℕ
left_share S l f ws =
    let m : ℕ = length ws in
    let low : ℕ = 2 ^ l * S.low (suc l) in
    let high : ℕ = 2 ^ l * S.high (suc l) in
    let from : ℕ = max low (m - high) in
    let to : ℕ = min high (m - low) in
    if eqb (f + total ws) 0 then (m + 1) / 2 else least (formula6 (64 * 2 ^ l) f ws) from (to - from)

-- Each half is shared out in the same way down to segments: the number of keys of each segment. The front's weight belongs to the
-- left half of any window that begins at slot 0.
unfoldable pub plan : Shares → ℕ → ℕ → List ℕ → List ℕ
plan S zero f ws = length ws ∷ []
plan S (suc l) f ws =
    let i : ℕ = left_share S l f ws in
    plan S l f (take i ws) ++ plan S l 0 (drop i ws)

-- The keys ks of a window of level l, shared out; w is the weight of each key.
unfoldable pub share_out : Shares → (ℕ → ℕ) → ℕ → ℕ → List ℕ → Segments
share_out S w f l ks = deal (plan S l f (map w ks)) ks
