-- What the writing of keys and cards into lent outputs leaves and tells.
use Rattle.std.specs.Prelude.{ℕ, ◌+◌, ◌≡◌, List, [], ◌++◌, map, ltb, length, take, drop, get_or, if◌then◌else◌}
use Rattle.slots.specs.Segments.{Segments, keys}
use Rattle.scans.specs.declared.Written.{Written}

-- The room of two outputs that are written side by side.
abbrev pub shorter : ℕ → ℕ → ℕ
shorter a b = if ltb a b then a else b

-- The first n of the keys ks, or all, written into out, and whether any are left.
pub record Wrote (n : ℕ) (ks out : List ℕ) (r : Written) (left : List ℕ) : Type 0 where
  pub written : r.keys ≡ length (take n ks)
  pub more : r.more ≡ ltb (length (take n ks)) (length ks)
  pub output : left ≡ take n ks ++ drop (length (take n ks)) out

-- The cards of the keys xs written into out, where f is the card of each key.
abbrev pub cards_over : (ℕ → ℕ) → List ℕ → List ℕ → List ℕ
cards_over f xs out = map f xs ++ drop (length xs) out

-- The keys from key at of segment s on.
abbrev pub keys_from : ℕ → ℕ → Segments → List ℕ
keys_from s at ss = drop at (get_or ss s []) ++ keys (drop (s + 1) ss)
