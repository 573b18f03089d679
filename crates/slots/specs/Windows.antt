-- Document 01: a window of level l is 2^l segments starting at a multiple of 2^l.
use Rattle.std.specs.Prelude.{ℕ, ◌*◌, ◌/◌, ◌^◌, List, length, take, drop}
use Rattle.slots.specs.Segments.{Segments, keys}

-- The window round segment s: where it begins, and its part of a list with an entry for each segment.
abbrev pub start : ℕ → ℕ → ℕ
start l s = s / 2 ^ l * 2 ^ l

abbrev pub window {ℓ} : {A : Type ℓ} → ℕ → ℕ → List A → List A
window l s xs = take (2 ^ l) (drop (start l s) xs)

-- The keys in it.
abbrev pub count : ℕ → ℕ → Segments → ℕ
count l s ss = length (keys (window l s ss))
