-- Document 02, (iv): a table with one count for every window of every level, segments first, each level left to right.
use Rattle.std.specs.Prelude.{ℕ, zero, suc, ◌+◌, ◌-◌, ◌/◌, ◌^◌, Bool, true, false, ◌&&◌, List, [], ◌∷◌, ◌++◌, map, eqb, length}
use Rattle.lists.specs.Lists.{parts}
use Rattle.slots.specs.Segments.{Segments, keys}

-- The keys in each of the first n windows of level l.
abbrev pub counts_of : ℕ → ℕ → Segments → List ℕ
counts_of l n ss = map (λ w. length (keys w)) (parts (2 ^ l) n ss)

-- The counts of level l, then those of the k levels above it, up to the one window of level l + k.
abbrev pub counts_from : ℕ → ℕ → Segments → List ℕ
counts_from l zero ss = counts_of l 1 ss
counts_from l (suc k) ss = counts_of l (2 ^ suc k) ss ++ counts_from (suc l) k ss

-- The table of a list of height h: level 0 up to level h.
unfoldable pub table_of : ℕ → Segments → List ℕ
table_of h ss = counts_from 0 h ss

-- It has 2^(h+1) − 1 entries. The levels below level l have 2^(h+1) − 2^(h+1−l) of them; then come the windows of level l.
abbrev pub table_size : ℕ → ℕ
table_size h = 2 ^ suc h - 1

-- The entry of the window of level l round segment s.
abbrev pub entry_at : ℕ → ℕ → ℕ → ℕ
entry_at h l s = 2 ^ suc h - 2 ^ (suc h - l) + s / 2 ^ l

-- Two tables are the same, entry by entry.
abbrev pub same : List ℕ → List ℕ → Bool
same [] [] = true
same [] (b ∷ bs) = false
same (a ∷ xs) [] = false
same (a ∷ xs) (b ∷ bs) = eqb a b && same xs bs
