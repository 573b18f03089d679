-- The same table from the counts of the segments, and the walk from a segment's entry up to the root.
use Rattle.std.specs.Prelude.{ℕ, zero, suc, ◌+◌, ◌/◌, List, [], ◌∷◌, ◌++◌}

-- The counts of the level above are the sums of neighbours, two and two.
abbrev pub paired : List ℕ → List ℕ
paired [] = []
paired (a ∷ []) = []
paired (a ∷ b ∷ ns) = (a + b) ∷ paired ns

-- The counts ns of a level, and of the h levels above it.
unfoldable pub levels : ℕ → List ℕ → List ℕ
levels zero ns = ns
levels (suc h) ns = ns ++ levels h (paired ns)

-- The entry of the window of level l round segment s, where there are n segments: the entry above e is n + e / 2.
abbrev pub entry_of : ℕ → ℕ → ℕ → ℕ
entry_of n s zero = s
entry_of n s (suc l) = n + entry_of n s l / 2
