-- All of a packed window, and the two halves of a part.
use Rattle.std.specs.Prelude.{ℕ, ◌+◌, ◌-◌, List, length}
use Rattle.lists.specs.Lists.{total}
use Rattle.stretches.specs.declared.Part.{Part}
use Rattle.stretches.specs.declared.Passed.{Passed}

-- All m keys of a window with these marks' weights, and the front's f.
abbrev pub whole_of : List ℕ → ℕ → ℕ → Part
whole_of weights m f = record { place = 0; keys = m; from = 0; to = length weights; front = f; all = f + total weights }

-- Of a part, the first i keys and the others, with r passed up to there. The front belongs to the first ones.
abbrev pub left_of : Part → ℕ → Passed → Part
left_of p i r = record { place = p.place; keys = i; from = p.from; to = r.next; front = p.front; all = r.left }

abbrev pub right_of : Part → ℕ → Passed → Part
right_of p i r = record { place = p.place + i; keys = p.keys - i; from = r.next; to = p.to; front = 0; all = p.all - r.left }
