-- Two neighbours of a row that change places.
use Rattle.std.specs.Prelude.{ℕ, ◌-◌, List, get_or, set}

-- place i of a row changes places with the one before
abbrev pub ahead_row : ℕ → List ℕ → List ℕ
ahead_row i xs = set (set xs i (get_or xs (i - 1) 0)) (i - 1) (get_or xs i 0)
