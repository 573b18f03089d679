-- Totals as words.
use Rattle.std.specs.Prelude.{ℕ, List, [], ◌∷◌, get_or}
use Rattle.rules.specs.declared.Totals.{Totals}

-- Totals travel as four words of 32 bits: worked, refused, moved, sweeps.
abbrev pub totals_in : List ℕ → Totals
totals_in ws = record { worked = get_or ws 0 0; refused = get_or ws 1 0; moved = get_or ws 2 0; sweeps = get_or ws 3 0 }

abbrev pub totals_words : Totals → List ℕ
totals_words T = T.worked ∷ T.refused ∷ T.moved ∷ T.sweeps ∷ []
