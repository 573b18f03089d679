-- Six steps up, by 32, 16, 8, 4, 2 and 1, each taken where the entry there passes a test.
use Rattle.std.specs.Prelude.{ℕ, ◌+◌, ◌≤◌, ◌<◌, ◌≡◌, Bool, not, ◌⊎◌, List, T, ltb, get_or, if◌then◌else◌}

unfoldable pub climb : (ℕ → Bool) → ℕ → ℕ → ℕ
climb t s step = if t (s + step) then s + step else s

unfoldable pub halved : (ℕ → Bool) → ℕ → ℕ
halved t a =
    let b = climb t a 32 in
    let c = climb t b 16 in
    let d = climb t c 8 in
    let e = climb t d 4 in
    let f = climb t e 2 in
    climb t f 1

-- Of the 64 entries from a on, r is the last that passes, or a.
pub record Last (t : ℕ → Bool) (a r : ℕ) : Type 0 where
  pub from : a ≤ r
  pub to : r < a + 64
  pub low : (r ≡ a) ⊎ T (t r)
  pub high : (k : ℕ) → r < k → k < a + 64 → T (not (t k))

-- An entry of the bounds is below a key.
abbrev pub bound_below : List ℕ → ℕ → ℕ → Bool
bound_below bounds key i = ltb (get_or bounds i 0) key
