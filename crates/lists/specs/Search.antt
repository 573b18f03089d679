-- The first that passes a test: of numbers, and of the elements of a list.
use Rattle.std.specs.Prelude.{ℕ, zero, suc, Bool, List, [], ◌∷◌, if◌then◌else◌}
use Rattle.std.proofs.Math.Option.{Option, none, some}

-- the first of n numbers from i upward that passes
abbrev pub first : (ℕ → Bool) → ℕ → ℕ → Option ℕ
first ok i zero = none
first ok i (suc n) = let later = first ok (suc i) n in if ok i then some i else later

-- the place of the first element that passes; the length where none does
abbrev pub place_by {ℓ} : {A : Type ℓ} → (A → Bool) → List A → ℕ
place_by p [] = 0
place_by p (x ∷ xs) = let later = suc (place_by p xs) in if p x then 0 else later
