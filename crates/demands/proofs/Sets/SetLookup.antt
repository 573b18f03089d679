-- Lookup is answered as the plain set answers.
use mathlib.Core.Path.{◌≡◌, refl}
use mathlib.Core.Bool.{Bool, true, false}
use Prim.Native.Nat.{ℕ}
use lib.Dec.{eqb}
use Rattle.std.proofs.Common.{if◌then◌else◌}
use Rattle.slots.specs.Segments.{Segments, keys}
use Rattle.slots.specs.Keys.{member, segment_of}
use Rattle.rules.specs.Looking.{Found, not_found, looked_up}
use Rattle.demands.specs.PlainSet as set
use Rattle.demands.proofs.Sets.SetLaws.{has-member}

-- the three answers of a lookup, by its two tests
abbrev chosen : Bool → Bool → ℕ → ℕ → Found
chosen a b s v = if a then not_found 5 else if b then record { number = 0; present = true; segment = s; card = v } else not_found 0

module _ (y : ℕ) (c : ℕ → ℕ) (ss : Segments) where
  -- the number: 5 for key 0, else 0
  pub looked-number : (looked_up y c ss).number ≡ (if eqb y 0 then 5 else 0)
  unfolding looked_up
  looked-number = go (eqb y 0) (member y (keys ss))
    where
      go : (a b : Bool) → (chosen a b (segment_of ss y) (c y)).number ≡ (if a then 5 else 0)
      go true b = refl
      go false true = refl
      go false false = refl

  -- number, present and card, as the set has them, whatever its bounds
  pub lookup-told : (most few : ℕ)
      → set.Found (looked_up y c ss).number (looked_up y c ss).present (looked_up y c ss).card ≡ set.told most few (set.Lookup y) (record { keys = keys ss; card = c })
  unfolding looked_up
  lookup-told most few = rw (has-member y (keys ss)) (go (eqb y 0) (member y (keys ss)))
    where
      go : (a b : Bool) → set.Found (chosen a b (segment_of ss y) (c y)).number (chosen a b (segment_of ss y) (c y)).present (chosen a b (segment_of ss y) (c y)).card
          ≡ (if a then set.Found 5 false 0 else if b then set.Found 0 true (c y) else set.Found 0 false 0)
      go true b = refl
      go false true = refl
      go false false = refl
