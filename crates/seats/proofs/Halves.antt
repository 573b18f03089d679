-- Six steps up find the last of 64 entries that passes, where an entry passes if a later one does.
use mathlib.Core.Path.{◌≡◌, refl, subst}
use mathlib.Core.Bool.{Bool, true, false, not}
use mathlib.Core.Logic.{◌⊎◌, inl, inr}
use mathlib.Core.List.{List, [], ◌∷◌}
use Prim.Native.Nat.{ℕ, zero, suc, ◌+◌, ◌≤◌, ◌<◌}
use native.Mathlib.Omega.{arith}
use lib.Dec.{T, not_T}
use lib.ListN.{length, drop, get_or}
use Rattle.lists.specs.Lists.{total}
use Rattle.std.proofs.Common.{if◌then◌else◌}
use Rattle.seats.specs.Halves.{climb, halved, Last}

-- the steps of a list, in turn
abbrev pub climbs : (ℕ → Bool) → ℕ → List ℕ → ℕ
climbs t s [] = s
climbs t s (step ∷ steps) = climbs t (climb t s step) steps

pub climbs-turn : (t : ℕ → Bool) (s k : ℕ) (steps : List ℕ) → k < length steps → climbs t s (drop k steps) ≡ climbs t (climb t s (get_or steps k 0)) (drop (suc k) steps)
climbs-turn t s k [] h = absurd (omega arith)
climbs-turn t s zero (x ∷ xs) h = refl
climbs-turn t s (suc k) (x ∷ xs) h = climbs-turn t s k xs (omega arith)

-- how far they go at most
pub total-turn : (k : ℕ) (steps : List ℕ) → k < length steps → total (drop k steps) ≡ get_or steps k 0 + total (drop (suc k) steps)
total-turn k [] h = absurd (omega arith)
total-turn zero (x ∷ xs) h = refl
total-turn (suc k) (x ∷ xs) h = total-turn k xs (omega arith)

pub climbs-halved : (t : ℕ → Bool) (a : ℕ) → climbs t a (32 ∷ 16 ∷ 8 ∷ 4 ∷ 2 ∷ 1 ∷ []) ≡ halved t a
unfolding halved
climbs-halved t a = refl

module _ (t : ℕ → Bool) (s step : ℕ) where
  pub climb-up : t (s + step) ≡ true → climb t s step ≡ s + step
  unfolding climb
  climb-up e = rw e refl

  pub climb-stay : t (s + step) ≡ false → climb t s step ≡ s
  unfolding climb
  climb-stay e = rw e refl

-- Entry s passes or is the first, and none passes from s + w on.
record Within (t : ℕ → Bool) (a s w : ℕ) : Type 0 where
  pub from : a ≤ s
  pub to : s + w ≤ a + 64
  pub low : (s ≡ a) ⊎ T (t s)
  pub high : (k : ℕ) → s + w ≤ k → k < a + 64 → T (not (t k))

abbrev pub Falling : (ℕ → Bool) → ℕ → Type 0
Falling t a = (i j : ℕ) → a < i → i ≤ j → j < a + 64 → T (t j) → T (t i)

module _ (t : ℕ → Bool) (a : ℕ) (falls : Falling t a) where
  step : (s d : ℕ) → 0 < d → Within t a s (d + d) → Within t a (climb t s d) d
  unfolding climb
  step s d u w = go (t (s + d)) refl
    where
      go : (b : Bool) → t (s + d) ≡ b → Within t a (if b then s + d else s) d
      go true e = record { from = omega arith; to = omega arith; low = inr (rw e tt); high = λ k l m. w.high k (omega arith) m }
      go false e = record { from = omega arith; to = omega arith; low = w.low; high = λ k l m. not_T (t k) (λ p. subst T e (falls (s + d) k (omega arith) l m p)) }

  pub halved-last : Last t a (halved t a)
  unfolding halved
  halved-last =
      let b = climb t a 32 in
      let c = climb t b 16 in
      let d = climb t c 8 in
      let e = climb t d 4 in
      let f = climb t e 2 in
      let w : Within t a a 64 = record { from = omega arith; to = omega arith; low = inl refl; high = λ k l m. absurd (omega arith) } in
      let v : Within t a (climb t f 1) 1 = step f 1 (omega arith) (step e 2 (omega arith) (step d 4 (omega arith) (step c 8 (omega arith) (step b 16 (omega arith) (step a 32 (omega arith) w))))) in
      record { from = v.from; to = omega arith; low = v.low; high = λ k l m. v.high k (omega arith) m }
