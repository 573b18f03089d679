-- A card in a gap, by the test and by place.
use mathlib.Core.Path.{◌≡◌, refl, subst}
use mathlib.Core.Bool.{false, not, ◌&&◌}
use mathlib.Core.Logic.{inl, inr, ◌≢◌}
use mathlib.Core.List.{List, [], ◌∷◌}
use Prim.Native.Nat.{ℕ, zero, suc, ◌<◌}
use native.Mathlib.Omega.{arith}
use lib.Dec.{T, eqb, eqb→eq}
use lib.ListN.{length, get_or}
use Rattle.lists.proofs.Tests.{tested, neqb→ne, ne→neqb, eq→eqb, or_left, or_right, or_cases, and_left, and_right, and_both}
use Rattle.rules.specs.Cards.{gap_card}

-- slot i is a gap, and its card is not 0
abbrev pub GapCardAt : List ℕ → List ℕ → ℕ → Type 0
GapCardAt slots cards i = (i < length slots) × (get_or slots i 0 ≡ 0) × (get_or cards i 0 ≢ 0)

pub gap-found : (slots cards : List ℕ) → T (gap_card slots cards) → (i : ℕ) × GapCardAt slots cards i
gap-found [] cards t = absurd t
gap-found (x ∷ slots) [] t = absurd t
gap-found (x ∷ slots) (v ∷ cards) t =
    elim (or_cases (eqb x 0 && not (eqb v 0)) (gap_card slots cards) t) [
      | inl h ↦ (0, (omega arith, eqb→eq x 0 (and_left (eqb x 0) (not (eqb v 0)) h), neqb→ne v 0 (and_right (eqb x 0) (not (eqb v 0)) h)))
      | inr h ↦ let r = gap-found slots cards h in (suc r.0, (omega (arith, r.1.0), r.1.1, r.1.2))
    ]

pub gap-tested : (slots cards : List ℕ) (i : ℕ) → GapCardAt slots cards i → T (gap_card slots cards)
gap-tested [] cards i g = absurd (omega (arith, g.0))
gap-tested (x ∷ slots) [] i g = absurd (g.2 refl)
gap-tested (x ∷ slots) (v ∷ cards) zero g =
    or_left (eqb x 0 && not (eqb v 0)) (gap_card slots cards) (and_both (eqb x 0) (not (eqb v 0)) (eq→eqb x 0 g.1) (ne→neqb v 0 g.2))
gap-tested (x ∷ slots) (v ∷ cards) (suc i) g =
    or_right (eqb x 0 && not (eqb v 0)) (gap_card slots cards) (gap-tested slots cards i (omega (arith, g.0), g.1, g.2))

-- no card in a gap: beside each gap stands 0
pub gap-clean : (slots cards : List ℕ) → gap_card slots cards ≡ false → (i : ℕ) → i < length slots → get_or slots i 0 ≡ 0 → get_or cards i 0 ≡ 0
gap-clean slots cards e i h z =
    elim (tested (eqb (get_or cards i 0) 0)) [
      | inl t ↦ eqb→eq (get_or cards i 0) 0 t
      | inr t ↦ absurd (subst T e (gap-tested slots cards i (h, z, neqb→ne (get_or cards i 0) 0 t)))
    ]
