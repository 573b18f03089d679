-- Cards gathered from the gaps of each segment, one segment after the other, tell whether a gap has a card.
use mathlib.Core.Path.{◌≡◌, refl, sym, ap, ◌∙◌}
use mathlib.Core.Bool.{not}
use mathlib.Core.Logic.{inl, inr}
use mathlib.Core.List.{List, []}
use Prim.Native.Nat.{ℕ, ◌+◌, ◌-◌, ◌*◌, ◌/◌, ◌%◌, ◌≤◌, ◌<◌}
use native.Mathlib.Omega.{arith}
use borrow.Author.Count.{below_more}
use lib.Bits.{bit_or}
use lib.Dec.{T, eqb}
use lib.ListN.{length, take, drop, get_or, get_or-eq_default}
use lib.Seq.{get_or-take, get_or-drop}
use Rattle.lists.proofs.Tests.{tested, same_test, is_false, ne→neqb, neqb→ne}
use Rattle.slots.specs.Segments.{Segments}
use Rattle.slots.specs.Orders.{slot_at}
use Rattle.slots.specs.Shown.{Shows, CountsOf}
use Rattle.slots.proofs.Keys.{in-part}
use Rattle.slots.proofs.Padded.{past-keys}
use Rattle.slots.proofs.Render.{length-render, slot-render}
use Rattle.rules.specs.Cards.{gap_card}
use Rattle.demands.proofs.Cards.Gaps.{gap-found, gap-clean}
use Rattle.strays.specs.declared.Lanes.{Lanes}
use Rattle.strays.specs.Blanks.{Blank, Clear, Gathers}
use Rattle.strays.proofs.Gathered.{or-three}

-- no gap of the first s segments has a card; the lanes are 0 where that is so, and nowhere else
abbrev Bare : List ℕ → List ℕ → ℕ → Type 0
Bare cards counts s = (k : ℕ) → k < s → Blank cards (64 * k + get_or counts k 0) (64 * k + 64)

pub record Told (cards counts : List ℕ) (s : ℕ) (l : Lanes) : Type 0 where
  pub clear : Bare cards counts s → Clear l
  pub bare : Clear l → Bare cards counts s

module _ (cards counts : List ℕ) where
  pub told_none : Told cards counts 0 (record { w = 0; x = 0; y = 0; z = 0 })
  told_none = record { clear = λ b. (refl, refl, refl, refl); bare = λ c k h. absurd (omega arith) }

  -- with the gaps of segment s
  pub told_more : (s : ℕ) (l r : Lanes) → Told cards counts s l → Gathers (take (64 * s + 64 - 64 * s) (drop (64 * s) cards)) (get_or counts s 0) 64 l r → Told cards counts (s + 1) r
  told_more s l r t f = record {
    clear = λ b. f.none (t.clear (λ k h. b k (omega arith))) (λ j u v. part j v ∙ b s (omega arith) (64 * s + j) (omega arith) (omega arith));
    bare = λ c. below_more _ _ (t.bare (f.before c))
        (λ i u v.
        let e : 64 * s + (i - 64 * s) ≡ i = omega arith in
        ap (λ (k : ℕ). get_or cards k 0) (sym e) ∙ sym (part (i - 64 * s) (omega arith)) ∙ f.blank c (i - 64 * s) (omega arith) (omega arith));
  }
    where
      part : (j : ℕ) → j < 64 → get_or (take (64 * s + 64 - 64 * s) (drop (64 * s) cards)) j 0 ≡ get_or cards (64 * s + j) 0
      part j h = get_or-take (64 * s + 64 - 64 * s) (drop (64 * s) cards) j 0 (omega arith) ∙ get_or-drop (64 * s) cards j 0

  -- of all segments: the gaps of the slots that show them
  module _ (ss : Segments) (slots : List ℕ) (sh : Shows ss slots) (n : ℕ) (many : length ss ≡ n) (each : CountsOf ss counts) where
    long : length slots ≡ 64 * n
    long = ap length sh.whole ∙ length-render 0 ss sh.fits ∙ ap (λ (k : ℕ). 64 * k) many

    at : (i : ℕ) → slot_at slots i ≡ slot_at (get_or ss (i / 64) []) (i % 64)
    at i =
        let e : 64 * (i / 64) + i % 64 ≡ i = omega arith in
        ap (slot_at slots) (sym e) ∙ ap (λ (l : List ℕ). slot_at l (64 * (i / 64) + i % 64)) sh.whole ∙ slot-render 0 ss sh.fits (i / 64) (i % 64) (omega arith)

    clean-bare : ((i : ℕ) → i < length slots → slot_at slots i ≡ 0 → get_or cards i 0 ≡ 0) → Bare cards counts n
    clean-bare h k l i u v =
        let e : i / 64 ≡ k = omega arith in
        let past : length (get_or ss (i / 64) []) ≤ i % 64 = rw e (omega (arith, each k (omega arith))) in
        h i (omega (arith, long)) (at i ∙ get_or-eq_default (get_or ss (i / 64) []) 0 past)

    bare-clean : Bare cards counts n → (i : ℕ) → i < length slots → slot_at slots i ≡ 0 → get_or cards i 0 ≡ 0
    bare-clean b i l z =
        let k : i / 64 < length ss = omega (arith, long) in
        let past = past-keys (get_or ss (i / 64) []) (i % 64) (λ x m. sh.listed.live x (in-part ss (i / 64) k x m)) (sym (at i) ∙ z) in
        b (i / 64) (omega arith) i (omega (arith, past, each (i / 64) k)) (omega arith)

    module _ (l : Lanes) (t : Told cards counts n l) where
      abbrev all : ℕ
      all = bit_or (bit_or (bit_or l.w l.x) l.y) l.z

      lanes : all ≡ 0 → Clear l
      lanes e =
          let two = (or-three (bit_or l.w l.x) l.y l.z).0 e in
          let one = (or-three 0 l.w l.x).0 two.0 in
          (one.1, one.2, two.1, two.2)

      none : Clear l → all ≡ 0
      none c = (or-three (bit_or l.w l.x) l.y l.z).1 ((or-three 0 l.w l.x).1 (refl, c.0, c.1), c.2, c.3)

      pub told-gap : not (eqb all 0) ≡ gap_card slots cards
      told-gap = same_test (not (eqb all 0)) (gap_card slots cards) some found
        where
          some : T (not (eqb all 0)) → T (gap_card slots cards)
          some u =
              elim (tested (gap_card slots cards)) [
                | inl g ↦ g
                | inr g ↦ absurd (neqb→ne all 0 u (none (t.clear (clean-bare (gap-clean slots cards (is_false (gap_card slots cards) g))))))
              ]

          found : T (gap_card slots cards) → T (not (eqb all 0))
          found g =
              let f = gap-found slots cards g in
              ne→neqb all 0 (λ e. f.1.2 (bare-clean (t.bare (lanes e)) f.0 f.1.0 f.1.1))
