-- Laws of `before`, what stands before slot i in a stretch that begins at a, and of slots that rise from a on.
use mathlib.Core.Path.{◌≡◌, sym, ap, ◌∙◌, subst}
use mathlib.Core.Logic.{inl, inr, ◌≢◌}
use mathlib.Core.List.{List}
use Prim.Native.Nat.{ℕ, ◌+◌, ◌-◌, ◌≤◌, ◌<◌}
use native.Mathlib.Nat.{eq-or-lt_of_le}
use native.Mathlib.Decide.{dec_lt}
use native.Mathlib.Omega.{arith}
use borrow.Author.Tests.{eq-eqb, ne_eqb}
use lib.ListN.{length, take, drop, length-take, length-drop}
use lib.Seq.{get_or-take, get_or-drop}
use Rattle.slots.specs.Orders.{slot_at}
use Rattle.reading.specs.Stretches.{before, Rises}

module _ (xs : List ℕ) (a last i : ℕ) where
  -- at a, the last key before the stretch
  pub before-first : i ≡ a → before xs a last i ≡ last
  before-first e = rw (eq-eqb i a e)

  -- elsewhere, the slot below
  pub before-later : i ≢ a → before xs a last i ≡ slot_at xs (i - 1)
  before-later n = rw (ne_eqb i a n)

  -- and so one slot on
  pub before-next : a ≤ i → before xs a last (i + 1) ≡ slot_at xs i
  before-next h =
      let n : i + 1 ≢ a = omega arith in
      let e : i + 1 - 1 ≡ i = omega arith in
      rw (ne_eqb (i + 1) a n, e)

-- A PART of the slots, from i on
pub part-at : (xs : List ℕ) (i n k : ℕ) → k < n → slot_at (take n (drop i xs)) k ≡ slot_at xs (i + k)
part-at xs i n k h = get_or-take n (drop i xs) k 0 h ∙ get_or-drop i xs k 0

module _ (part xs : List ℕ) (i last : ℕ) (at : (k : ℕ) → k < length part → slot_at part k ≡ slot_at xs (i + k)) where
  part-before : (k : ℕ) → k ≤ length part → before part 0 last k ≡ before xs i last (i + k)
  part-before k h =
      elim (dec_lt 0 k) [
        | yes p ↦
            let e : i + (k - 1) ≡ i + k - 1 = omega arith in
            before-later part 0 last k (omega arith) ∙ at (k - 1) (omega arith) ∙ ap (slot_at xs) e ∙ sym (before-later xs i last (i + k) (omega arith))
        | no p ↦ before-first part 0 last k (omega arith) ∙ sym (before-first xs i last (i + k) (omega arith))
      ]

  -- where it stops rising, they do
  pub rises-part : (e r : ℕ) → i + length part ≡ e → Rises part 0 (length part) last r → Rises xs i e last (i + r)
  rises-part e r q p =
      record {
        from = omega arith;
        to = omega (arith, p.to);
        rises = λ k h l. let d : i + (k - i) ≡ k = omega arith in
            subst (λ (n : ℕ). before xs i last n < slot_at xs n) d (omega (arith, part-before (k - i) (omega (arith, p.to)), at (k - i) (omega (arith, p.to)), p.rises (k - i) (omega arith) (omega arith)));
        stops = λ h. omega (arith, part-before r p.to, at r (omega arith), p.stops (omega arith));
      }

-- the n from i on
pub rises-slice : (xs : List ℕ) (i n e last r : ℕ) → i + n ≡ e → e ≤ length xs → Rises (take n (drop i xs)) 0 (length (take n (drop i xs))) last r → Rises xs i e last (i + r)
rises-slice xs i n e last r q h p =
    let long : length (take n (drop i xs)) ≡ n = omega (arith, length-take n (drop i xs), length-drop i xs) in
    rises-part (take n (drop i xs)) xs i last (λ k l. part-at xs i n k (omega (arith, long))) e r (omega (arith, long)) p

-- SLOTS THAT RISE from a up to r
module _ (xs : List ℕ) (a last : ℕ) where
  abbrev pub Up : ℕ → Type 0
  Up r = (k : ℕ) → k < r → a ≤ k → before xs a last k < slot_at xs k

  -- they rise up to r: all
  pub up-all : (r : ℕ) → a ≤ r → Up r → Rises xs a r last r
  up-all r h u = record { from = h; to = omega arith; rises = λ k l q. u k q l; stops = λ l. absurd (omega arith) }

  -- where they stop does not depend on where the look ends
  pub rises-far : (e f r : ℕ) → e ≤ f → r < e → Rises xs a e last r → Rises xs a f last r
  rises-far e f r h l p = record { from = p.from; to = omega arith; rises = p.rises; stops = λ m. p.stops l }

  -- where they do not stop they rise throughout
  pub rises-all : (e r : ℕ) → e ≤ r → Rises xs a e last r → Up e
  rises-all e r h p k l m = p.rises k m (omega arith)

  -- from m, up to which they rise, and from a is the same
  module _ (m top : ℕ) (h : a ≤ m) (u : Up m) (t : top ≡ before xs a last m) where
    same : (k : ℕ) → m ≤ k → before xs m top k ≡ before xs a last k
    same k l =
        elim (eq-or-lt_of_le l) [
          | inl e ↦ before-first xs m top k (sym e) ∙ t ∙ ap (before xs a last) e
          | inr l ↦ before-later xs m top k (omega arith) ∙ sym (before-later xs a last k (omega arith))
        ]

    pub rises-on : (e r : ℕ) → Rises xs m e top r → Rises xs a e last r
    rises-on e r p =
        record {
          from = omega (arith, p.from);
          to = p.to;
          rises = λ k l q. elim (dec_lt k m) [ yes z ↦ u k z l | no z ↦ omega (arith, same k (omega arith), p.rises k (omega arith) q) ];
          stops = λ q. omega (arith, same r p.from, p.stops q);
        }
