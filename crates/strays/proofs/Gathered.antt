-- Cards gathered in lanes: eight at once, one, and two stretches that meet or overlap.
use mathlib.Core.Path.{◌≡◌, refl}
use mathlib.Core.Logic.{◌↔◌}
use mathlib.Core.List.{List}
use Prim.Native.Nat.{ℕ, ◌+◌, ◌≤◌, ◌<◌}
use native.Mathlib.Decide.{dec_lt}
use native.Mathlib.Omega.{arith}
use lib.Bits.{bit_and, bit_or, or_add_and, and_le_l, and_le_r}
use lib.ListN.{get_or}
use Rattle.strays.specs.declared.Lanes.{Lanes}
use Rattle.strays.specs.Blanks.{Blank, Gathers}

-- three numbers have no bits together where each is 0, and nowhere else
bits : (x y : ℕ) → (bit_or x y + bit_and x y ≡ x + y) × (bit_and x y ≤ x) × (bit_and x y ≤ y)
bits x y = (or_add_and x y, and_le_l x y, and_le_r x y)

pub or-three : (x y z : ℕ) → (bit_or (bit_or x y) z ≡ 0) ↔ ((x ≡ 0) × (y ≡ 0) × (z ≡ 0))
or-three x y z = (λ e. omega (arith, bits (bit_or x y) z, bits x y), λ e. omega (arith, bits (bit_or x y) z, bits x y))

module _ (cards : List ℕ) where
  -- STRETCHES of cards: one more, and two that meet or overlap
  blank-next : (a e : ℕ) → Blank cards a e → get_or cards e 0 ≡ 0 → Blank cards a (e + 1)
  blank-next a e b z k h l = elim (dec_lt k e) [ yes m ↦ b k h m | no m ↦ let q : k ≡ e = omega arith in rw q z ]

  blank-eight : (i : ℕ) → get_or cards i 0 ≡ 0 → get_or cards (i + 1) 0 ≡ 0 → get_or cards (i + 2) 0 ≡ 0 → get_or cards (i + 3) 0 ≡ 0
      → get_or cards (i + 4) 0 ≡ 0 → get_or cards (i + 5) 0 ≡ 0 → get_or cards (i + 6) 0 ≡ 0 → get_or cards (i + 7) 0 ≡ 0 → Blank cards i (i + 8)
  blank-eight i p q r s t u v w = up 7 (up 6 (up 5 (up 4 (up 3 (up 2 (up 1 (λ k h m. let e : k ≡ i = omega arith in rw e p) q) r) s) t) u) v) w
    where
      up : (n : ℕ) → Blank cards i (i + n) → get_or cards (i + n) 0 ≡ 0 → Blank cards i (i + (n + 1))
      up n b z k h m = blank-next i (i + n) b z k h (omega arith)

  module _ (a n m e : ℕ) (h : a ≤ n) (o : n ≤ m) (j : m ≤ e) where
    blank_join : Blank cards a m → Blank cards n e → Blank cards a e
    blank_join b c k f t = elim (dec_lt k m) [ yes d ↦ b k f d | no d ↦ c k (omega arith) t ]

    -- the second after the first, and before it
    pub gathers-after : {l p r : Lanes} → Gathers cards a m l p → Gathers cards n e p r → Gathers cards a e l r
    gathers-after g f = record {
      none = λ c b. f.none (g.none c (λ k u v. b k u (omega arith))) (λ k u v. b k (omega arith) v);
      before = λ c. g.before (f.before c);
      blank = λ c. blank_join (g.blank (f.before c)) (f.blank c);
    }

    pub gathers-before : {l p r : Lanes} → Gathers cards n e l p → Gathers cards a m p r → Gathers cards a e l r
    gathers-before g f = record {
      none = λ c b. f.none (g.none c (λ k u v. b k (omega arith) v)) (λ k u v. b k u (omega arith));
      before = λ c. g.before (f.before c);
      blank = λ c. blank_join (f.blank c) (g.blank (f.before c));
    }

  -- NO CARDS, one in the first lane, and eight
  pub gathers-none : (a : ℕ) (l : Lanes) → Gathers cards a a l l
  gathers-none a l = record { none = λ c b. c; before = λ c. c; blank = λ c k h t. absurd (omega arith) }

  pub gathers-one : (i : ℕ) (l : Lanes) → Gathers cards i (i + 1) l (record { w = bit_or l.w (get_or cards i 0); x = l.x; y = l.y; z = l.z })
  gathers-one i l = record {
    none = λ c b. (both.1 (refl, c.0, b i (omega arith) (omega arith)), c.1, c.2, c.3);
    before = λ c. ((both.0 c.0).1, c.1, c.2, c.3);
    blank = λ c. blank-next i i (λ k h t. absurd (omega arith)) (both.0 c.0).2;
  }
    where
      both : (bit_or l.w (get_or cards i 0) ≡ 0) ↔ ((◌≡◌ {A = ℕ} 0 0) × (l.w ≡ 0) × (get_or cards i 0 ≡ 0))
      both = or-three 0 l.w (get_or cards i 0)

  -- a lane with the cards at m and n
  abbrev lane : ℕ → ℕ → ℕ → ℕ
  lane v m n = bit_or (bit_or v (get_or cards m 0)) (get_or cards n 0)

  lane-none : (v m n : ℕ) → (lane v m n ≡ 0) ↔ ((v ≡ 0) × (get_or cards m 0 ≡ 0) × (get_or cards n 0 ≡ 0))
  lane-none v m n = or-three v (get_or cards m 0) (get_or cards n 0)

  pub gathers-eight : (i : ℕ) (l : Lanes)
      → Gathers cards i (i + 8) l (record { w = lane l.w i (i + 4); x = lane l.x (i + 1) (i + 5); y = lane l.y (i + 2) (i + 6); z = lane l.z (i + 3) (i + 7) })
  gathers-eight i l = record {
    none = λ c b.
        let on : (n : ℕ) → n < 8 → get_or cards (i + n) 0 ≡ 0 = λ n h. b (i + n) (omega arith) (omega arith) in
        (w.1 (c.0, b i (omega arith) (omega arith), on 4 (omega arith)), x.1 (c.1, on 1 (omega arith), on 5 (omega arith)), y.1 (c.2, on 2 (omega arith), on 6 (omega arith)), z.1 (c.3, on 3 (omega arith), on 7 (omega arith)));
    before = λ c. ((w.0 c.0).0, (x.0 c.1).0, (y.0 c.2).0, (z.0 c.3).0);
    blank = λ c. blank-eight i (w.0 c.0).1 (x.0 c.1).1 (y.0 c.2).1 (z.0 c.3).1 (w.0 c.0).2 (x.0 c.1).2 (y.0 c.2).2 (z.0 c.3).2;
  }
    where
      w : (lane l.w i (i + 4) ≡ 0) ↔ ((l.w ≡ 0) × (get_or cards i 0 ≡ 0) × (get_or cards (i + 4) 0 ≡ 0))
      w = lane-none l.w i (i + 4)

      x : (lane l.x (i + 1) (i + 5) ≡ 0) ↔ ((l.x ≡ 0) × (get_or cards (i + 1) 0 ≡ 0) × (get_or cards (i + 5) 0 ≡ 0))
      x = lane-none l.x (i + 1) (i + 5)

      y : (lane l.y (i + 2) (i + 6) ≡ 0) ↔ ((l.y ≡ 0) × (get_or cards (i + 2) 0 ≡ 0) × (get_or cards (i + 6) 0 ≡ 0))
      y = lane-none l.y (i + 2) (i + 6)

      z : (lane l.z (i + 3) (i + 7) ≡ 0) ↔ ((l.z ≡ 0) × (get_or cards (i + 3) 0 ≡ 0) × (get_or cards (i + 7) 0 ≡ 0))
      z = lane-none l.z (i + 3) (i + 7)
