-- The search by the table: the segment sought is among those under an entry.
use mathlib.Core.Path.{◌≡◌, refl}
use mathlib.Core.Logic.{◌⊎◌, inl, inr, ◌≢◌}
use mathlib.Core.List.{List}
use Prim.Native.Nat.{ℕ, ◌+◌, ◌-◌, ◌*◌, ◌/◌, ◌≤◌, ◌<◌}
use native.Mathlib.Decide.{dec_lt}
use native.Mathlib.Omega.{arith}
use lib.ListN.{length, get_or}
use Rattle.slots.specs.Segments.{Segments}
use Rattle.slots.specs.Shown.{Shows, seat}
use Rattle.slots.specs.Orders.{slot_at}
use Rattle.slots.proofs.Orders.{Ordered, in_list}
use Rattle.slots.proofs.Seats.{head, seat-is}
use Rattle.slots.proofs.Heads.{head-slot}
use Rattle.tables.specs.Tree.{Sums}
use Rattle.descents.specs.Covers.{Covers, FirstIn}
use Rattle.descents.proofs.Trees.{Halves, split, covers-leaf, covers-empty}

-- the first slot of a segment
abbrev pub first : List ℕ → ℕ → ℕ
first list k = slot_at list (64 * k)

-- The table fits the list: entries below n are 0 where the segment begins with a gap, and only there.
pub record Fit (n : ℕ) (list t : List ℕ) : Type 0 where
  pub sums : Sums n t
  pub root : Covers n (2 * n - 2) 0 n
  pub empty : (k : ℕ) → k < n → get_or t k 0 ≡ 0 → first list k ≡ 0
  pub filled : (k : ℕ) → k < n → get_or t k 0 ≢ 0 → first list k ≢ 0
  pub ordered : Ordered list

-- The segment sought is among the m under entry e, from a on: those after them begin above the key, and one of them begins with a key up
-- to the key, or they begin with the first.
pub record Sought (n : ℕ) (list : List ℕ) (key e a m : ℕ) : Type 0 where
  pub covers : Covers n e a m
  pub low : (a ≡ 0) ⊎ ((k : ℕ) × (a ≤ k) × (k < a + m) × (first list k ≢ 0) × (first list k ≤ key))
  pub high : (k : ℕ) → a + m ≤ k → k < n → first list k ≢ 0 → key < first list k

pub sought-start : (n : ℕ) (list t : List ℕ) (key : ℕ) → Fit n list t → Sought n list key (2 * n - 2) 0 n
sought-start n list t key F = record { covers = F.root; low = inl refl; high = λ k x y. absurd (omega arith) }

module _ (n : ℕ) (list t : List ℕ) (key e a m : ℕ) (F : Fit n list t) (S : Sought n list key e a m) (h : n ≤ e) (end : a + m ≤ n) where
  abbrev H : Halves n e a m
  H = split S.covers h

  half : H.p ≡ m / 2
  half = omega (arith, H.whole)

  right : Covers n (2 * (e - n) + 1) (a + m / 2) (m / 2)
  right = rw half at H.right

  -- to the left, where no segment of the right half begins with a key up to the key
  sought-left : ((k : ℕ) → a + m / 2 ≤ k → k < a + m → first list k ≢ 0 → key < first list k) → Sought n list key (2 * (e - n)) a (m / 2)
  sought-left above = record {
    covers = rw half at H.left;
    low = go S.low;
    high = λ k x y z. elim (dec_lt k (a + m)) [ yes l ↦ above k x l z | no l ↦ S.high k (omega arith) y z ];
  }
    where
      go : (a ≡ 0) ⊎ ((k : ℕ) × (a ≤ k) × (k < a + m) × (first list k ≢ 0) × (first list k ≤ key))
          → (a ≡ 0) ⊎ ((k : ℕ) × (a ≤ k) × (k < a + m / 2) × (first list k ≢ 0) × (first list k ≤ key))
      go (inl z) = inl z
      go (inr x) =
          elim (dec_lt x.0 (a + m / 2)) [
            | yes l ↦ inr (x.0, x.1, l, x.3, x.4)
            | no l ↦ absurd (omega (arith, above x.0 (omega arith) x.2 x.3, x.4))
          ]

  -- the right half is empty
  pub sought-none : get_or t (2 * (e - n) + 1) 0 ≡ 0 → Sought n list key (2 * (e - n)) a (m / 2)
  sought-none z =
      sought-left (λ k x y w. absurd (w (F.empty k (omega arith) (covers-empty n t F.sums right z k x (omega (arith, H.whole))))))

  -- or segment r is its first that is not
  module _ (r : ℕ) (f : (w : ℕ) → Covers n (2 * (e - n) + 1) (a + m / 2) w → FirstIn t (a + m / 2) w r) where
    abbrev R : FirstIn t (a + m / 2) (m / 2) r
    R = f (m / 2) right

    there : first list r ≢ 0
    there = F.filled r (omega (arith, R.to)) R.some

    pub sought-up : first list r ≤ key → Sought n list key (2 * (e - n) + 1) (a + m / 2) (m / 2)
    sought-up l = record { covers = right; low = inr (r, R.from, R.to, there, l); high = λ k x. S.high k (omega (arith, H.whole)) }

    pub sought-down : key < first list r → Sought n list key (2 * (e - n)) a (m / 2)
    sought-down l =
        sought-left (λ k x y z.
        elim (dec_lt k r) [
          | yes q ↦ absurd (z (F.empty k (omega arith) (R.before k x q)))
          | no q ↦
              elim (dec_lt r k) [
                | yes g ↦ omega (arith, F.ordered (64 * r) (64 * k) (omega arith) there z)
                | no g ↦ let w : r ≡ k = omega arith in rw w at l
              ]
        ])

-- at a segment the search ends
pub sought-end : (n : ℕ) (list : List ℕ) (key e a m : ℕ) → Sought n list key e a m → e < n → length list ≡ 64 * n → (ss : Segments) → Shows ss list → e ≡ seat key ss
sought-end n list key e a m S h long ss sh = seat-is key ss sh.listed e (go S.low) (λ k x z. rw (head-slot list ss sh k) at (above k x (rw (head-slot list ss sh k) z)))
  where
    c : (a ≡ e) × (m ≡ 1)
    c = covers-leaf S.covers h

    above : (k : ℕ) → e < k → first list k ≢ 0 → key < first list k
    above k x z = S.high k (omega (arith, c.0, c.1)) (omega (arith, in_list list (64 * k) z)) z

    go : (a ≡ 0) ⊎ ((k : ℕ) × (a ≤ k) × (k < a + m) × (first list k ≢ 0) × (first list k ≤ key)) → (e ≡ 0) ⊎ ((head ss e ≢ 0) × (head ss e ≤ key))
    go (inl z) = inl (omega (arith, c.0))
    go (inr x) =
        let w : x.0 ≡ e = omega (arith, c.0, c.1) in
        inr (rw (w, head-slot list ss sh e) at x.3, rw (w, head-slot list ss sh e) at x.4)
