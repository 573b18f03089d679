-- With the weights left and right fixed, the distance of formula 6 falls strictly up to the crossing of the two fractions, and rises
-- strictly past it.
use mathlib.Core.Path.{◌≡◌, ap}
use Prim.Native.Nat.{ℕ, zero, suc, ◌+◌, ◌-◌, ◌*◌, ◌≤◌, ◌<◌}
use native.Mathlib.Nat.{le_trans, mul-pos, mul-le-mul_left, mul-le-mul_right, sub-add_cancel, div-mul-le_self, div-lt_iff_lt-mul}
use native.Mathlib.Omega.{arith}
use Rattle.rules.specs.SharingOut.{Fraction, distance}
use Rattle.rules.specs.Readings.{Below}
use Rattle.stretches.specs.Tries.{Halves, past_crossing}

-- TWO NUMBERS, k apart: at the first x + k slots are free on the left and y on the right, at the second x and y + k
-- what the cross products of their distances differ by at least
spare : (a b x y k : ℕ) → 0 < a + b → 0 < x → 0 < y → 0 < k → 0 < b * ((x + k) * (x * k)) + a * ((y + k) * (y * k))
spare zero b x y k s px py pk = let h : 0 < x + k = omega arith in omega (arith, mul-pos s (mul-pos h (mul-pos px pk)))
spare (suc a) b x y k s px py pk = let h : 0 < y + k = omega arith in omega (arith, mul-pos {m = suc a} (omega arith) (mul-pos h (mul-pos py pk)))

module _ (a b x y k : ℕ) (s : 0 < a + b) (px : 0 < x) (py : 0 < y) (pk : 0 < k) where
  -- where at the second the left fraction is not yet the larger one, the second's distance is below the first's
  falling : a * (y + k) ≤ b * x → Below (distance a x b (y + k)) (distance a (x + k) b y)
  falling h =
      let g : a * y ≤ b * (x + k) = le_trans (mul-le-mul_left a (omega arith)) (le_trans h (mul-le-mul_left b (omega arith))) in
      let t : ℕ = b * (x + k) - a * y in
      let u : ℕ = b * x - a * (y + k) in
      let et : (distance a (x + k) b y).num ≡ t = omega arith in
      let eu : (distance a x b (y + k)).num ≡ u = omega arith in
      let p = ap (λ (z : ℕ). z * (x * (y + k))) (sub-add_cancel g) in
      let q = ap (λ (z : ℕ). z * ((x + k) * y)) (sub-add_cancel h) in
      rw (et, eu) (omega (arith, p, q, spare a b x y k s px py pk))

-- and the other way round, where at the first the right one is no longer the larger one
rising : (a b x y k : ℕ) → 0 < a + b → 0 < x → 0 < y → 0 < k → b * (x + k) ≤ a * y → Below (distance a (x + k) b y) (distance a x b (y + k))
rising a b x y k s px py pk h = omega (arith, falling b a y x k (omega arith) py px pk h)

module _ (a b c m : ℕ) where
  -- the distance at j
  abbrev pub away : ℕ → Fraction
  away j = distance a (c - j) b (c + j - m)

  pub away-den : (first last : ℕ) → Halves c m first last → (j : ℕ) → first ≤ j → j ≤ last → 0 < (away j).den
  away-den first last h j p q = mul-pos {m = c - j} {n = c + j - m} (omega arith) (omega arith)

  abbrev past : ℕ
  past = past_crossing a b c m

  module _ (s : 0 < a + b) (first last : ℕ) (h : Halves c m first last) where
    -- by how much the products on the two sides of the crossing differ
    products : (j : ℕ) → first ≤ j → j ≤ last → a * (c + j - m) + (b * c + a * m) ≡ b * (c - j) + (j * (a + b) + a * c)
    products j p q =
        let u : c + j - m + m ≡ c + j = sub-add_cancel (omega arith) in
        let v : c - j + j ≡ c = sub-add_cancel (omega arith) in
        omega (arith, ap (λ (z : ℕ). a * z) u, ap (λ (z : ℕ). b * z) v)

    -- up to the crossing the right fraction is not the smaller one, past it the left one is not
    under : (j : ℕ) → first < j → j ≤ last → j < past → a * (c + j - m) ≤ b * (c - j)
    unfolding past_crossing
    under j p q l =
        let n : ℕ = b * c + a * m - a * c in
        let le : j * (a + b) ≤ n = le_trans (mul-le-mul_right (a + b) (omega arith)) (div-mul-le_self n (a + b)) in
        omega (arith, le, mul-pos {m = j} (omega arith) s, products j (omega arith) q)

    over : (j : ℕ) → first ≤ j → j ≤ last → past ≤ j → b * (c - j) ≤ a * (c + j - m)
    unfolding past_crossing
    over j p q l =
        let lt : b * c + a * m - a * c < j * (a + b) = (div-lt_iff_lt-mul s).0 (omega arith) in
        omega (arith, lt, products j p q)

    -- THE VALLEY: of two numbers up to the crossing the second is nearer, of two past it the first
    module _ (i j : ℕ) (p : first ≤ i) (l : i < j) (q : j ≤ last) where
      left-free : c - i ≡ c - j + (j - i)
      left-free = omega arith

      right-free : c + j - m ≡ c + i - m + (j - i)
      right-free = omega arith

      pub falls : j < past → Below (away j) (away i)
      falls g = rw (left-free, right-free) (falling a b (c - j) (c + i - m) (j - i) s (omega arith) (omega arith) (omega arith) (rw right-free at (under j (omega arith) q g)))

      pub rises : past ≤ i → Below (away i) (away j)
      rises g = rw (left-free, right-free) (rising a b (c - j) (c + i - m) (j - i) s (omega arith) (omega arith) (omega arith) (rw left-free at (over i p (omega arith) g)))
