-- The looks at one number after the other, and why the two round the crossing stand for a whole stretch.
use mathlib.Core.Path.{◌≡◌, refl, sym, ap, ap₂, ◌∙◌}
use mathlib.Core.Bool.{Bool, true, false}
use Prim.Native.Nat.{ℕ, zero, suc, ◌+◌, ◌-◌, ◌*◌, ◌≤◌, ◌<◌, max, min}
use native.Mathlib.Nat.{add-zero, add-sub_of_le, le_refl, le_of_lt, mul-le-mul_right, mul-lt-mul_of_pos_right, lt_of_mul-lt-mul_right, le_of_mul-le-mul_right}
use native.Mathlib.Decide.{dec_lt}
use native.Mathlib.Omega.{arith}
use borrow.Author.Tests.{lt-ltb, le-ltb, ltb-true, ltb-false}
use Rattle.std.proofs.Common.{if◌then◌else◌}
use Rattle.lists.proofs.Tests.{either}
use Rattle.rules.specs.SharingOut.{Fraction, less, distance, least}
use Rattle.rules.specs.Readings.{AtMost, Below}
use Rattle.stretches.specs.declared.Stretch.{Stretch}
use Rattle.stretches.specs.declared.Tried.{Tried}
use Rattle.stretches.specs.Tries.{Halves, Weighted, fraction, tried_of, tried_with, tried_in, Modest, nearer_of, past_crossing, nearest_of}
use Rattle.stretches.proofs.Valley.{away-den, falls, rises}

-- nothing found yet: a distance above any other
abbrev pub none : ℕ → Tried
none i = record { keys = i; num = 1; den = 0 }

-- the best of the n numbers from first on
abbrev pub best_of : (ℕ → Fraction) → ℕ → ℕ → Tried
best_of d first zero = none first
best_of d first (suc n) = nearer_of (best_of d first n) (tried_of (first + n) (d (first + n)))

-- THE LEAST, by the looks
chosen : (d : ℕ → Fraction) (b : Bool) (i k : ℕ) → (if b then tried_of i (d i) else tried_of k (d k)) ≡ tried_of (if b then i else k) (d (if b then i else k))
chosen d true i k = refl
chosen d false i k = refl

pub best-is : (d : ℕ → Fraction) (first n : ℕ) → ((j : ℕ) → first ≤ j → j ≤ first + n → 0 < (d j).den)
    → best_of d first (suc n) ≡ tried_of (least d first n) (d (least d first n))
best-is d first zero h = rw (add-zero first, lt-ltb ((d first).num * 0) (1 * (d first).den) (omega (arith, h first (omega arith) (omega arith))))
best-is d first (suc n) h =
    let e = best-is d first n (λ j p q. h j p (omega arith)) in
    ap (λ (b : Tried). nearer_of b (tried_of (first + suc n) (d (first + suc n)))) e ∙ chosen d (less (d (first + suc n)) (d (least d first n))) (first + suc n) (least d first n)

-- LOOKS THAT MAY BE LEFT OUT, whatever was found before
module _ (b y z : Tried) (py : 0 < y.den) where
  -- a look before a nearer one
  look-before : Below (fraction z) (fraction y) → 0 < z.den → nearer_of (nearer_of b y) z ≡ nearer_of b z
  look-before h pz = go (less (fraction y) (fraction b)) refl
    where
      go : (t : Bool) → less (fraction y) (fraction b) ≡ t → nearer_of (if t then y else b) z ≡ nearer_of b z
      go true e =
          let g : Below (fraction z) (fraction b) = lt_of_mul-lt-mul_right y.den (omega (arith, mul-le-mul_right b.den (le_of_lt h), mul-lt-mul_of_pos_right (ltb-true (y.num * b.den) (b.num * y.den) e) pz)) in
          rw (lt-ltb (z.num * y.den) (y.num * z.den) h, lt-ltb (z.num * b.den) (b.num * z.den) g)
      go false e = refl

  -- a look after one that is as near
  look-after : AtMost (fraction y) (fraction z) → nearer_of (nearer_of b y) z ≡ nearer_of b y
  look-after h = go (less (fraction y) (fraction b)) refl
    where
      go : (t : Bool) → less (fraction y) (fraction b) ≡ t → nearer_of (if t then y else b) z ≡ (if t then y else b)
      go true e = rw (le-ltb (z.num * y.den) (y.num * z.den) h)
      go false e =
          let g : AtMost (fraction b) (fraction z) = le_of_mul-le-mul_right {k = y.den} (omega (arith, mul-le-mul_right b.den h, mul-le-mul_right z.den (ltb-false (y.num * b.den) (b.num * y.den) e))) py in
          rw (le-ltb (z.num * b.den) (b.num * z.den) g)

-- the second look of a stretch, at the same number as the first
pub one-look : (found : Tried) (s : Stretch) (c m : ℕ) → Halves c m s.first s.last
    → max s.first (min (past_crossing s.left s.right c m - 1) s.last) ≡ max s.first (min (past_crossing s.left s.right c m) s.last)
    → nearest_of found s c m ≡ nearer_of found (tried_in s c m (past_crossing s.left s.right c m - 1))
unfolding nearest_of
one-look found s c m h e =
    let i : ℕ = max s.first (min (past_crossing s.left s.right c m - 1) s.last) in
    let y : Tried = tried_with s.left s.right c m i in
    rw (← e) (look-after found y y (away-den s.left s.right c m s.first s.last h i (omega arith) (omega arith)) (le_refl (y.num * y.den)))

-- the nearer of two modest ones
pub nearer-modest : (a b r : Tried) → r ≡ nearer_of a b → Modest a → b.num ≤ 614400 → b.den ≤ 4194304 → Modest r
nearer-modest a b r e m p q = rw e (either Modest (less (fraction b) (fraction a)) (record { num = p; den = q }) m)

-- a look, by the equation of its number
pub tried-in : (s : Stretch) (c m i j : ℕ) (t : Tried) → i ≡ max s.first (min j s.last) → t ≡ tried_with s.left s.right c m i → t ≡ tried_in s c m j
tried-in s c m i j t e p = rw e at p

-- the best of the numbers from first on below i, and one number more
abbrev best_below : (ℕ → Fraction) → ℕ → ℕ → Tried
best_below d first i = best_of d first (i - first)

best-more : (d : ℕ → Fraction) (first i : ℕ) → first ≤ i → best_below d first (i + 1) ≡ nearer_of (best_below d first i) (tried_of i (d i))
best-more d first i h =
    let e : i + 1 - first ≡ suc (i - first) = omega arith in
    let f : first + (i - first) ≡ i = omega arith in
    ap (best_of d first) e ∙ ap (λ (j : ℕ). nearer_of (best_below d first i) (tried_of j (d j))) f

-- A STRETCH, on which d is the distance with its weights
module _ (d : ℕ → Fraction) (first c m : ℕ) (s : Stretch) (w : Weighted s) (h : Halves c m s.first s.last) (from : first ≤ s.first) (same : (j : ℕ) → s.first ≤ j → j ≤ s.last → d j ≡ distance s.left (c - j) s.right (c + j - m)) where
  abbrev past : ℕ
  past = past_crossing s.left s.right c m

  abbrev best : ℕ → Tried
  best = best_below d first

  abbrev look : ℕ → Tried
  look j = tried_of j (d j)

  some-den : (j : ℕ) → s.first ≤ j → j ≤ s.last → 0 < (d j).den
  some-den j p q = rw (same j p q) (away-den s.left s.right c m s.first s.last h j p q)

  -- up to the crossing only the last one counts
  falling : (k : ℕ) → s.first + k ≤ s.last → s.first + k < past → best (s.first + k + 1) ≡ nearer_of (best s.first) (look (s.first + k))
  falling zero p q = rw (add-zero s.first) (best-more d first s.first from)
  falling (suc k) p q =
      let i : ℕ = s.first + k in
      let e : s.first + suc k ≡ i + 1 = omega arith in
      let g : Below (d (i + 1)) (d i) = rw (same i (omega arith) (omega arith), same (i + 1) (omega arith) (omega arith))
      (falls s.left s.right c m w.some s.first s.last h i (i + 1) (omega arith) (omega arith) (omega arith) (omega arith)) in
      rw e
      (best-more d first (i + 1) (omega arith) ∙ ap (λ (b : Tried). nearer_of b (look (i + 1))) (falling k (omega arith) (omega arith))
      ∙ look-before (best s.first) (look i) (look (i + 1)) (some-den i (omega arith) (omega arith)) g (some-den (i + 1) (omega arith) (omega arith)))

  -- from a number past it on only the first one
  rising : (i k : ℕ) → s.first ≤ i → i + k ≤ s.last → past ≤ i → best (i + k + 1) ≡ nearer_of (best i) (look i)
  rising i zero p q g = rw (add-zero i) (best-more d first i (omega arith))
  rising i (suc k) p q g =
      let j : ℕ = i + k + 1 in
      let e : i + suc k ≡ j = omega arith in
      let l : Below (d i) (d j) = rw (same i (omega arith) (omega arith), same j (omega arith) (omega arith))
      (rises s.left s.right c m w.some s.first s.last h i j p (omega arith) (omega arith) g) in
      rw e
      (best-more d first j (omega arith) ∙ ap (λ (b : Tried). nearer_of b (look j)) (rising i k p (omega arith) g)
      ∙ look-after (best i) (look i) (look j) (some-den i p (omega arith)) (le_of_lt l))

  -- the two looks, at one number or at two
  look_in : (i j : ℕ) → max s.first (min i s.last) ≡ j → s.first ≤ j → j ≤ s.last → tried_in s c m i ≡ look j
  look_in i j e p q = rw (e, same j p q)

  one : (i : ℕ) → max s.first (min (past - 1) s.last) ≡ i → max s.first (min past s.last) ≡ i → nearest_of (best s.first) s c m ≡ nearer_of (best s.first) (look i)
  one i e f = one-look (best s.first) s c m h (e ∙ sym f) ∙ ap (nearer_of (best s.first)) (look_in (past - 1) i e (omega arith) (omega arith))

  two : s.first < past → past ≤ s.last → nearest_of (best s.first) s c m ≡ nearer_of (nearer_of (best s.first) (look (past - 1))) (look past)
  unfolding nearest_of
  two p q =
      ap₂ nearer_of (ap (nearer_of (best s.first)) (look_in (past - 1) (past - 1) (omega arith) (omega arith) (omega arith)))
      (look_in past past (omega arith) (omega arith) q)

  -- THE THREE WAYS: all before the crossing, all past it, or round it
  abbrev Enough : Type 0
  Enough = nearest_of (best s.first) s c m ≡ best (s.last + 1)

  before : s.last < past → Enough
  before p =
      one s.last (omega arith) (omega arith)
      ∙ sym (rw (add-sub_of_le h.some) at (falling (s.last - s.first) (omega arith) (omega arith)))

  after : past ≤ s.first → Enough
  after p =
      one s.first (omega arith) (omega arith)
      ∙ sym (rw (add-sub_of_le h.some) at (rising s.first (s.last - s.first) (omega arith) (omega arith) p))

  round : s.first < past → past ≤ s.last → Enough
  round p q =
      let e : s.first + (past - 1 - s.first) ≡ past - 1 = omega arith in
      let f : past - 1 + 1 ≡ past = omega arith in
      two p q
      ∙ ap (λ (b : Tried). nearer_of b (look past)) (sym (rw (e, f) at (falling (past - 1 - s.first) (omega arith) (omega arith))))
      ∙ sym (rw (add-sub_of_le q) at (rising past (s.last - past) (omega arith) (omega arith) (le_refl past)))

  enough : Enough
  enough = elim (dec_lt s.first past) [
    | yes p ↦ elim (dec_lt s.last past) [ yes q ↦ before q | no q ↦ round p (omega arith) ]
    | no p ↦ after (omega arith)
  ]

pub stretch-is : (d : ℕ → Fraction) (first c m : ℕ) (s : Stretch) (found : Tried) → Weighted s → Halves c m s.first s.last → first ≤ s.first
    → ((j : ℕ) → s.first ≤ j → j ≤ s.last → d j ≡ distance s.left (c - j) s.right (c + j - m))
    → found ≡ best_of d first (s.first - first)
    → nearest_of found s c m ≡ best_of d first (s.last + 1 - first)
stretch-is d first c m s found w h from same e = ap (λ (b : Tried). nearest_of b s c m) e ∙ enough d first c m s w h from same
