-- A descent in the table: what is known of the segments under an entry, and the first of them that is not empty.
use mathlib.Core.Path.{◌≡◌, sym, ap, ◌∙◌}
use mathlib.Core.Logic.{◌≢◌}
use mathlib.Core.List.{List}
use Prim.Native.Nat.{ℕ, ◌+◌, ◌-◌, ◌*◌, ◌≤◌, ◌<◌}
use native.Mathlib.Decide.{dec_lt}
use native.Mathlib.Omega.{arith}
use lib.ListN.{get_or}
use Rattle.tables.specs.Tree.{Sums}
use Rattle.descents.specs.Covers.{Covers, leaf, node, FirstIn}

-- THE HALVES of an entry above the segments
pub record Halves (n e a m : ℕ) : Type 0 where
  pub p : ℕ
  pub whole : m ≡ p + p
  pub inner : e - n + 1 < n
  pub left : Covers n (2 * (e - n)) a p
  pub right : Covers n (2 * (e - n) + 1) (a + p) p

pub split : {n e a m : ℕ} → Covers n e a m → n ≤ e → Halves n e a m
split (leaf k x y) h = absurd (omega arith)
split {n} {e} (node i p x y k c d) h =
    let w : e - n ≡ i = omega arith in
    record { p = p; whole = y; inner = omega arith; left = rw w c; right = rw w d }

pub covers-leaf : {n e a m : ℕ} → Covers n e a m → e < n → (a ≡ e) × (m ≡ 1)
covers-leaf (leaf k x y) h = (x, y)
covers-leaf (node i p x y k c d) h = absurd (omega arith)

-- an entry of 0 has empty segments under it
pub covers-empty : (n : ℕ) (t : List ℕ) → Sums n t → {e a m : ℕ} → Covers n e a m → get_or t e 0 ≡ 0 → (k : ℕ) → a ≤ k → k < a + m → get_or t k 0 ≡ 0
covers-empty n t s {e} (leaf h x y) z k l r = let w : k ≡ e = omega arith in ap (λ (j : ℕ). get_or t j 0) w ∙ z
covers-empty n t s {e} {a} (node i p x y h c d) z k l r =
    let w : get_or t (2 * i) 0 + get_or t (2 * i + 1) 0 ≡ 0 = sym (s i h) ∙ ap (λ (j : ℕ). get_or t j 0) (sym x) ∙ z in
    elim (dec_lt k (a + p)) [
      | yes g ↦ covers-empty n t s c (omega arith) k l g
      | no g ↦ covers-empty n t s d (omega arith) k (omega arith) (omega arith)
    ]

-- THE FIRST that is not empty
pub record Firsting (n : ℕ) (t : List ℕ) (a m at : ℕ) : Type 0 where
  pub b : ℕ
  pub w : ℕ
  pub covers : Covers n at b w
  pub from : a ≤ b
  pub to : b + w ≤ a + m
  pub some : get_or t at 0 ≢ 0
  pub before : (k : ℕ) → a ≤ k → k < b → get_or t k 0 ≡ 0

pub firsting-start : (n : ℕ) (t : List ℕ) (a m e : ℕ) → Covers n e a m → get_or t e 0 ≢ 0 → Firsting n t a m e
firsting-start n t a m e c z = record { b = a; w = m; covers = c; from = omega arith; to = omega arith; some = z; before = λ k x y. absurd (omega arith) }

module _ (n : ℕ) (t : List ℕ) (s : Sums n t) (a m at : ℕ) (f : Firsting n t a m at) where
  halves : n ≤ at → Halves n at f.b f.w
  halves h = split f.covers h

  sum : n ≤ at → get_or t at 0 ≡ get_or t (2 * (at - n)) 0 + get_or t (2 * (at - n) + 1) 0
  sum h = let e : at ≡ n + (at - n) = omega arith in ap (λ (j : ℕ). get_or t j 0) e ∙ s (at - n) (halves h).inner

  pub firsting-left : n ≤ at → get_or t (2 * (at - n)) 0 ≢ 0 → Firsting n t a m (2 * (at - n))
  firsting-left h z =
      let H = halves h in
      record { b = f.b; w = H.p; covers = H.left; from = f.from; to = omega (arith, f.to, H.whole); some = z; before = f.before }

  pub firsting-right : n ≤ at → get_or t (2 * (at - n)) 0 ≡ 0 → Firsting n t a m (2 * (at - n) + 1)
  firsting-right h z =
      let H = halves h in
      record {
        b = f.b + H.p;
        w = H.p;
        covers = H.right;
        from = omega (arith, f.from);
        to = omega (arith, f.to, H.whole);
        some = λ y. f.some (omega (arith, sum h));
        before = λ k x y. elim (dec_lt k f.b) [ yes l ↦ f.before k x l | no l ↦ covers-empty n t s H.left z k (omega arith) y ];
      }

  pub firsting-end : at < n → FirstIn t a m at
  firsting-end h =
      let c = covers-leaf f.covers h in
      record { from = omega (arith, f.from, c.0); to = omega (arith, f.to, c.0, c.1); some = f.some; before = λ k x y. f.before k x (omega (arith, c.0)) }

pub first-at-once : (n : ℕ) (t : List ℕ) (e a m : ℕ) → Covers n e a m → a < n → get_or t a 0 ≢ 0 → FirstIn t a m a
first-at-once n t e a m c h z = record { from = omega arith; to = omega (arith, wide c); some = z; before = λ k x y. absurd (omega arith) }
  where
    wide : {e a m : ℕ} → Covers n e a m → 0 < m
    wide (leaf k x y) = omega arith
    wide (node i p x y k c d) = omega (arith, wide c)
