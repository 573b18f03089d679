-- Windows: where they begin, and the windows of a list that is two halves.
use mathlib.Core.Path.{◌≡◌, sym, ap, ap₂, ◌∙◌, subst₂}
use mathlib.Core.List.{List, [], ◌∷◌, ◌++◌, map}
use Prim.Native.Nat.{ℕ, suc, ◌+◌, ◌-◌, ◌*◌, ◌/◌, ◌^◌, ◌≤◌, ◌<◌}
use native.Mathlib.Nat.{pow-zero, pow-suc, div-div-eq-div-mul, pow-succ', mul_assoc, mul_comm, mul-le-mul_right, div-lt_iff_lt-mul, add-mul-div_right, one-le-pow, add_comm, add-mul, div-eq_of_lt, zero-mul, div-mul-le_self, lt-div-mul-add}
use native.Mathlib.Omega.{arith}
use lib.Pow.{pow-add}
use lib.ListN.{length, take, drop, get_or, length-drop}
use lib.Seq.{take-append-le, drop-append-le, drop-append-add, take_all, take-add, drop-drop, drop-cons}
use Rattle.lists.specs.Lists.{total}
use Rattle.lists.proofs.Joined.{total-append}
use Rattle.lists.proofs.Maps.{map-take, map-drop}
use Rattle.slots.specs.Windows.{start, window}

pub pow_pos : (l : ℕ) → 0 < 2 ^ l
pow_pos l = one-le-pow l 2 (omega arith)

-- a window of level l + 1 has twice the segments
pub double : (l x : ℕ) → 2 ^ suc l * x ≡ 2 * (2 ^ l * x)
double l x = ap (λ (n : ℕ). n * x) (pow-succ' 2 l) ∙ mul_assoc 2 (2 ^ l) x

-- the windows of level j divide one of level l
pub divides : (j l : ℕ) → j ≤ l → 2 ^ (l - j) * 2 ^ j ≡ 2 ^ l
divides j l h = sym (pow-add 2 (l - j) j) ∙ ap (λ (n : ℕ). 2 ^ n) (omega arith)

-- a window of level j round one of the first 2^l segments ends among them
pub start_fits : (j l s : ℕ) → j ≤ l → s < 2 ^ l → start j s + 2 ^ j ≤ 2 ^ l
start_fits j l s h k = omega (arith, divides j l h, mul-le-mul_right (2 ^ j) q)
  where
    q : s / 2 ^ j < 2 ^ (l - j)
    q = (div-lt_iff_lt-mul (pow_pos j)).1 (rw (divides j l h) k)

-- the windows of the second half stand as those of the first
pub start-shift : (j l s : ℕ) → j ≤ l → start j (2 ^ l + s) ≡ 2 ^ l + start j s
start-shift j l s h = ap (λ (n : ℕ). n * 2 ^ j) q ∙ add-mul (2 ^ (l - j)) (s / 2 ^ j) (2 ^ j) ∙ ap (λ (n : ℕ). n + start j s) (divides j l h)
  where
    q : (2 ^ l + s) / 2 ^ j ≡ 2 ^ (l - j) + s / 2 ^ j
    q =
        ap (λ (n : ℕ). (n + s) / 2 ^ j) (sym (divides j l h)) ∙ ap (λ (n : ℕ). n / 2 ^ j) (add_comm (2 ^ (l - j) * 2 ^ j) s)
        ∙ add-mul-div_right s (2 ^ (l - j)) (pow_pos j) ∙ add_comm (s / 2 ^ j) (2 ^ (l - j))

pub start-zero : (l s : ℕ) → s < 2 ^ l → start l s ≡ 0
start-zero l s k = ap (λ (n : ℕ). n * 2 ^ l) (div-eq_of_lt k) ∙ zero-mul (2 ^ l)

-- a segment is in its window
pub start-le : (l s : ℕ) → start l s ≤ s
start-le l s = div-mul-le_self s (2 ^ l)

pub lt-end : (l s : ℕ) → s < start l s + 2 ^ l
lt-end l s = lt-div-mul-add (pow_pos l)

module _ {ℓ} {A : Type ℓ} where
  pub window-left : (j l s : ℕ) (p q : List A) → j ≤ l → s < 2 ^ l → length p ≡ 2 ^ l → window j s (p ++ q) ≡ window j s p
  window-left j l s p q h k e =
      ap (take (2 ^ j)) (drop-append-le (start j s) p q (omega (arith, start_fits j l s h k)))
      ∙ take-append-le (2 ^ j) (drop (start j s) p) q (omega (arith, start_fits j l s h k, length-drop (start j s) p))

  pub window-right : (j l s : ℕ) (p q : List A) → j ≤ l → length p ≡ 2 ^ l → window j (2 ^ l + s) (p ++ q) ≡ window j s q
  window-right j l s p q h e =
      ap (λ (n : ℕ). take (2 ^ j) (drop n (p ++ q))) (start-shift j l s h ∙ ap (λ (n : ℕ). n + start j s) (sym e))
      ∙ ap (take (2 ^ j)) (drop-append-add p q (start j s))

  pub window-all : (l s : ℕ) (p : List A) → s < 2 ^ l → length p ≡ 2 ^ l → window l s p ≡ p
  window-all l s p k e = ap (λ (n : ℕ). take (2 ^ l) (drop n p)) (start-zero l s k) ∙ take_all (2 ^ l) p (omega arith)

pub map-window {ℓ κ} : {A : Type ℓ} {B : Type κ} (f : A → B) (l s : ℕ) (xs : List A) → map f (window l s xs) ≡ window l s (map f xs)
map-window f l s xs = map-take f (2 ^ l) (drop (start l s) xs) ∙ ap (take (2 ^ l)) (map-drop f (start l s) xs)

-- a window lies in the one above it
start-above : (l s : ℕ) → start (suc l) s ≡ s / 2 ^ l / 2 * 2 * 2 ^ l
start-above l s =
    ap (λ (n : ℕ). s / n * n) (pow-suc 2 l)
    ∙ ap (λ (n : ℕ). n * (2 ^ l * 2)) (sym (div-div-eq-div-mul s (2 ^ l) 2)) ∙ ap (λ (n : ℕ). s / 2 ^ l / 2 * n) (mul_comm (2 ^ l) 2)
    ∙ sym (mul_assoc (s / 2 ^ l / 2) 2 (2 ^ l))

pub nested : (l s : ℕ) → (start (suc l) s ≤ start l s) × (start l s + 2 ^ l ≤ start (suc l) s + 2 ^ suc l)
nested l s = rw (start-above l s) (mul-le-mul_right (2 ^ l) a, omega (arith, pow-succ' 2 l, mul-le-mul_right (2 ^ l) b))
  where
    a : s / 2 ^ l / 2 * 2 ≤ s / 2 ^ l
    a = omega arith

    b : suc (s / 2 ^ l) ≤ s / 2 ^ l / 2 * 2 + 2
    b = omega arith

-- a part of a list of counts has at most what the whole has
total-part : (e n r : ℕ) (ns : List ℕ) → total (take n (drop e ns)) ≤ total (take (e + (n + r)) ns)
total-part e n r ns =
    rw (take-add e (n + r) ns ∙ ap {B = List ℕ} (λ ys. take e ns ++ ys) (take-add n r (drop e ns)))
    (omega (arith, total-append (take e ns) (take n (drop e ns) ++ take r (drop n (drop e ns))), total-append (take n (drop e ns)) (take r (drop n (drop e ns)))))

pub window-mono : (l s : ℕ) (ns : List ℕ) → total (window l s ns) ≤ total (window (suc l) s ns)
window-mono l s ns = subst₂ (λ (a : List ℕ) (n : ℕ). total (take (2 ^ l) a) ≤ total (take n c)) (sym p) (sym q) (total-part e (2 ^ l) r c)
  where
    c : List ℕ
    c = drop (start (suc l) s) ns

    e : ℕ
    e = start l s - start (suc l) s

    r : ℕ
    r = start (suc l) s + 2 ^ suc l - (start l s + 2 ^ l)

    o : start l s ≡ start (suc l) s + e
    o = omega (arith, nested l s)

    p : drop (start l s) ns ≡ drop e c
    p = ap (λ (n : ℕ). drop n ns) o ∙ sym (drop-drop e (start (suc l) s) ns)

    q : 2 ^ suc l ≡ e + (2 ^ l + r)
    q = omega (arith, nested l s)

-- the segment itself is the window of level 0
pub window-zero {ℓ} : {A : Type ℓ} (s : ℕ) (xs : List A) (d : A) → s < length xs → window 0 s xs ≡ get_or xs s d ∷ []
window-zero s xs d h = ap₂ (λ (n m : ℕ). take n (drop m xs)) (pow-zero 2) e ∙ ap (take 1) (drop-cons xs s d h)
  where
    e : start 0 s ≡ s
    e = ap (λ (n : ℕ). s / n * n) (pow-zero 2) ∙ omega arith
