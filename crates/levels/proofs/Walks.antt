-- The walk from a segment's entry to the root: which entries it meets, what they count, and what changing each of them does.
use mathlib.Core.Path.{◌≡◌, refl, sym, ap, ap₂, subst, ◌∙◌}
use mathlib.Core.List.{List, [], ◌∷◌, ◌++◌}
use Prim.Native.Nat.{ℕ, zero, suc, ◌+◌, ◌-◌, ◌*◌, ◌/◌, ◌^◌, ◌≤◌, ◌<◌}
use native.Mathlib.Nat.{pow-succ', pow-zero}
use native.Mathlib.Omega.{arith}
use lib.ListN.{length, get_or, set, length-set, get_or-append}
use lib.Seq.{get_or-append-add, set-append_left}
use Rattle.lists.specs.Lists.{total}
use Rattle.slots.specs.Windows.{window}
use Rattle.slots.proofs.Windows.{pow_pos, window-zero, window-mono}
use Rattle.levels.specs.Levels.{paired, levels, entry_of}
use Rattle.levels.proofs.Pairs.{length-paired, window-paired, paired-set, pair-least}
use Rattle.levels.proofs.Levels.{levels-suc, at_second, first-level}

-- the walk of the pairs, after the first level
pub entry-pair : (n s l : ℕ) → entry_of (2 * n) s (suc l) ≡ 2 * n + entry_of n (s / 2) l
entry-pair n s zero = refl
entry-pair n s (suc l) = ap (λ (e : ℕ). 2 * n + e / 2) (entry-pair n s l) ∙ omega arith

-- it stays in the table up to level h
pub entry_in : (h s l : ℕ) → s < 2 ^ h → l ≤ h → entry_of (2 ^ h) s l + 1 < 2 * 2 ^ h
entry_in h s zero k p = omega (arith, pow_pos h)
entry_in zero s (suc l) k p = absurd (omega arith)
entry_in (suc h) s (suc l) k p =
    subst (λ (n : ℕ). entry_of n s (suc l) + 1 < 2 * n) (sym (pow-succ' 2 h))
    (subst (λ (e : ℕ). e + 1 < 2 * (2 * 2 ^ h)) (sym (entry-pair (2 ^ h) s l)) (omega (arith, entry_in h (s / 2) l (omega (arith, pow-succ' 2 h)) (omega arith))))

-- and leaves it then
pub entry-end : (h s : ℕ) → s < 2 ^ h → entry_of (2 ^ h) s (suc h) + 1 ≡ 2 * 2 ^ h
entry-end zero s k = omega (arith, pow-zero 2)
entry-end (suc h) s k =
    subst (λ (n : ℕ). entry_of n s (suc (suc h)) + 1 ≡ 2 * n) (sym (pow-succ' 2 h))
    (subst (λ (e : ℕ). e + 1 ≡ 2 * (2 * 2 ^ h)) (sym (entry-pair (2 ^ h) s (suc h))) (omega (arith, entry-end h (s / 2) (omega (arith, pow-succ' 2 h)))))

-- the entry counts the window
pub at-walk : (h l s : ℕ) (ns : List ℕ) → l ≤ h → s < 2 ^ h → length ns ≡ 2 ^ h → get_or (levels h ns) (entry_of (2 ^ h) s l) 0 ≡ total (window l s ns)
at-walk h zero s ns p k e = first-level h ns s (omega arith) ∙ sym (ap total (window-zero s ns 0 (omega arith)) ∙ omega arith)
at-walk zero (suc l) s ns p k e = absurd (omega arith)
at-walk (suc h) (suc l) s ns p k e =
    let d : 2 ^ suc h ≡ 2 * 2 ^ h = pow-succ' 2 h in
    ap₂ {C = ℕ} (λ (t : List ℕ) (n : ℕ). get_or t n 0) (levels-suc h ns) (ap (λ (n : ℕ). entry_of n s (suc l)) d ∙ entry-pair (2 ^ h) s l)
    ∙ at_second ns (levels h (paired ns)) (2 * 2 ^ h) (entry_of (2 ^ h) (s / 2) l) _ (e ∙ d) refl
    ∙ at-walk h l (s / 2) (paired ns) (omega arith) (omega arith) (length-paired (2 ^ h) ns (e ∙ d))
    ∙ window-paired l h s ns (omega arith) (omega arith) (e ∙ d)

-- and has at least the segment's keys
pub walk-least : (h l s : ℕ) (ns : List ℕ) → l ≤ h → s < 2 ^ h → length ns ≡ 2 ^ h → get_or ns s 0 ≤ get_or (levels h ns) (entry_of (2 ^ h) s l) 0
walk-least h l s ns p k e = rw (at-walk h l s ns p k e) (go l)
  where
    go : (l : ℕ) → get_or ns s 0 ≤ total (window l s ns)
    go zero = omega (arith, ap total (window-zero s ns 0 (omega arith)))
    go (suc l) = omega (arith, go l, window-mono l s ns)

set-append-add : (p q : List ℕ) (i v : ℕ) → set (p ++ q) (length p + i) v ≡ p ++ set q i v
set-append-add [] q i v = let e : 0 + i ≡ i = omega arith in rw e refl
set-append-add (x ∷ p) q i v = let e : suc (length p) + i ≡ suc (length p + i) = omega arith in rw e (ap {B = List ℕ} (λ r. x ∷ r) (set-append-add p q i v))

-- CHANGING each entry of the walk below level l by f
module _ (f : ℕ → ℕ) where
  unfoldable pub changed : ℕ → ℕ → ℕ → List ℕ → List ℕ
  changed n s zero t = t
  changed n s (suc l) t = set (changed n s l t) (entry_of n s l) (f (get_or (changed n s l t) (entry_of n s l) 0))

  changed-up : (n s l : ℕ) (ns up : List ℕ) → length ns ≡ 2 * n → s < 2 * n → changed (2 * n) s (suc l) (ns ++ up) ≡ set ns s (f (get_or ns s 0)) ++ changed n (s / 2) l up
  unfolding changed
  changed-up n s zero ns up e k =
      set-append_left ns up s _ (omega arith) ∙ ap {B = List ℕ} (λ (v : ℕ). set ns s (f v) ++ up) (get_or-append ns up 0 s (omega arith))
  changed-up n s (suc l) ns up e k =
      ap₂ {C = List ℕ} (λ (t : List ℕ) (i : ℕ). set t i (f (get_or t i 0))) (changed-up n s l ns up e k) (entry-pair n s l)
      ∙ second (set ns s (f (get_or ns s 0))) (changed n (s / 2) l up) (2 * n) (entry_of n (s / 2) l) (length-set ns s (f (get_or ns s 0)) ∙ e)
    where
      second : (p q : List ℕ) (m i : ℕ) → length p ≡ m → set (p ++ q) (m + i) (f (get_or (p ++ q) (m + i) 0)) ≡ p ++ set q i (f (get_or q i 0))
      second p q m i d = rw (← d, get_or-append-add p q i 0) (set-append-add p q i (f (get_or q i 0)))

  -- where the change of one count is that of every sum with it
  pub changed-levels : (h s : ℕ) (ns : List ℕ) → length ns ≡ 2 ^ h → s < 2 ^ h → ((b : ℕ) → f (get_or ns s 0 + b) ≡ f (get_or ns s 0) + b)
      → changed (2 ^ h) s (suc h) (levels h ns) ≡ levels h (set ns s (f (get_or ns s 0)))
  unfolding changed levels
  changed-levels zero s ns e k g = refl
  changed-levels (suc h) s ns e k g = go (changed-levels h (s / 2) (paired ns))
    where
      d : 2 ^ suc h ≡ 2 * 2 ^ h
      d = pow-succ' 2 h

      x : ℕ
      x = get_or ns s 0

      y : ℕ
      y = get_or (paired ns) (s / 2) 0

      more : y ≡ x + (y - x)
      more = omega (arith, pair-least ns s (2 ^ h) (e ∙ d) (omega arith))

      sums : (b : ℕ) → f (y + b) ≡ f y + b
      sums b =
          let p : y + b ≡ x + ((y - x) + b) = omega (arith, more) in
          omega (arith, ap f p, ap f more, g ((y - x) + b), g (y - x))

      go : (length (paired ns) ≡ 2 ^ h → s / 2 < 2 ^ h → ((b : ℕ) → f (y + b) ≡ f y + b) → changed (2 ^ h) (s / 2) (suc h) (levels h (paired ns)) ≡ levels h (set (paired ns) (s / 2) (f y)))
          → changed (2 ^ suc h) s (suc (suc h)) (ns ++ levels h (paired ns)) ≡ set ns s (f x) ++ levels h (paired (set ns s (f x)))
      go ih =
          ap (λ (n : ℕ). changed n s (suc (suc h)) (ns ++ levels h (paired ns))) d
          ∙ changed-up (2 ^ h) s (suc h) ns (levels h (paired ns)) (e ∙ d) (omega arith)
          ∙ ap {B = List ℕ} (λ r. set ns s (f x) ++ r) (ih (length-paired (2 ^ h) ns (e ∙ d)) (omega arith) sums
          ∙ ap (levels h) (sym (paired-set ns s (f x) (f y) (omega arith) (omega (arith, more, ap f more, g (y - x))))))
