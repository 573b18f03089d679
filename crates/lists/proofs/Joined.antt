-- Totals, joined lists, and lists dealt out by counts.
use mathlib.Core.Path.{◌≡◌, refl, sym, ap, ap₂, ◌∙◌}
use mathlib.Core.List.{List, [], ◌∷◌, ◌++◌, map, append_assoc}
use Prim.Native.Nat.{ℕ, suc, ◌+◌, ◌<◌}
use native.Mathlib.Nat.{zero-add, add_assoc}
use native.Mathlib.Omega.{arith}
use lib.ListN.{length, get_or, take, drop, length-append, length-drop, take-append-drop}
use lib.Seq.{length-take-le, take-suc}
use Rattle.lists.specs.Lists.{total, joined, deal}

pub total-append : (xs ys : List ℕ) → total (xs ++ ys) ≡ total xs + total ys
total-append [] ys = sym (zero-add (total ys))
total-append (x ∷ xs) ys = ap (λ (n : ℕ). x + n) (total-append xs ys) ∙ sym (add_assoc x (total xs) (total ys))

-- the total of the first counts
pub total-suc : (cs : List ℕ) (s : ℕ) → s < length cs → total (take (suc s) cs) ≡ total (take s cs) + get_or cs s 0
total-suc cs s h = ap total (take-suc cs s 0 h) ∙ total-append (take s cs) (get_or cs s 0 ∷ []) ∙ omega arith

module _ {ℓ} {A : Type ℓ} where
  pub length-joined : (xss : List (List A)) → length (joined xss) ≡ total (map length xss)
  length-joined [] = refl
  length-joined (xs ∷ xss) = length-append xs (joined xss) ∙ ap (λ (n : ℕ). length xs + n) (length-joined xss)

  pub joined-append : (xss yss : List (List A)) → joined (xss ++ yss) ≡ joined xss ++ joined yss
  joined-append [] yss = refl
  joined-append (xs ∷ xss) yss = ap {B = List A} (λ r. xs ++ r) (joined-append xss yss) ∙ sym (append_assoc xs (joined xss) (joined yss))

  -- the two parts of a list have all of its elements
  pub two-parts : (i : ℕ) (l : List A) → length (take i l) + length (drop i l) ≡ length l
  two-parts i l = sym (length-append (take i l) (drop i l)) ∙ ap (length {A = A}) (take-append-drop i l)

  -- dealt out by counts that add up to the number of elements, nothing is lost, added or moved past another
  pub joined-deal : (ns : List ℕ) (ks : List A) → length ks ≡ total ns → joined (deal ns ks) ≡ ks
  joined-deal [] [] h = refl
  joined-deal [] (k ∷ ks) h = absurd (omega arith)
  joined-deal (n ∷ ns) ks h =
      ap {B = List A} (λ r. take n ks ++ r) (joined-deal ns (drop n ks) (omega (arith, length-drop n ks))) ∙ take-append-drop n ks

  pub counts-deal : (ns : List ℕ) (ks : List A) → length ks ≡ total ns → map length (deal ns ks) ≡ ns
  counts-deal [] ks h = refl
  counts-deal (n ∷ ns) ks h =
      ap₂ {C = List ℕ} ◌∷◌ (length-take-le n ks (omega arith)) (counts-deal ns (drop n ks) (omega (arith, length-drop n ks)))

  pub length-deal : (ns : List ℕ) (ks : List A) → length (deal ns ks) ≡ length ns
  length-deal [] ks = refl
  length-deal (n ∷ ns) ks = ap suc (length-deal ns (drop n ks))
