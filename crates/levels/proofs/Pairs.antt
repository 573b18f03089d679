-- The sums of neighbours, two and two: how many, each of them, their total, and of parts of the list.
use mathlib.Core.Path.{◌≡◌, refl, sym, ap, ap₂, ◌∙◌}
use mathlib.Core.List.{List, [], ◌∷◌}
use Prim.Native.Nat.{ℕ, zero, suc, ◌+◌, ◌*◌, ◌/◌, ◌^◌, ◌≤◌, ◌<◌}
use native.Mathlib.Nat.{pow-succ', div-div-eq-div-mul}
use native.Mathlib.Omega.{arith}
use lib.ListN.{length, get_or, set, take, drop, length-drop}
use lib.Seq.{take-nil, drop-nil, length-take-le}
use Rattle.lists.specs.Lists.{total}
use Rattle.slots.specs.Windows.{start, window}
use Rattle.slots.proofs.Windows.{start_fits}
use Rattle.levels.specs.Levels.{paired}

pub length-paired : (m : ℕ) (ns : List ℕ) → length ns ≡ 2 * m → length (paired ns) ≡ m
length-paired zero [] e = refl
length-paired zero (a ∷ ns) e = absurd (omega arith)
length-paired (suc m) [] e = absurd (omega arith)
length-paired (suc m) (a ∷ []) e = absurd (omega arith)
length-paired (suc m) (a ∷ b ∷ ns) e = ap suc (length-paired m ns (omega arith))

pub at-paired : (ns : List ℕ) (i : ℕ) → 2 * i + 1 < length ns → get_or (paired ns) i 0 ≡ get_or ns (2 * i) 0 + get_or ns (2 * i + 1) 0
at-paired [] i h = absurd (omega arith)
at-paired (a ∷ []) i h = absurd (omega arith)
at-paired (a ∷ b ∷ ns) zero h = refl
at-paired (a ∷ b ∷ ns) (suc i) h =
    let e : 2 * suc i ≡ suc (suc (2 * i)) = omega arith in
    let f : 2 * suc i + 1 ≡ suc (suc (2 * i + 1)) = omega arith in
    at-paired ns i (omega arith) ∙ ap₂ {C = ℕ} (λ (x y : ℕ). get_or (a ∷ b ∷ ns) x 0 + get_or (a ∷ b ∷ ns) y 0) (sym e) (sym f)

-- no key is lost or added, but for one that has no neighbour
pub total-paired-le : (ns : List ℕ) → total (paired ns) ≤ total ns
total-paired-le [] = omega arith
total-paired-le (a ∷ []) = omega arith
total-paired-le (a ∷ b ∷ ns) = omega (arith, total-paired-le ns)

pub total-paired : (m : ℕ) (ns : List ℕ) → length ns ≡ 2 * m → total (paired ns) ≡ total ns
total-paired zero [] e = refl
total-paired zero (a ∷ ns) e = absurd (omega arith)
total-paired (suc m) [] e = absurd (omega arith)
total-paired (suc m) (a ∷ []) e = absurd (omega arith)
total-paired (suc m) (a ∷ b ∷ ns) e = omega (arith, total-paired m ns (omega arith))

pub take-paired : (m : ℕ) (ns : List ℕ) → take m (paired ns) ≡ paired (take (2 * m) ns)
take-paired zero ns = refl
take-paired (suc m) [] = let e : 2 * suc m ≡ suc (suc (2 * m)) = omega arith in rw e refl
take-paired (suc m) (a ∷ []) = let e : 2 * suc m ≡ suc (suc (2 * m)) = omega arith in rw (e, take-nil) refl
take-paired (suc m) (a ∷ b ∷ ns) = let e : 2 * suc m ≡ suc (suc (2 * m)) = omega arith in rw e (ap {B = List ℕ} (λ r. (a + b) ∷ r) (take-paired m ns))

pub drop-paired : (m : ℕ) (ns : List ℕ) → drop m (paired ns) ≡ paired (drop (2 * m) ns)
drop-paired zero ns = refl
drop-paired (suc m) [] = let e : 2 * suc m ≡ suc (suc (2 * m)) = omega arith in rw e refl
drop-paired (suc m) (a ∷ []) = let e : 2 * suc m ≡ suc (suc (2 * m)) = omega arith in rw (e, drop-nil) refl
drop-paired (suc m) (a ∷ b ∷ ns) = let e : 2 * suc m ≡ suc (suc (2 * m)) = omega arith in rw e (drop-paired m ns)

-- a window of level l of the pairs is one of level l + 1
pub start-pair : (l s : ℕ) → start (suc l) s ≡ 2 * start l (s / 2)
start-pair l s =
    ap (λ (n : ℕ). s / n * n) (pow-succ' 2 l) ∙ ap (λ (n : ℕ). n * (2 * 2 ^ l)) (sym (div-div-eq-div-mul s 2 (2 ^ l))) ∙ omega arith

pub window-paired : (l h s : ℕ) (ns : List ℕ) → l ≤ h → s / 2 < 2 ^ h → length ns ≡ 2 * 2 ^ h → total (window l (s / 2) (paired ns)) ≡ total (window (suc l) s ns)
window-paired l h s ns k w e =
    ap total (ap (take (2 ^ l)) (drop-paired (start l (s / 2)) ns) ∙ take-paired (2 ^ l) (drop (2 * start l (s / 2)) ns))
    ∙ total-paired (2 ^ l) (take (2 * 2 ^ l) (drop (2 * start l (s / 2)) ns)) (length-take-le (2 * 2 ^ l) (drop (2 * start l (s / 2)) ns) (omega (arith, length-drop (2 * start l (s / 2)) ns, start_fits l h (s / 2) k w)))
    ∙ ap₂ {C = ℕ} (λ (a b : ℕ). total (take a (drop b ns))) (sym (pow-succ' 2 l)) (sym (start-pair l s))

-- one count changed
pub paired-set : (ns : List ℕ) (s v w : ℕ) → s < length ns → get_or (paired ns) (s / 2) 0 + v ≡ get_or ns s 0 + w → paired (set ns s v) ≡ set (paired ns) (s / 2) w
paired-set [] s v w h e = absurd (omega arith)
paired-set (a ∷ []) zero v w h e = refl
paired-set (a ∷ []) (suc s) v w h e = absurd (omega arith)
paired-set (a ∷ b ∷ ns) zero v w h e = ap {B = List ℕ} (λ (n : ℕ). n ∷ paired ns) (omega arith)
paired-set (a ∷ b ∷ ns) (suc zero) v w h e = ap {B = List ℕ} (λ (n : ℕ). n ∷ paired ns) (omega arith)
paired-set (a ∷ b ∷ ns) (suc (suc s)) v w h e =
    let d : suc (suc s) / 2 ≡ suc (s / 2) = omega arith in
    rw d (ap {B = List ℕ} (λ r. (a + b) ∷ r) (paired-set ns s v w (omega arith) (rw d at e)))

-- a sum has at least what its parts have
pub pair-least : (ns : List ℕ) (s m : ℕ) → length ns ≡ 2 * m → s < length ns → get_or ns s 0 ≤ get_or (paired ns) (s / 2) 0
pair-least [] s m e h = absurd (omega arith)
pair-least (a ∷ []) s m e h = absurd (omega arith)
pair-least (a ∷ b ∷ ns) zero m e h = omega arith
pair-least (a ∷ b ∷ ns) (suc zero) m e h = omega arith
pair-least (a ∷ b ∷ ns) (suc (suc s)) zero e h = absurd (omega arith)
pair-least (a ∷ b ∷ ns) (suc (suc s)) (suc m) e h = let d : suc (suc s) / 2 ≡ suc (s / 2) = omega arith in rw d (pair-least ns s m (omega arith) (omega arith))
