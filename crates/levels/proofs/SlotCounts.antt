-- The count of a window by the live keys in its slots, whatever their order.
use mathlib.Core.Path.{◌≡◌, refl, sym, ap, ap₂, ◌∙◌}
use mathlib.Core.List.{List, ◌∷◌, ◌++◌, map}
use Prim.Native.Nat.{ℕ, zero, suc, ◌+◌, ◌-◌, ◌*◌, ◌/◌, ◌^◌, ◌≤◌, ◌<◌}
use native.Mathlib.Omega.{arith}
use lib.ListN.{length, take, drop}
use lib.Seq.{take-add, drop-drop}
use Rattle.lists.specs.Lists.{parts}
use Rattle.lists.proofs.Filtered.{only-append}
use Rattle.lists.proofs.Maps.{map-take, map-drop}
use Rattle.slots.specs.Segments.{is_key, live, keys, segments_of}
use Rattle.slots.specs.Windows.{start, count}
use Rattle.slots.proofs.Windows.{start_fits}

-- the first parts, and those after
take-parts : (m n : ℕ) (xs : List ℕ) → m ≤ n → take m (parts 64 n xs) ≡ parts 64 m xs
take-parts zero n xs p = refl
take-parts (suc m) zero xs p = absurd (omega arith)
take-parts (suc m) (suc n) xs p = ap {B = List (List ℕ)} (λ r. take 64 xs ∷ r) (take-parts m n (drop 64 xs) (omega arith))

drop-parts : (a n : ℕ) (xs : List ℕ) → a ≤ n → drop a (parts 64 n xs) ≡ parts 64 (n - a) (drop (64 * a) xs)
drop-parts zero n xs p = let e : n ≡ n - 0 = omega arith in ap (λ (k : ℕ). parts 64 k xs) e
drop-parts (suc a) zero xs p = absurd (omega arith)
drop-parts (suc a) (suc n) xs p =
    let e : n - a ≡ suc n - suc a = omega arith in
    let d : 64 + 64 * a ≡ 64 * suc a = omega arith in
    drop-parts a n (drop 64 xs) (omega arith)
    ∙ ap₂ {C = List (List ℕ)} (λ (k : ℕ) (ys : List ℕ). parts 64 k ys) e (drop-drop (64 * a) 64 xs ∙ ap (λ (k : ℕ). drop k xs) d)

live-parts : (m : ℕ) (xs : List ℕ) → keys (map live (parts 64 m xs)) ≡ live (take (64 * m) xs)
live-parts zero xs = refl
live-parts (suc m) xs =
    let d : 64 + 64 * m ≡ 64 * suc m = omega arith in
    ap {B = List ℕ} (λ r. live (take 64 xs) ++ r) (live-parts m (drop 64 xs)) ∙ sym (only-append is_key (take 64 xs) (take (64 * m) (drop 64 xs)))
    ∙ ap live (sym (take-add 64 (64 * m) xs) ∙ ap (λ (k : ℕ). take k xs) d)

pub counts-slots : (h : ℕ) (slots : List ℕ) → length slots ≡ 64 * 2 ^ h → (l s : ℕ) → l ≤ h → s < 2 ^ h
    → count l s (segments_of slots) ≡ length (live (take (64 * 2 ^ l) (drop (64 * start l s) slots)))
unfolding segments_of
counts-slots h slots e l s p k =
    let n : length slots / 64 ≡ 2 ^ h = omega arith in
    let m : 2 ^ l ≤ length slots / 64 - start l s = omega (arith, start_fits l h s p k) in
    ap (λ w. length (keys w))
    (ap (take (2 ^ l)) (sym (map-drop live (start l s) (parts 64 (length slots / 64) slots))) ∙ sym (map-take live (2 ^ l) (drop (start l s) (parts 64 (length slots / 64) slots)))
    ∙ ap (map live) (ap (take (2 ^ l)) (drop-parts (start l s) (length slots / 64) slots (omega (arith, start_fits l h s p k)))
    ∙ take-parts (2 ^ l) (length slots / 64 - start l s) (drop (64 * start l s) slots) m))
    ∙ ap length (live-parts (2 ^ l) (drop (64 * start l s) slots))
