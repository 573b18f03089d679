-- What a window weighs, by its marks: the weights up to the next one, and parts of a window's keys.
use mathlib.Core.Path.{◌≡◌, refl, sym, ap, ◌∙◌}
use mathlib.Core.List.Memᴰ.{head as here}
use mathlib.Core.List.Memᴰ.{tail as there}
use mathlib.Core.List.{List, [], ◌∷◌}
use Prim.Native.Nat.{ℕ, zero, suc, ◌+◌, ◌-◌, ◌*◌, ◌≤◌}
use native.Mathlib.Nat.{zero-add, suc-add, add-sub_of_le}
use native.Mathlib.Decide.{dec_lt}
use native.Mathlib.Omega.{arith}
use lib.ListN.{length, take, drop, take-append-drop, length-take, length-drop}
use lib.Seq.{take-add, take-take, drop-drop, take-nil}
use borrow.Author.Tests.{lt-ltb, le-ltb, le-leb, lt-leb}
use Rattle.lists.specs.Lists.{All, total}
use Rattle.lists.proofs.Joined.{total-append}
use Rattle.slots.specs.Keys.{Rising}
use Rattle.stretches.specs.Marks.{weight_below, Marked}
use Rattle.stretches.proofs.NextMark.{next}

-- WEIGHTS
none_below : (x : ℕ) (qs ws : List ℕ) → All (λ q. x ≤ q) qs → weight_below qs ws x ≡ 0
none_below x [] ws h = refl
none_below x (q ∷ qs) [] h = refl
none_below x (q ∷ qs) (w ∷ ws) h = rw (le-ltb q x (h q (here refl))) (omega (arith, none_below x qs ws (λ y m. h y (there m))))

below_next : (x : ℕ) (at weights : List ℕ) → Rising at → length at ≡ length weights → weight_below at weights x ≡ total (take (next at x) weights)
below_next x [] weights r e = refl
below_next x (q ∷ qs) [] r e = absurd (omega arith)
below_next x (q ∷ qs) (w ∷ ws) r e =
    elim (dec_lt q x) [
      | yes l ↦ rw (lt-ltb q x l, lt-leb x q l) (ap (λ (n : ℕ). w + n) (below_next x qs ws r.1 (omega arith)))
      | no l ↦ rw (le-ltb q x (omega arith), le-leb x q (omega arith)) (omega (arith, none_below x qs ws (λ y m. omega (arith, r.0 y m))))
    ]

-- the keys before a place weigh what the marks before it weigh
pub total-marks : (ws at weights : List ℕ) → Marked ws at weights → (x : ℕ) → total (take x ws) ≡ total (take (next at x) weights)
total-marks ws at weights d x = d.totals x ∙ below_next x at weights d.rising d.same

pub total-small : (k : ℕ) (weights : List ℕ) → All (λ w. w ≤ 12) weights → total (take k weights) ≤ 12 * length weights
total-small zero weights h = omega arith
total-small (suc k) [] h = omega arith
total-small (suc k) (w ∷ ws) h = omega (arith, h w (here refl), total-small k ws (λ v m. h v (there m)))

-- PARTS OF THE KEYS
drop-take : {A : Type 0} (i n : ℕ) (l : List A) → drop i (take (i + n) l) ≡ take n (drop i l)
drop-take zero n l = ap (λ (k : ℕ). take k l) (zero-add n)
drop-take (suc i) n [] = ap (drop (suc i)) (take-nil (suc i + n)) ∙ sym (take-nil n)
drop-take (suc i) n (x ∷ l) = ap (λ (k : ℕ). drop (suc i) (take k (x ∷ l))) (suc-add i n) ∙ drop-take i n l

module _ (ws : List ℕ) where
  pub total-two : (i : ℕ) → total ws ≡ total (take i ws) + total (drop i ws)
  total-two i = ap total (sym (take-append-drop i ws)) ∙ total-append (take i ws) (drop i ws)

  pub total-stretch : (a n : ℕ) → total (take (a + n) ws) ≡ total (take a ws) + total (take n (drop a ws))
  total-stretch a n = ap total (take-add a n ws) ∙ total-append (take a ws) (take n (drop a ws))

  module _ (a m i : ℕ) (h : i ≤ m) where
    -- the first i keys of a stretch of m from a on, and the others
    pub first_part : take i (take m (drop a ws)) ≡ take i (drop a ws)
    first_part = take-take i m (drop a ws) h

    pub other-part : drop i (take m (drop a ws)) ≡ take (m - i) (drop (a + i) ws)
    other-part =
        ap (λ (n : ℕ). drop i (take n (drop a ws))) (sym (add-sub_of_le h)) ∙ drop-take i (m - i) (drop a ws) ∙ ap (take (m - i)) (drop-drop i a ws)

  pub length-stretch : (a m : ℕ) → a + m ≤ length ws → length (take m (drop a ws)) ≡ m
  length-stretch a m h = simp (length-take, length-drop) (omega arith)
