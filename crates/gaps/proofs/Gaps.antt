-- A gap opened and closed in a part: one movement and one store make it.
use mathlib.Core.Path.{◌≡◌, sym, ap, ◌∙◌}
use Prim.Native.Nat.{ℕ, suc, ◌+◌, ◌-◌, ◌≤◌, ◌<◌}
use native.Mathlib.Numerals.{add-one}
use native.Mathlib.Omega.{arith}
use mathlib.Core.List.{List, ◌∷◌, ◌++◌, append_assoc}
use lib.ListN.{length, get_or, set, take, drop, length-append, length-take, length-drop}
use lib.Seq.{length_paste_head, drop-cons, set_at, drop_at, length-take-le, set_split, take-append-le, take-take}
use Rattle.lists.specs.Lists.{insert_at, without}
use Rattle.moves.specs.Moves.{moved}
use Rattle.moves.proofs.Fronts.{take-drop}
use Rattle.gaps.specs.Gaps.{opened, closed}

module _ {A : Type 0} where
  -- a store at the seam of p and what is left of l
  set-tail : (p l : List A) (k : ℕ) (v : A) → length p ≡ k → k < length l → set (p ++ drop k l) k v ≡ p ++ v ∷ drop (suc k) l
  set-tail p l k v e h = ap (λ (r : List A). set (p ++ r) k v) (drop-cons l k v h) ∙ set_at p (get_or l k v) (drop (suc k) l) v k e

  -- keys moved one to the right, and v stored where they left
  pub open_step : (l : List A) (n at : ℕ) (v : A) → at ≤ n → n < length l → set (moved at (at + 1) (n - at) l) at v ≡ opened n at v l
  unfolding opened insert_at
  open_step l n at v h k =
      let q : List A = take (n - at) (drop at l) in
      let r : List A = drop (at + 1 + (n - at)) l in
      let p : List A = take (at + 1) l in
      let lp : length p ≡ at + 1 = length-take-le (at + 1) l (omega arith) in
      let e₁ : at + 1 + (n - at) ≡ n + 1 = omega arith in
      ap (λ (m : List A). set m at v) (append_assoc p q r)
      ∙ set_split (p ++ (q ++ r)) at v (simp length-append (omega arith))
      ∙ ap (λ (t : List A). t ++ v ∷ drop (suc at) (p ++ (q ++ r))) (take-append-le at p (q ++ r) (omega arith) ∙ take-take at (at + 1) l (omega arith))
      ∙ ap (λ (t : List A). take at l ++ v ∷ t) (drop_at p (q ++ r) (suc at) (lp ∙ add-one at))
      ∙ ap (λ (t : List A). take at l ++ v ∷ (t ++ r)) (take-drop at n l h (omega arith))
      ∙ ap (λ (m : ℕ). take at l ++ v ∷ (drop at (take n l) ++ drop m l)) e₁
      ∙ ap (λ (t : List A). t ++ v ∷ (drop at (take n l) ++ drop (n + 1) l)) (sym (take-take at n l h))
      ∙ sym (append_assoc (take at (take n l)) (v ∷ drop at (take n l)) (drop (n + 1) l))

  -- keys moved one to the left, and the slot after the last a gap
  pub close-step : (l : List A) (n at : ℕ) (z : A) → at < n → n ≤ length l → set (moved (at + 1) at (n - at - 1) l) (n - 1) z ≡ closed z n at l
  unfolding closed without
  close-step l n at z h k =
      let q : List A = take (n - at - 1) (drop (at + 1) l) in
      let e₁ : at + (n - at - 1) ≡ n - 1 = omega arith in
      let e₂ : n - at - 1 ≡ n - (at + 1) = omega arith in
      let e₃ : suc (n - 1) ≡ n = omega arith in
      ap (λ (m : ℕ). set (take at l ++ q ++ drop m l) (n - 1) z) e₁
      ∙ set-tail (take at l ++ q) l (n - 1) z (length_paste_head l at (drop (at + 1) l) (n - at - 1) (omega arith) (simp length-drop (omega arith)) ∙ e₁) (omega arith)
      ∙ ap (λ (m : ℕ). take at l ++ q ++ z ∷ drop m l) e₃
      ∙ ap (λ (t : List A). take at l ++ t ++ z ∷ drop n l)
      (ap (λ (m : ℕ). take m (drop (at + 1) l)) e₂ ∙ take-drop (at + 1) n l (omega arith) (omega arith) ∙ ap (λ (m : ℕ). drop m (take n l)) (add-one at))
      ∙ ap (λ (t : List A). t ++ drop (suc at) (take n l) ++ z ∷ drop n l) (sym (take-take at n l (omega arith)))

  pub length-insert_at : (at : ℕ) (v : A) (xs : List A) → at ≤ length xs → length (insert_at at v xs) ≡ length xs + 1
  unfolding insert_at
  length-insert_at at v xs h = simp (length-append, length-take, length-drop) (omega arith)
