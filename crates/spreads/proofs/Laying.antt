-- Packed keys laid out in segments, one segment at a time from the last: what the loop of spread goes through.
use mathlib.Core.Path.{◌≡◌, refl, sym, ap, ◌∙◌, subst}
use Prim.Native.Nat.{ℕ, suc, ◌+◌, ◌-◌, ◌*◌, ◌≤◌, ◌<◌}
use native.Mathlib.Omega.{arith}
use mathlib.Core.List.{List, ◌++◌, append_assoc, append-nil}
use lib.ListN.{length, get_or, take, drop, replicate, length-append, length-take, length-drop}
use lib.Seq.{paste, drop-cons, take_at, drop_at, length-take-le, take-append-le, take-take, drop-drop, drop-length, take_all}
use Rattle.lists.specs.Lists.{total, padded, deal}
use Rattle.gaps.specs.Gaps.{cleared}
use Rattle.slots.specs.Layout.{pad, render}
use Rattle.moves.proofs.Fronts.{drop_past, part-alike}
use Rattle.spreads.proofs.Packing.{total-pred}

module _ {A : Type 0} where
  -- the keys of one segment laid out, in front of what is laid out already
  lay_step : (z : A) (l r ks : List A) (to c : ℕ) → length ks ≡ c → c ≤ 64 → to + 64 ≤ length l
      → cleared (to + c) (to + 64) z (take to (take (to + 64) l ++ r) ++ ks ++ drop (to + c) (take (to + 64) l ++ r)) ≡ take to l ++ (pad z ks ++ r)
  unfolding padded
  lay_step z l r ks to c lk k q =
      let w : List A = take (to + 64) l ++ r in
      let p : List A = take to l ++ ks in
      let m : List A = p ++ drop (to + c) w in
      let lt : length (take (to + 64) l) ≡ to + 64 = length-take-le (to + 64) l q in
      let lp : length p ≡ to + c = simp (length-append, length-take) (omega arith) in
      let e₁ : take to w ≡ take to l = take-append-le to (take (to + 64) l) r (omega arith) ∙ take-take to (to + 64) l (omega arith) in
      let e₂ : to + 64 - (to + c) ≡ 64 - length ks = omega arith in
      ap (λ (t : List A). cleared (to + c) (to + 64) z (t ++ ks ++ drop (to + c) w)) e₁
      ∙ ap (λ (t : List A). t ++ replicate (to + 64 - (to + c)) z ++ drop (to + 64) m) (take_at p (drop (to + c) w) (to + c) lp)
      ∙ ap (λ (n : ℕ). p ++ replicate n z ++ drop (to + 64) m) e₂
      ∙ ap (λ (t : List A). p ++ replicate (64 - length ks) z ++ t)
      (drop_past p w (to + c) (to + 64) lp (omega arith) ∙ drop_at (take (to + 64) l) r (to + 64) lt)
      ∙ ap (λ (t : List A). t ++ r) (append_assoc (take to l) ks (replicate (64 - length ks) z))
      ∙ append_assoc (take to l) (ks ++ replicate (64 - length ks) z) r

  -- the window l where segments s and on are laid out, with the keys ks from at on
  unfoldable pub Laid : A → List ℕ → List A → List A → ℕ → ℕ → List A
  Laid z cs ks l s at = take (64 * s) l ++ render z (deal (drop s cs) (drop at ks))

  pub laid_none : (z : A) (cs : List ℕ) (ks l : List A) (at : ℕ) → length l ≡ 64 * length cs → l ≡ Laid z cs ks l (length cs) at
  unfolding Laid render
  laid_none z cs ks l at e =
      sym (ap (λ (t : List ℕ). take (64 * length cs) l ++ render z (deal t (drop at ks))) (drop-length cs)
      ∙ append-nil (take (64 * length cs) l) ∙ take_all (64 * length cs) l (omega arith))

  pub laid-all : (z : A) (cs : List ℕ) (ks l : List A) → Laid z cs ks l 0 0 ≡ render z (deal cs ks)
  unfolding Laid
  laid-all z cs ks l = refl

  -- what is in front of them is as it was
  pub laid-front : (z : A) (cs : List ℕ) (ks l : List A) (s at n : ℕ) → n ≤ 64 * s → 64 * s ≤ length l → take n (Laid z cs ks l s at) ≡ take n l
  unfolding Laid
  laid-front z cs ks l s at n h k =
      take-append-le n (take (64 * s) l) (render z (deal (drop s cs) (drop at ks))) (omega (arith, length-take-le (64 * s) l k)) ∙ take-take n (64 * s) l h

  laid_more : (z : A) (cs : List ℕ) (ks l : List A) (s at : ℕ) → s < length cs → length l ≡ 64 * length cs → get_or cs s 0 ≤ 64 → at + get_or cs s 0 ≤ length ks
      → cleared (64 * s + get_or cs s 0) (64 * s + 64) z (paste (Laid z cs ks l (suc s) (at + get_or cs s 0)) (64 * s) (drop at ks) (get_or cs s 0)) ≡ Laid z cs ks l s at
  unfolding Laid render
  laid_more z cs ks l s at h e j q =
      let c : ℕ = get_or cs s 0 in
      let r : List A = render z (deal (drop (suc s) cs) (drop (at + c) ks)) in
      let e₁ : 64 * suc s ≡ 64 * s + 64 = omega arith in
      ap (λ (n : ℕ). cleared (64 * s + c) (64 * s + 64) z (paste (take n l ++ r) (64 * s) (drop at ks) c)) e₁
      ∙ lay_step z l r (take c (drop at ks)) (64 * s) c (simp (length-take, length-drop) (omega arith)) j (omega arith)
      ∙ sym (ap (λ (t : List ℕ). take (64 * s) l ++ render z (deal t (drop at ks))) (drop-cons cs s 0 h)
      ∙ ap (λ (t : List A). take (64 * s) l ++ (pad z (take c (drop at ks)) ++ render z (deal (drop (suc s) cs) t))) (drop-drop c at ks))

  -- the same, as a loop that goes down has it: the keys are read from x, which begins as ks
  pub laid-down : (z : A) (cs : List ℕ) (ks l x : List A) (s at : ℕ) → 0 < s → s ≤ length cs → length l ≡ 64 * length cs → ((k : ℕ) → get_or cs k 0 ≤ 64) → at ≡ total (take s cs) → at ≤ length ks
      → take at x ≡ take at ks
      → cleared (64 * (s - 1) + get_or cs (s - 1) 0) (64 * (s - 1) + 64) z (paste (Laid z cs ks l s at) (64 * (s - 1)) (drop (at - get_or cs (s - 1) 0) x) (get_or cs (s - 1) 0))
      ≡ Laid z cs ks l (s - 1) (at - get_or cs (s - 1) 0)
  laid-down z cs ks l x s at p h e fits q r b =
      let t : ℕ = s - 1 in
      let c : ℕ = get_or cs (s - 1) 0 in
      let f : List A → List A → List A = λ w k. cleared (64 * t + c) (64 * t + 64) z (take (64 * t) w ++ k ++ drop (64 * t + c) w) in
      let e₁ : suc (s - 1) ≡ s = omega arith in
      let e₂ : at - c + c ≡ at = omega (arith, total-pred cs s p h) in
      ap (f (Laid z cs ks l s at)) (part-alike (at - c) c at x ks (omega arith) b)
      ∙ subst (λ (n : ℕ). f (Laid z cs ks l n at) (take c (drop (at - c) ks)) ≡ Laid z cs ks l t (at - c)) e₁
      (subst (λ (n : ℕ). f (Laid z cs ks l (suc t) n) (take c (drop (at - c) ks)) ≡ Laid z cs ks l t (at - c)) e₂
      (laid_more z cs ks l t (at - c) (omega arith) e (fits t) (omega arith)))
