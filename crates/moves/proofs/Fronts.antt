-- A list behind another front, the parts of two lists that begin alike, and a front without its first.
use mathlib.Core.Path.{◌≡◌, sym, ap, ◌∙◌, subst}
use Prim.Native.Nat.{ℕ, zero, suc, ◌+◌, ◌-◌, ◌≤◌}
use native.Mathlib.Nat.{suc-add, add-sub_of_le}
use native.Mathlib.Omega.{arith}
use mathlib.Core.List.{List, [], ◌∷◌, ◌++◌}
use lib.ListN.{length, take, drop}
use lib.Seq.{drop_at, take-take, drop-drop, take-nil, take-add, length-take-le}

module _ {A : Type 0} where
  -- what is left of l past what stands in front of it
  pub drop_past : (p l : List A) (n k : ℕ) → length p ≡ n → n ≤ k → drop k (p ++ drop n l) ≡ drop k l
  drop_past p l n k e h =
      subst (λ (m : ℕ). drop m (p ++ drop n l) ≡ drop m l) (add-sub_of_le h)
      (sym (drop-drop (k - n) n (p ++ drop n l)) ∙ ap (drop (k - n)) (drop_at p (drop n l) n e) ∙ drop-drop (k - n) n l)

  -- a part of it, as a part of its front; so two lists that begin alike have the same parts there
  part_of : (at c : ℕ) (l : List A) → take c (drop at l) ≡ drop at (take (at + c) l)
  part_of zero c l = ap (λ (n : ℕ). take n l) (let e : c ≡ 0 + c = omega arith in e)
  part_of (suc at) c [] = take-nil c ∙ sym (ap (drop (suc at)) (take-nil (suc at + c)))
  part_of (suc at) c (x ∷ l) = part_of at c l ∙ sym (ap (λ (n : ℕ). drop (suc at) (take n (x ∷ l))) (suc-add at c))

  pub part-alike : (at c n : ℕ) (l k : List A) → at + c ≤ n → take n l ≡ take n k → take c (drop at l) ≡ take c (drop at k)
  part-alike at c n l k h e =
      part_of at c l
      ∙ ap (drop at) (sym (take-take (at + c) n l h) ∙ ap (take (at + c)) e ∙ take-take (at + c) n k h)
      ∙ sym (part_of at c k)

  -- what a front of n has from index a on
  pub take-drop : (a n : ℕ) (l : List A) → a ≤ n → a ≤ length l → take (n - a) (drop a l) ≡ drop a (take n l)
  take-drop a n l h k =
      sym (ap (drop a) (ap (λ (m : ℕ). take m l) (sym (add-sub_of_le h)) ∙ take-add a (n - a) l)
      ∙ drop_at (take a l) (take (n - a) (drop a l)) a (length-take-le a l k))
