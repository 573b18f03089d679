-- A gap opened and closed in the slots of a segment is a key put in and taken out of its keys: the flat equations carried over.
use mathlib.Core.Path.{◌≡◌, ap, ap₂, ◌∙◌}
use mathlib.Core.List.{List, [], ◌∷◌, ◌++◌, map}
use Prim.Native.Nat.{ℕ, suc, ◌+◌, ◌-◌, ◌*◌, ◌≤◌, ◌<◌}
use native.Mathlib.Omega.{arith}
use lib.ListN.{length, take, drop, replicate, get_or, set}
use borrow.Rule.Slice.PartMut.{mid_of, put_mid}
use Rattle.lists.specs.Lists.{All, insert_at, without, padded}
use Rattle.lists.proofs.Members.{at_mem}
use Rattle.lists.proofs.Fill.{length_without, take-padded-all, drop-padded}
use Rattle.slots.specs.Segments.{pad, render}
use Rattle.slots.proofs.Carried.{in_part, put-part, in-segment}
use Rattle.gaps.specs.Gaps.{opened, closed}
use Rattle.gaps.proofs.Gaps.{length-insert_at}
use Rattle.gaps.proofs.Natural.{opened-kept, closed-kept, part-kept, back-kept}

module _ {A : Type 0} where
  -- in the slots of one segment
  pub opened-pad : (z : A) (xs : List A) (at : ℕ) (v : A) → at ≤ length xs → length xs < 64 → opened (length xs) at v (pad z xs) ≡ pad z (insert_at at v xs)
  unfolding opened padded
  opened-pad z xs at v h k =
      let n : ℕ = length xs in
      let e : 64 - (n + 1) ≡ 64 - length (insert_at at v xs) = omega (arith, length-insert_at at v xs h) in
      ap (λ (t : List A). insert_at at v t ++ drop (n + 1) (pad z xs)) (take-padded-all 64 z xs)
      ∙ ap (λ (t : List A). insert_at at v xs ++ t) (drop-padded 64 z xs (n + 1) (omega arith))
      ∙ ap (λ (m : ℕ). insert_at at v xs ++ replicate m z) e

  pub closed-pad : (z : A) (xs : List A) (at : ℕ) → at < length xs → length xs ≤ 64 → closed z (length xs) at (pad z xs) ≡ pad z (without at xs)
  unfolding closed padded
  closed-pad z xs at h k =
      let n : ℕ = length xs in
      let e : suc (64 - n) ≡ 64 - length (without at xs) = omega (arith, length_without at xs h) in
      ap (λ (t : List A). without at t ++ z ∷ drop n (pad z xs)) (take-padded-all 64 z xs)
      ∙ ap (λ (t : List A). without at xs ++ z ∷ t) (drop-padded 64 z xs n (omega arith))
      ∙ ap (λ (m : ℕ). without at xs ++ replicate m z) e

-- Slots a to e of l are segment s of ss, which holds n keys; z is a gap.
pub record Lies {A : Type 0} (z : A) (ss : List (List A)) (s n a e : ℕ) (l : List A) : Type 0 where
  pub fits : All (λ x. length x ≤ 64) ss
  pub inside : s < length ss
  pub held : n ≡ length (get_or ss s [])
  pub whole : l ≡ render z ss
  pub begins : a ≡ 64 * s
  pub ends : e ≡ a + 64

-- a lent segment as it comes back
module _ {A : Type 0} (z : A) (ss : List (List A)) (s n a e : ℕ) (l : List A) (x : Lies z ss s n a e l) (at : ℕ) (last : List A) where
  to-segment : (f : List A → List A) → last ≡ f (take (e - a) (drop a l)) → put_mid a (e - a) l last ≡ in_part (64 * s) (64 * s + 64) f (render z ss)
  to-segment f r =
      let k : e ≡ 64 * s + 64 = omega (arith, x.begins, x.ends) in
      put-part a e f l last (omega (arith, x.ends)) r ∙ ap (in_part a e f) x.whole ∙ ap₂ (λ (a e : ℕ). in_part a e f (render z ss)) x.begins k

  -- put in
  pub opened-put : (v : A) → at ≤ n → n < 64 → last ≡ opened n at v (take (e - a) (drop a l)) → put_mid a (e - a) l last ≡ render z (set ss s (insert_at at v (get_or ss s [])))
  opened-put v p q r =
      to-segment (opened n at v) r
      ∙ in-segment z ss s (opened n at v) (insert_at at v (get_or ss s [])) x.fits x.inside
      (ap (λ (m : ℕ). opened m at v (pad z (get_or ss s []))) x.held ∙ opened-pad z (get_or ss s []) at v (omega (arith, x.held)) (omega (arith, x.held)))

  -- taken out
  pub closed-put : at < n → last ≡ closed z n at (take (e - a) (drop a l)) → put_mid a (e - a) l last ≡ render z (set ss s (without at (get_or ss s [])))
  closed-put p r =
      to-segment (closed z n at) r
      ∙ in-segment z ss s (closed z n at) (without at (get_or ss s [])) x.fits x.inside
      (ap (λ (m : ℕ). closed z m at (pad z (get_or ss s []))) x.held ∙ closed-pad z (get_or ss s []) at (omega (arith, x.held)) (x.fits (get_or ss s []) (at_mem ss s [] x.inside)))

-- the cards c of the slots l, as a lent part of both comes back
module _ {A B : Type 0} (f : A → B) (l : List A) {c : List B} (h : c ≡ map f l) (a k n at : ℕ) {p : List A} {q : List B} where
  pub opened-cards : (v : A) (y : B) → f v ≡ y → p ≡ opened n at v (mid_of a k l) → q ≡ opened n at y (mid_of a k c) → put_mid a k c q ≡ map f (put_mid a k l p)
  opened-cards v y e r s = back-kept f l h a k p (opened-kept f (mid_of a k l) (part-kept f l h a k) n at v y e r s)

  pub closed-cards : (z : A) (y : B) → f z ≡ y → p ≡ closed z n at (mid_of a k l) → q ≡ closed y n at (mid_of a k c) → put_mid a k c q ≡ map f (put_mid a k l p)
  closed-cards z y e r s = back-kept f l h a k p (closed-kept f (mid_of a k l) (part-kept f l h a k) n at z y e r s)
