-- What is done to the slots of a segment, or of a window of segments, is done to those segments: the flat equations carried over.
use mathlib.Core.Path.{◌≡◌, refl, sym, ap, ap₂, ◌∙◌}
use mathlib.Core.List.Memᴰ.{head as here}
use mathlib.Core.List.Memᴰ.{tail as there}
use mathlib.Core.List.{List, [], ◌∷◌, ◌++◌, append_assoc}
use Prim.Native.Nat.{ℕ, zero, suc, ◌+◌, ◌-◌, ◌*◌, ◌≤◌, ◌<◌}
use native.Mathlib.Omega.{arith}
use lib.ListN.{length, take, drop, get_or, set}
use lib.Seq.{take-nil, drop-nil, take_at, take-append-add, drop-append-add, drop-cons, set_split}
use borrow.Rule.Slice.PartMut.{put_mid, Post-is}
use Rattle.lists.specs.Lists.{All, splice}
use Rattle.lists.proofs.Members.{mem-take, mem-drop, at_mem}
use Rattle.lists.proofs.Fill.{length-padded}
use Rattle.slots.specs.Segments.{pad, render}

-- A PART LENT AND BACK
-- f done to the part from a to e
abbrev pub in_part : {A : Type 0} → ℕ → ℕ → (List A → List A) → List A → List A
in_part a e f l = take a l ++ (f (take (e - a) (drop a l)) ++ drop e l)

-- what the borrow checker leaves where the part from a to e has come back with f done to it
pub put-part : {A : Type 0} (a e : ℕ) (f : List A → List A) (l last : List A) → a ≤ e → last ≡ f (take (e - a) (drop a l)) → put_mid a (e - a) l last ≡ in_part a e f l
put-part {A} a e f l last h q =
    ap (put_mid a (e - a) l) q ∙ ap (λ (t : List A). take a l ++ (f (take (e - a) (drop a l)) ++ t)) (Post-is a e l h)

-- a window's segments fit as all do
pub window-fits : {A : Type 0} (ss : List (List A)) (first n : ℕ) → All (λ x. length x ≤ 64) ss → All (λ x. length x ≤ 64) (take n (drop first ss))
window-fits ss first n fits x m = fits x (mem-drop first ss x (mem-take n (drop first ss) x m))

module _ {A : Type 0} (z : A) where
  -- THE SLOTS OF SEGMENTS, IN PARTS
  pub render-append : (xs ys : List (List A)) → render z (xs ++ ys) ≡ render z xs ++ render z ys
  unfolding render
  render-append [] ys = refl
  render-append (x ∷ xs) ys = ap (λ (t : List A). pad z x ++ t) (render-append xs ys) ∙ sym (append_assoc (pad z x) (render z xs) (render z ys))

  -- 64 slots of the first segment, and what follows
  ahead : (x : List A) (xs : List (List A)) (s : ℕ) → All (λ x. length x ≤ 64) (x ∷ xs) → 64 * suc s ≡ length (pad z x) + 64 * s
  ahead x xs s fits = omega (arith, length-padded 64 z x (fits x (here refl)))

  pub take-render : (s : ℕ) (ss : List (List A)) → All (λ x. length x ≤ 64) ss → take (64 * s) (render z ss) ≡ render z (take s ss)
  unfolding render
  take-render zero ss fits = refl
  take-render (suc s) [] fits = take-nil (64 * suc s)
  take-render (suc s) (x ∷ xs) fits =
      ap (λ (n : ℕ). take n (pad z x ++ render z xs)) (ahead x xs s fits)
      ∙ take-append-add (pad z x) (render z xs) (64 * s)
      ∙ ap (λ (t : List A). pad z x ++ t) (take-render s xs (λ y m. fits y (there m)))

  pub drop-render : (s : ℕ) (ss : List (List A)) → All (λ x. length x ≤ 64) ss → drop (64 * s) (render z ss) ≡ render z (drop s ss)
  unfolding render
  drop-render zero ss fits = refl
  drop-render (suc s) [] fits = drop-nil (64 * suc s)
  drop-render (suc s) (x ∷ xs) fits =
      ap (λ (n : ℕ). drop n (pad z x ++ render z xs)) (ahead x xs s fits)
      ∙ drop-append-add (pad z x) (render z xs) (64 * s)
      ∙ drop-render s xs (λ y m. fits y (there m))

  -- the slots of one segment
  pub segment-part : (ss : List (List A)) (s : ℕ) → All (λ x. length x ≤ 64) ss → s < length ss → take 64 (drop (64 * s) (render z ss)) ≡ pad z (get_or ss s [])
  unfolding render
  segment-part ss s fits h =
      ap (take 64) (drop-render s ss fits ∙ ap (render z) (drop-cons ss s [] h))
      ∙ take_at (pad z (get_or ss s [])) (render z (drop (suc s) ss)) 64 (length-padded 64 z (get_or ss s []) (fits (get_or ss s []) (at_mem ss s [] h)))

  -- the slots of n segments from first on
  pub window-part : (ss : List (List A)) (first n : ℕ) → All (λ x. length x ≤ 64) ss → take (64 * n) (drop (64 * first) (render z ss)) ≡ render z (take n (drop first ss))
  window-part ss first n fits =
      ap (take (64 * n)) (drop-render first ss fits) ∙ take-render n (drop first ss) (λ x m. fits x (mem-drop first ss x m))

  -- the same, as they are lent from a to e
  pub window-lent : (ss : List (List A)) (first n a e : ℕ) (l : List A) → All (λ x. length x ≤ 64) ss → l ≡ render z ss → a ≡ 64 * first → e ≡ 64 * (first + n)
      → take (e - a) (drop a l) ≡ render z (take n (drop first ss))
  window-lent ss first n a e l fits w p q =
      let k : e - a ≡ 64 * n = omega arith in
      ap₂ (λ (n m : ℕ). take n (drop m l)) k p ∙ ap (λ (t : List A). take (64 * n) (drop (64 * first) t)) w ∙ window-part ss first n fits

  -- PUT BACK
  -- other segments in their place
  pub window-back : (ss : List (List A)) (first n : ℕ) (new : List (List A)) → All (λ x. length x ≤ 64) ss
      → take (64 * first) (render z ss) ++ (render z new ++ drop (64 * (first + n)) (render z ss)) ≡ render z (splice first n new ss)
  window-back ss first n new fits =
      ap₂ (λ (p q : List A). p ++ (render z new ++ q)) (take-render first ss fits) (drop-render (first + n) ss fits)
      ∙ ap (λ (t : List A). render z (take first ss) ++ t) (sym (render-append new (drop (first + n) ss)))
      ∙ sym (render-append (take first ss) (new ++ drop (first + n) ss))

  -- the same, as a lent part from a to e comes back
  pub window-put : (ss : List (List A)) (first n : ℕ) (new : List (List A)) (a e : ℕ) (l last : List A) → All (λ x. length x ≤ 64) ss → l ≡ render z ss
      → a ≡ 64 * first → e ≡ 64 * (first + n) → last ≡ render z new → put_mid a (e - a) l last ≡ render z (splice first n new ss)
  window-put ss first n new a e l last fits w p q r =
      put-part a e (λ _. render z new) l last (omega arith) r
      ∙ ap (in_part a e (λ _. render z new)) w
      ∙ ap₂ (λ (a e : ℕ). in_part a e (λ _. render z new) (render z ss)) p q
      ∙ window-back ss first n new fits

  -- one segment in its place
  segment-back : (ss : List (List A)) (s : ℕ) (y : List A) → All (λ x. length x ≤ 64) ss → s < length ss
      → take (64 * s) (render z ss) ++ (pad z y ++ drop (64 * s + 64) (render z ss)) ≡ render z (set ss s y)
  unfolding render
  segment-back ss s y fits h =
      let e : 64 * s + 64 ≡ 64 * suc s = omega arith in
      ap₂ (λ (p q : List A). p ++ (pad z y ++ q)) (take-render s ss fits) (ap (λ (n : ℕ). drop n (render z ss)) e ∙ drop-render (suc s) ss fits)
      ∙ sym (render-append (take s ss) (y ∷ drop (suc s) ss))
      ∙ ap (render z) (sym (set_split ss s y h))

  -- f done to the slots of a segment
  pub in-segment : (ss : List (List A)) (s : ℕ) (f : List A → List A) (y : List A) → All (λ x. length x ≤ 64) ss → s < length ss → f (pad z (get_or ss s [])) ≡ pad z y
      → in_part (64 * s) (64 * s + 64) f (render z ss) ≡ render z (set ss s y)
  in-segment ss s f y fits h e =
      let e₁ : 64 * s + 64 - 64 * s ≡ 64 = omega arith in
      ap (λ (t : List A). take (64 * s) (render z ss) ++ (t ++ drop (64 * s + 64) (render z ss)))
      (ap f (ap (λ (n : ℕ). take n (drop (64 * s) (render z ss))) e₁ ∙ segment-part ss s fits h) ∙ e)
      ∙ segment-back ss s y fits h
