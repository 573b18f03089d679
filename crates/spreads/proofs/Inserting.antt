-- A key put in while slots are laid out: parts of a list with a key put in, and the movements that make them.
use mathlib.Core.Path.{◌≡◌, refl, sym, ap, ◌∙◌}
use Prim.Native.Nat.{ℕ, zero, suc, ◌+◌, ◌-◌, ◌*◌, ◌≤◌, ◌<◌}
use native.Mathlib.Nat.{not-suc-le-zero, le_of_suc-le-suc}
use native.Mathlib.Numerals.{add-one}
use native.Mathlib.Omega.{arith}
use mathlib.Core.List.{List, [], ◌∷◌, ◌++◌, append_assoc}
use lib.ListN.{length, get_or, set, take, drop, length-append, length-take, length-drop}
use lib.Seq.{paste, set_split, take_at, drop_at, length-take-le, take-append-le, take-append-add, drop-append-le, take-take}
use Rattle.std.specs.Prelude.{Option, Some, None}
use Rattle.lists.specs.Lists.{total, insert_at}
use Rattle.moves.specs.Moves.{moved}
use Rattle.moves.proofs.Fronts.{part-alike, take-drop}
use Rattle.gaps.specs.Gaps.{cleared}
use Rattle.gaps.proofs.Gaps.{length-insert_at}
use Rattle.spreads.specs.declared.Newcomer.{Newcomer}
use Rattle.spreads.specs.Newcomers.{entered, Among}
use Rattle.spreads.proofs.Packing.{total-bound}
use Rattle.spreads.proofs.Laying.{Laid, laid-front, laid-down}

-- Where the laying of m keys, the newcomer put in on the way, has come to: segment s is next, and so many of the keys are not yet laid.
pub record Laying (counts l : List ℕ) (x : Option Newcomer) (m s at : ℕ) : Type 0 where
  pub some : 0 < s
  pub up_to : s ≤ length counts
  pub long : length l ≡ 64 * length counts
  pub fits : (k : ℕ) → get_or counts k 0 ≤ 64
  pub sum : at ≡ total (take s counts)
  pub held : at ≤ m
  pub room : m ≤ length l
  pub among : Among m x

module _ {A : Type 0} (v : A) where
  -- WITH v PUT IN at place p: past it, before it, and up to a place
  insert-past : (p a : ℕ) (xs : List A) → p ≤ a → drop (suc a) (insert_at p v xs) ≡ drop a xs
  unfolding insert_at
  insert-past zero a xs h = refl
  insert-past (suc p) zero xs h = absurd (not-suc-le-zero h)
  insert-past (suc p) (suc a) [] h = refl
  insert-past (suc p) (suc a) (x ∷ xs) h = insert-past p a xs (le_of_suc-le-suc h)

  insert-before : (p n : ℕ) (xs : List A) → n ≤ p → n ≤ length xs → take n (insert_at p v xs) ≡ take n xs
  unfolding insert_at
  insert-before p zero xs h k = refl
  insert-before zero (suc n) xs h k = absurd (not-suc-le-zero h)
  insert-before (suc p) (suc n) [] h k = absurd (not-suc-le-zero k)
  insert-before (suc p) (suc n) (x ∷ xs) h k = ap (λ (t : List A). x ∷ t) (insert-before p n xs (le_of_suc-le-suc h) (le_of_suc-le-suc k))

  insert-up : (p n : ℕ) (xs : List A) → p ≤ n → take (suc n) (insert_at p v xs) ≡ insert_at p v (take n xs)
  unfolding insert_at
  insert-up zero n xs h = refl
  insert-up (suc p) zero xs h = absurd (not-suc-le-zero h)
  insert-up (suc p) (suc n) [] h = refl
  insert-up (suc p) (suc n) (x ∷ xs) h = ap (λ (t : List A). x ∷ t) (insert-up p n xs (le_of_suc-le-suc h))

  -- its first n elements are made of the first n
  insert-of : (p n : ℕ) (xs : List A) → take n (insert_at p v xs) ≡ take n (insert_at p v (take n xs))
  unfolding insert_at
  insert-of p zero xs = refl
  insert-of zero (suc n) xs = ap (λ (t : List A). v ∷ t) (sym (take-take n (suc n) xs (omega arith)))
  insert-of (suc p) (suc n) [] = refl
  insert-of (suc p) (suc n) (x ∷ xs) = ap (λ (t : List A). x ∷ t) (insert-of p n xs)

  pub insert-alike : (p n : ℕ) (xs ys : List A) → take n xs ≡ take n ys → take n (insert_at p v xs) ≡ take n (insert_at p v ys)
  insert-alike p n xs ys e = insert-of p n xs ∙ ap (λ (t : List A). take n (insert_at p v t)) e ∙ sym (insert-of p n ys)

  -- the first m are made of the first m - 1
  pub insert-keys : (l : List A) (m p : ℕ) → p < m → take m (insert_at p v l) ≡ insert_at p v (take (m - 1) l)
  insert-keys l m p h = let e : suc (m - 1) ≡ m = omega arith in ap (λ (i : ℕ). take i (insert_at p v l)) (sym e) ∙ insert-up p (m - 1) l (omega arith)

  -- THE PART of c elements from at on: all after v, all before it, or with it
  module _ (w : List A) (at to c p : ℕ) where
    pub lay-after : {w' : List A} → p < at → w' ≡ moved (at - 1) to c w → w' ≡ paste w to (drop at (insert_at p v w)) c
    lay-after h r =
        let e : suc (at - 1) ≡ at = omega arith in
        r ∙ ap (λ (d : List A). paste w to d c) (sym (insert-past p (at - 1) w (omega arith)) ∙ ap (λ (n : ℕ). drop n (insert_at p v w)) e)

    pub lay-before : {w' : List A} → at + c ≤ p → at + c ≤ length w → w' ≡ moved at to c w → w' ≡ paste w to (drop at (insert_at p v w)) c
    lay-before h k r =
        r ∙ ap (λ (d : List A). take to w ++ d ++ drop (to + c) w) (part-alike at c (at + c) w (insert_at p v w) (omega arith) (sym (insert-before p (at + c) w h k)))

    module _ (h : at ≤ to) (k : to + c ≤ length w) (q : at ≤ p) (i : p - at < c) where
      part-with : take c (drop at (insert_at p v w)) ≡ take (p - at) (drop at w) ++ v ∷ take (c - 1 - (p - at)) (drop p w)
      unfolding insert_at
      part-with =
          let x : ℕ = p - at in
          let lp : length (take p w) ≡ p = length-take-le p w (omega arith) in
          let lq : length (take x (drop at w)) ≡ x = simp (length-take, length-drop) (omega arith) in
          let e : c ≡ length (take x (drop at w)) + suc (c - 1 - x) = omega arith in
          ap (take c) (drop-append-le at (take p w) (v ∷ drop p w) (omega arith) ∙ ap (λ (t : List A). t ++ v ∷ drop p w) (sym (take-drop at p w q (omega arith))))
          ∙ ap (λ (n : ℕ). take n (take x (drop at w) ++ v ∷ drop p w)) e
          ∙ take-append-add (take x (drop at w)) (v ∷ drop p w) (suc (c - 1 - x))

      with_it : moved at to (p - at) (set (moved p (to + (p - at) + 1) (c - 1 - (p - at)) w) (to + (p - at)) v) ≡ paste w to (drop at (insert_at p v w)) c
      with_it =
          let x : ℕ = p - at in
          let Q : List A = take x (drop at w) in
          let R : List A = take (c - 1 - x) (drop p w) in
          let D : List A = drop (to + c) w in
          let f : List A = take (to + x + 1) w in
          let g : List A = take (to + x) w in
          let w₂ : List A = g ++ v ∷ (R ++ D) in
          let lf : length f ≡ to + x + 1 = length-take-le (to + x + 1) w (omega arith) in
          let lg : length g ≡ to + x = length-take-le (to + x) w (omega arith) in
          let e₁ : to + x + 1 + (c - 1 - x) ≡ to + c = omega arith in
          let s₁ : moved p (to + x + 1) (c - 1 - x) w ≡ f ++ (R ++ D) =
          ap (λ (n : ℕ). f ++ R ++ drop n w) e₁ ∙ append_assoc f R D in
          let s₂ : set (f ++ (R ++ D)) (to + x) v ≡ w₂ =
          set_split (f ++ (R ++ D)) (to + x) v (simp length-append (omega arith))
          ∙ ap (λ (t : List A). t ++ v ∷ drop (suc (to + x)) (f ++ (R ++ D))) (take-append-le (to + x) f (R ++ D) (omega arith) ∙ take-take (to + x) (to + x + 1) w (omega arith))
          ∙ ap (λ (t : List A). g ++ v ∷ t) (drop_at f (R ++ D) (suc (to + x)) (lf ∙ add-one (to + x))) in
          let s₃ : moved at to x w₂ ≡ take to w ++ Q ++ v ∷ (R ++ D) =
          ap (λ (t : List A). t ++ take x (drop at w₂) ++ drop (to + x) w₂) (take-append-le to g (v ∷ (R ++ D)) (omega arith) ∙ take-take to (to + x) w (omega arith))
          ∙ ap (λ (t : List A). take to w ++ t ++ drop (to + x) w₂) (part-alike at x (to + x) w₂ w (omega arith) (take_at g (v ∷ (R ++ D)) (to + x) lg))
          ∙ ap (λ (t : List A). take to w ++ Q ++ t) (drop_at g (v ∷ (R ++ D)) (to + x) lg) in
          let s₄ : take to w ++ Q ++ v ∷ (R ++ D) ≡ take to w ++ (Q ++ v ∷ R) ++ D = simp append_assoc in
          ap (λ (t : List A). moved at to x (set t (to + x) v)) s₁
          ∙ ap (moved at to x) s₂
          ∙ s₃
          ∙ s₄
          ∙ sym (ap (λ (t : List A). take to w ++ t ++ D) part-with)

      pub lay-with : (w₁ : List A) {w₂ : List A} → w₁ ≡ moved p (to + (p - at) + 1) (c - 1 - (p - at)) w → w₂ ≡ moved at to (p - at) (set w₁ (to + (p - at)) v)
          → w₂ ≡ paste w to (drop at (insert_at p v w)) c
      lay-with w₁ r₁ r₂ = r₂ ∙ ap (λ (t : List A). moved at to (p - at) (set t (to + (p - at)) v)) r₁ ∙ with_it

-- A NEWCOMER OR NONE: what is in front is made of what was, and all is no shorter
entered-alike : (x : Option Newcomer) (n : ℕ) (xs ys : List ℕ) → take n xs ≡ take n ys → take n (entered x xs) ≡ take n (entered x ys)
entered-alike (Some y) n xs ys e = insert-alike y.key y.place n xs ys e
entered-alike None n xs ys e = e

length-entered : (x : Option Newcomer) (m : ℕ) (l : List ℕ) → Among m x → m ≤ length l → m ≤ length (entered x l)
length-entered (Some y) m l h k = omega (arith, h, length-insert_at y.place y.key l (omega (arith, h)))
length-entered None m l h k = k

-- ONE SEGMENT MORE laid out, from the window w where those from s on are
pub laid_in : (x : Option Newcomer) (cs l w w₁ w₂ : List ℕ) (m s at : ℕ) → Laying cs l x m s at → w ≡ Laid 0 cs (take m (entered x l)) l s at
    → w₁ ≡ paste w (64 * (s - 1)) (drop (at - get_or cs (s - 1) 0) (entered x w)) (get_or cs (s - 1) 0)
    → w₂ ≡ cleared (64 * (s - 1) + get_or cs (s - 1) 0) (64 * (s - 1) + 64) 0 w₁ → w₂ ≡ Laid 0 cs (take m (entered x l)) l (s - 1) (at - get_or cs (s - 1) 0)
laid_in x cs l w w₁ w₂ m s at d r r₁ r₂ =
    r₂ ∙ ap (cleared (64 * (s - 1) + get_or cs (s - 1) 0) (64 * (s - 1) + 64) 0) (r₁ ∙ ap (λ (t : List ℕ). paste t (64 * (s - 1)) (drop (at - get_or cs (s - 1) 0) (entered x w)) (get_or cs (s - 1) 0)) r)
    ∙ laid-down 0 cs (take m (entered x l)) l (entered x w) s at d.some d.up_to d.long d.fits d.sum (omega (arith, d.held, length-take m (entered x l), length-entered x m l d.among d.room)) front
  where
    front : take at (entered x w) ≡ take at (take m (entered x l))
    front =
        entered-alike x at w l (ap (take at) r ∙ laid-front 0 cs (take m (entered x l)) l s at at (omega (arith, d.sum, total-bound cs s d.fits)) (omega arith))
        ∙ sym (take-take at m (entered x l) d.held)
