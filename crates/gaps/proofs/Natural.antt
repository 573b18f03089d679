-- Cards beside slots: where each card is f of its slot, a movement of both keeps it so, for every movement commutes with map f.
use mathlib.Core.Path.{◌≡◌, refl, sym, ap, ap₂, ◌∙◌}
use mathlib.Core.List.{List, ◌∷◌, ◌++◌, map, map-append}
use Prim.Native.Nat.{ℕ, zero, suc, ◌+◌, ◌-◌}
use lib.ListN.{set, take, drop, replicate}
use lib.Seq.{paste}
use borrow.Rule.Slice.PartMut.{mid_of, post_of, put_mid}
use Rattle.lists.specs.Lists.{insert_at, without}
use Rattle.lists.proofs.Maps.{map-take, map-drop, map-set}
use Rattle.moves.specs.Moves.{moved}
use Rattle.gaps.specs.Gaps.{cleared, opened, closed}

module _ {A B : Type 0} (f : A → B) where
  map-replicate : (n : ℕ) (z : A) → map f (replicate n z) ≡ replicate n (f z)
  map-replicate zero z = refl
  map-replicate (suc n) z = ap {B = List B} (λ r. f z ∷ r) (map-replicate n z)

  -- the parts of a list put together again
  joins : (xs ys : List A) {xs' ys' : List B} → map f xs ≡ xs' → map f ys ≡ ys' → map f (xs ++ ys) ≡ xs' ++ ys'
  joins xs ys p q = map-append f xs ys ∙ ap₂ {C = List B} ◌++◌ p q

  pub map-paste : (l d : List A) (to n : ℕ) → map f (paste l to d n) ≡ paste (map f l) to (map f d) n
  map-paste l d to n =
      joins (take to l ++ take n d) (drop (to + n) l) (joins (take to l) (take n d) (map-take f to l) (map-take f n d)) (map-drop f (to + n) l)

  pub map-moved : (l : List A) (from to n : ℕ) → map f (moved from to n l) ≡ moved from to n (map f l)
  map-moved l from to n = map-paste l (drop from l) to n ∙ ap (λ (d : List B). paste (map f l) to d n) (map-drop f from l)

  pub map-cleared : (l : List A) (a e : ℕ) (z : A) → map f (cleared a e z l) ≡ cleared a e (f z) (map f l)
  map-cleared l a e z =
      joins (take a l ++ replicate (e - a) z) (drop e l) (joins (take a l) (replicate (e - a) z) (map-take f a l) (map-replicate (e - a) z)) (map-drop f e l)

  pub map-insert_at : (i : ℕ) (x : A) (xs : List A) → map f (insert_at i x xs) ≡ insert_at i (f x) (map f xs)
  unfolding insert_at
  map-insert_at i x xs = joins (take i xs) (x ∷ drop i xs) (map-take f i xs) (ap {B = List B} (λ r. f x ∷ r) (map-drop f i xs))

  pub map-without : (i : ℕ) (xs : List A) → map f (without i xs) ≡ without i (map f xs)
  unfolding without
  map-without i xs = joins (take i xs) (drop (suc i) xs) (map-take f i xs) (map-drop f (suc i) xs)

  pub map-opened : (l : List A) (n at : ℕ) (v : A) → map f (opened n at v l) ≡ opened n at (f v) (map f l)
  unfolding opened
  map-opened l n at v =
      joins (insert_at at v (take n l)) (drop (n + 1) l) (map-insert_at at v (take n l) ∙ ap (insert_at at (f v)) (map-take f n l)) (map-drop f (n + 1) l)

  pub map-closed : (l : List A) (z : A) (n at : ℕ) → map f (closed z n at l) ≡ closed (f z) n at (map f l)
  unfolding closed
  map-closed l z n at =
      joins (without at (take n l)) (z ∷ drop n l) (map-without at (take n l) ∙ ap (without at) (map-take f n l)) (ap {B = List B} (λ r. f z ∷ r) (map-drop f n l))

  -- BESIDE: c are the cards of the slots l, and both are changed in the same way
  module _ (l : List A) {l' : List A} {c c' : List B} (h : c ≡ map f l) where
    kept : (op : List A → List A) (op' : List B → List B) → map f (op l) ≡ op' (map f l) → l' ≡ op l → c' ≡ op' c → c' ≡ map f l'
    kept op op' e p q = q ∙ ap op' h ∙ sym e ∙ ap (map f) (sym p)

    pub moved-kept : (from to n : ℕ) → l' ≡ moved from to n l → c' ≡ moved from to n c → c' ≡ map f l'
    moved-kept from to n = kept (moved from to n) (moved from to n) (map-moved l from to n)

    pub cleared-kept : (a e : ℕ) (z : A) (y : B) → f z ≡ y → l' ≡ cleared a e z l → c' ≡ cleared a e y c → c' ≡ map f l'
    cleared-kept a e z y k = kept (cleared a e z) (cleared a e y) (map-cleared l a e z ∙ ap (λ (x : B). cleared a e x (map f l)) k)

    pub opened-kept : (n at : ℕ) (v : A) (y : B) → f v ≡ y → l' ≡ opened n at v l → c' ≡ opened n at y c → c' ≡ map f l'
    opened-kept n at v y k = kept (opened n at v) (opened n at y) (map-opened l n at v ∙ ap (λ (x : B). opened n at x (map f l)) k)

    pub closed-kept : (n at : ℕ) (z : A) (y : B) → f z ≡ y → l' ≡ closed z n at l → c' ≡ closed y n at c → c' ≡ map f l'
    closed-kept n at z y k = kept (closed z n at) (closed y n at) (map-closed l z n at ∙ ap (λ (x : B). closed x n at (map f l)) k)

  -- a store, a part, and a part that comes back
  module _ (l : List A) {c : List B} (h : c ≡ map f l) where
    pub set-kept : (i : ℕ) (v : A) (y : B) → f v ≡ y → set c i y ≡ map f (set l i v)
    set-kept i v y k = ap₂ {C = List B} (λ t x. set t i x) h (sym k) ∙ sym (map-set f l i v)

    pub part-kept : (a k : ℕ) → mid_of a k c ≡ map f (mid_of a k l)
    part-kept a k = ap (mid_of a k) h ∙ sym (map-take f k (drop a l) ∙ ap (take k) (map-drop f a l))

    pub back-kept : (a k : ℕ) (p : List A) {q : List B} → q ≡ map f p → put_mid a k c q ≡ map f (put_mid a k l p)
    back-kept a k p e =
        ap₂ {C = List B} (put_mid a k) h e
        ∙ sym (joins (take a l) (p ++ post_of a k l) (map-take f a l) (joins p (post_of a k l) refl (map-drop f k (drop a l) ∙ ap (drop k) (map-drop f a l))))
