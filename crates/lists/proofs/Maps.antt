-- Parts, changes, splices and searches of a mapped list.
use mathlib.Core.Path.{◌≡◌, refl, ap, ap₂, ◌∙◌}
use mathlib.Core.Bool.{Bool}
use mathlib.Core.List.{List, [], ◌∷◌, ◌++◌, map, map-append}
use Prim.Native.Nat.{ℕ, zero, suc, ◌+◌, ◌≤◌}
use native.Mathlib.Omega.{arith}
use lib.ListN.{length, take, drop, set, length-append, length-drop}
use lib.Seq.{length-take-le}
use Rattle.std.proofs.Common.{if◌then◌else◌}
use Rattle.lists.specs.Lists.{splice}
use Rattle.lists.specs.Search.{place_by}

module _ {ℓ κ} {A : Type ℓ} {B : Type κ} where
  pub map-take : (f : A → B) (n : ℕ) (xs : List A) → map f (take n xs) ≡ take n (map f xs)
  map-take f zero xs = refl
  map-take f (suc n) [] = refl
  map-take f (suc n) (x ∷ xs) = ap {B = List B} (λ r. f x ∷ r) (map-take f n xs)

  pub map-drop : (f : A → B) (n : ℕ) (xs : List A) → map f (drop n xs) ≡ drop n (map f xs)
  map-drop f zero xs = refl
  map-drop f (suc n) [] = refl
  map-drop f (suc n) (x ∷ xs) = map-drop f n xs

  pub map-set : (f : A → B) (xs : List A) (s : ℕ) (x : A) → map f (set xs s x) ≡ set (map f xs) s (f x)
  map-set f [] s x = refl
  map-set f (y ∷ xs) zero x = refl
  map-set f (y ∷ xs) (suc s) x = ap {B = List B} (λ r. f y ∷ r) (map-set f xs s x)

  pub map-splice : (f : A → B) (i n : ℕ) (new xs : List A) → map f (splice i n new xs) ≡ splice i n (map f new) (map f xs)
  map-splice f i n new xs =
      map-append f (take i xs) (new ++ drop (i + n) xs)
      ∙ ap₂ {C = List B} ◌++◌ (map-take f i xs) (map-append f new (drop (i + n) xs) ∙ ap {B = List B} (λ r. map f new ++ r) (map-drop f (i + n) xs))

-- the place of the first that passes
pub place_map : {A B : Type 0} (p : B → Bool) (f : A → B) (xs : List A) → place_by p (map f xs) ≡ place_by (λ x. p (f x)) xs
place_map p f [] = refl
place_map p f (x ∷ xs) = ap (λ (n : ℕ). if p (f x) then 0 else suc n) (place_map p f xs)

pub length-splice {ℓ} : {A : Type ℓ} (i n : ℕ) (new xs : List A) → length new ≡ n → i + n ≤ length xs → length (splice i n new xs) ≡ length xs
length-splice i n new xs e h =
    length-append (take i xs) (new ++ drop (i + n) xs)
    ∙ omega (arith, length-take-le i xs (omega arith), length-append new (drop (i + n) xs), length-drop (i + n) xs)
