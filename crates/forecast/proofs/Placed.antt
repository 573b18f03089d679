-- Where the first element that passes a test stands, as the library has it and as `place_by` does; and the place of a cell.
use Prim.Native.Nat.{ℕ, zero, suc, ◌+◌, ◌≤◌, ◌<◌}
use mathlib.Core.Path.{◌≡◌, refl, sym, ap, ap₂, ◌∙◌}
use mathlib.Core.Bool.{Bool, true, false, not}
use mathlib.Core.List.{List, [], ◌∷◌, map}
use native.Mathlib.Omega.{arith}
use lib.Dec.{T, eqb, ltb, ltb→lt, nltb→le}
use lib.ListN.{length, take, length-map, length-take}
use lib.Seq.{length-take-le}
use borrow.Author.Tests.{lt-ltb, le-ltb}
use Rattle.std.specs.Prelude.{cond, Option, Some, None, position, if◌then◌else◌}
use Rattle.std.specs.List.{position_or_len}
use Rattle.std.proofs.lemmas.List.Recursion.{is_position_or_len}
use Rattle.lists.specs.Search.{place_by}
use Rattle.lists.proofs.Maps.{place_map}
use Rattle.cells.specs.Cells.{marks, cell_at}
use Rattle.forecast.specs.declared.Forecast.{Forecast}
use Rattle.forecast.specs.Cells.{used_cells}
use Rattle.forecast.specs.Tidy.{Tidy}
use Rattle.forecast.proofs.Stepping.{cells-used, markers-used}

module _ {A : Type 0} (p : A → Bool) where
  place-is : (xs : List A) → place_by p xs ≡ position_or_len p xs
  place-is = is_position_or_len (place_by p) p refl (λ x xs. step (p x) (place_by p xs))
    where
      step : (b : Bool) (n : ℕ) → (if b then 0 else suc n) ≡ cond b 0 (1 + n)
      step true n = refl
      step false n = omega arith

  -- one passes: it is the first that does
  pub some-at : (xs : List A) (i : ℕ) → position p xs ≡ Some i → (i ≡ place_by p xs) × (i < length xs)
  some-at xs i e = go (ltb (position_or_len p xs) (length xs)) (ltb→lt _ _) e
    where
      go : (b : Bool) → (T b → position_or_len p xs < length xs) → cond b (Some (position_or_len p xs)) None ≡ Some i → (i ≡ place_by p xs) × (i < length xs)
      go true h q = let r : i ≡ position_or_len p xs = cc in (r ∙ sym (place-is xs), omega (arith, h tt))
      go false h q = absurd cc

  -- none does
  pub none-at : (xs : List A) → position p xs ≡ None → length xs ≤ place_by p xs
  none-at xs e = go (ltb (position_or_len p xs) (length xs)) (nltb→le _ _) e
    where
      go : (b : Bool) → (T (not b) → length xs ≤ position_or_len p xs) → cond b (Some (position_or_len p xs)) None ≡ None → length xs ≤ place_by p xs
      go true h q = absurd cc
      go false h q = omega (arith, h tt, place-is xs)

  -- it is one of the first n, or none of them is
  near : (n : ℕ) (xs : List A) → place_by p xs < n → place_by p xs ≡ place_by p (take n xs)
  near zero xs h = absurd (omega arith)
  near (suc n) [] h = refl
  near (suc n) (x ∷ xs) h = go (p x) h (near n xs)
    where
      go : (b : Bool) → (if b then 0 else suc (place_by p xs)) < suc n → (place_by p xs < n → place_by p xs ≡ place_by p (take n xs))
          → (if b then 0 else suc (place_by p xs)) ≡ (if b then 0 else suc (place_by p (take n xs)))
      go true h ih = refl
      go false h ih = ap suc (ih (omega arith))

  far : (n : ℕ) (xs : List A) → n ≤ place_by p xs → n ≡ place_by p (take n xs)
  far zero xs h = refl
  far (suc n) [] h = absurd (omega arith)
  far (suc n) (x ∷ xs) h = go (p x) h (far n xs)
    where
      go : (b : Bool) → suc n ≤ (if b then 0 else suc (place_by p xs)) → (n ≤ place_by p xs → n ≡ place_by p (take n xs))
          → suc n ≡ (if b then 0 else suc (place_by p (take n xs)))
      go true h ih = absurd (omega arith)
      go false h ih = ap suc (ih (omega arith))

  pub near-some : (n i : ℕ) (xs : List A) → position p xs ≡ Some i → i < n → n ≤ length xs → Some i ≡ position p (take n xs)
  near-some n i xs e h l =
      let f = some-at xs i e in
      let q : i ≡ position_or_len p (take n xs) = f.0 ∙ near n xs (omega (arith, f.0)) ∙ place-is (take n xs) in
      ap (λ (k : ℕ). Some k) q ∙ sym (rw (lt-ltb (position_or_len p (take n xs)) (length (take n xs)) (omega (arith, length-take-le n xs l))) refl)

  far-none : (n : ℕ) (xs : List A) → n ≤ place_by p xs → None ≡ position p (take n xs)
  far-none n xs h =
      let q : n ≡ position_or_len p (take n xs) = far n xs h ∙ place-is (take n xs) in
      sym (rw (le-ltb (position_or_len p (take n xs)) (length (take n xs)) (omega (arith, length-take n xs))) refl)

  pub far-some : (n i : ℕ) (xs : List A) → position p xs ≡ Some i → n ≤ i → None ≡ position p (take n xs)
  far-some n i xs e h = far-none n xs (omega (arith, (some-at xs i e).0))

  pub none-none : (n : ℕ) (xs : List A) → position p xs ≡ None → n ≤ length xs → None ≡ position p (take n xs)
  none-none n xs e l = far-none n xs (omega (arith, none-at xs e))

-- of a list's images
pub position_map : {A B : Type 0} (p : B → Bool) (f : A → B) (xs : List A) → position p (map f xs) ≡ position (λ x. p (f x)) xs
position_map p f xs =
    ap₂ {C = Option ℕ} (λ (n l : ℕ). cond (ltb n l) (Some n) None) (sym (place-is p (map f xs)) ∙ place_map p f xs ∙ place-is (λ x. p (f x)) xs) (length-map xs f)

-- THE PLACE OF A CELL, by a search of the used markers
module _ (F : Forecast) (t : Tidy F) (x : ℕ) (r : Option ℕ) (e : r ≡ position (λ m. eqb m x) (take F.used F.markers)) where
  of_cells : r ≡ position (marks x) (used_cells F)
  of_cells = e ∙ ap (position (λ m. eqb m x)) (markers-used F t) ∙ position_map (λ m. eqb m x) (λ c. c.marker) (used_cells F)

  -- it has one
  pub cell-found : (i : ℕ) → r ≡ Some i → (i ≡ cell_at x (used_cells F)) × (i < F.used)
  cell-found i h = let f = some-at (marks x) (used_cells F) i (sym of_cells ∙ h) in (f.0, omega (arith, f.1, cells-used F t))

  -- it has none
  pub cell-missing : r ≡ None → F.used ≤ cell_at x (used_cells F)
  cell-missing h = omega (arith, none-at (marks x) (used_cells F) (sym of_cells ∙ h), cells-used F t)
