-- A list searched from the front with nothing found so far.
use Prim.Native.Nat.{ℕ, ◌+◌, ◌≤◌, ◌<◌}
use mathlib.Core.Path.{◌≡◌}
use mathlib.Core.List.{List}
use mathlib.Core.Bool.{Bool, true, false}
use native.Mathlib.Omega.{arith}
use native.Mathlib.Numerals.{add-one}
use lib.ListN.{length, drop, get_or, drop_of_length-le}
use lib.Seq.{drop-cons}
use Rattle.lists.specs.Search.{place_by}

module _ {A : Type 0} (p : A → Bool) (xs : List A) where
  -- none of the first i elements passes
  abbrev pub Passed : ℕ → Type 0
  Passed i = place_by p xs ≡ i + place_by p (drop i xs)

  -- the next one passes
  pub passed-hit : (i : ℕ) (d : A) → i < length xs → Passed i → p (get_or xs i d) ≡ true → place_by p xs ≡ i
  passed-hit i d l h e = rw (h, drop-cons xs i d l, e) (omega arith)

  -- the next one does not either
  pub passed-more : (i : ℕ) (d : A) → i < length xs → Passed i → p (get_or xs i d) ≡ false → Passed (i + 1)
  passed-more i d l h e = rw (h, drop-cons xs i d l, e, add-one) (omega arith)

  -- there is no next one
  pub passed-all : (i : ℕ) → length xs ≤ i → Passed i → place_by p xs ≡ i
  passed-all i l h = rw (h, drop_of_length-le xs l) (omega arith)
