-- A list overwritten from the front by another, and the list that closes up over a lost element.
use Prim.Native.Nat.{ℕ, suc, ◌+◌, ◌-◌, ◌≤◌, ◌<◌}
use mathlib.Core.Path.{◌≡◌, ap, sym, ◌∙◌}
use mathlib.Core.List.{List, ◌++◌}
use native.Mathlib.Omega.{arith}
use native.Mathlib.Numerals.{add-one}
use lib.ListN.{length, take, drop, get_or, set, take-append-drop}
use lib.Seq.{drop-cons, take-suc, set_at, append_snoc, get_or-append-add, get_or-drop, take_at, length-take-le}
use Rattle.lists.specs.Lists.{without}

module _ {A : Type 0} where
  -- ys overwritten by ws as far as i
  abbrev pub written : List A → List A → ℕ → List A
  written ws ys i = take i ws ++ drop i ys

  -- nothing to do where the two begin alike
  pub written_from : (ws ys : List A) (i : ℕ) → take i ws ≡ take i ys → ys ≡ written ws ys i
  written_from ws ys i e = rw e (sym (take-append-drop i ys))

  -- one element further
  pub written-more : (ws ys : List A) (i : ℕ) (d : A) → i < length ws → i < length ys → set (written ws ys i) i (get_or ws i d) ≡ written ws ys (i + 1)
  written-more ws ys i d lw ly =
      rw (drop-cons ys i d ly, set_at (take i ws) (get_or ys i d) (drop (suc i) ys) (get_or ws i d) i (length-take-le i ws (omega arith)), add-one, take-suc ws i d lw)
      (sym (append_snoc (take i ws) (get_or ws i d) (drop (suc i) ys)))

  -- what is ahead is still the old list's
  pub written-ahead : (ws ys : List A) (i j : ℕ) (d : A) → i ≤ j → i ≤ length ws → get_or (written ws ys i) j d ≡ get_or ys j d
  written-ahead ws ys i j d lj lw =
      let e : length (take i ws) + (j - i) ≡ j = rw (length-take-le i ws lw) (omega arith) in
      let e' : i + (j - i) ≡ j = omega arith in
      ap (λ (k : ℕ). get_or (written ws ys i) k d) (sym e) ∙ get_or-append-add (take i ws) (drop i ys) (j - i) d ∙ get_or-drop i ys (j - i) d ∙ ap (λ (k : ℕ). get_or ys k d) e'

  -- done where the two end alike
  pub written-done : (ws ys : List A) (i : ℕ) → drop i ws ≡ drop i ys → written ws ys i ≡ ws
  written-done ws ys i e = rw (← e) (take-append-drop i ws)

  -- before the lost element nothing changes
  pub take-without : (at : ℕ) (xs : List A) → at ≤ length xs → take at (without at xs) ≡ take at xs
  unfolding without
  take-without at xs h = take_at (take at xs) (drop (suc at) xs) at (length-take-le at xs h)

  -- from there on each element comes one place forward
  pub get_or-without : (at : ℕ) (xs : List A) (i : ℕ) (d : A) → at ≤ i → at ≤ length xs → get_or (without at xs) i d ≡ get_or xs (i + 1) d
  unfolding without
  get_or-without at xs i d h l =
      let e : length (take at xs) + (i - at) ≡ i = rw (length-take-le at xs l) (omega arith) in
      let e' : suc at + (i - at) ≡ i + 1 = omega arith in
      ap (λ (k : ℕ). get_or (without at xs) k d) (sym e) ∙ get_or-append-add (take at xs) (drop (suc at) xs) (i - at) d ∙ get_or-drop (suc at) xs (i - at) d
      ∙ ap (λ (k : ℕ). get_or xs k d) e'
