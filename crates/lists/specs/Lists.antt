-- Functions on lists that no library has, over any element type.
use Rattle.std.specs.Prelude.{ℕ, zero, suc, ◌+◌, ◌-◌, Bool, false, ◌||◌, length, take, drop, replicate, cond}
use mathlib.Core.List.{List, [], ◌∷◌, ◌++◌, Memᴰ}

abbrev pub total : List ℕ → ℕ
total [] = 0
total (n ∷ ns) = n + total ns

module _ {ℓ} {A : Type ℓ} where
  -- the lists one after the other
  abbrev pub joined : List (List A) → List A
  joined [] = []
  joined (xs ∷ xss) = xs ++ joined xss

  -- the elements that pass a test, in order
  abbrev pub only : (A → Bool) → List A → List A
  only p [] = []
  only p (x ∷ xs) = let rest = only p xs in cond (p x) (x ∷ rest) rest

  -- some element passes a test
  abbrev pub any_of : (A → Bool) → List A → Bool
  any_of p [] = false
  any_of p (x ∷ xs) = p x || any_of p xs

  -- xs with the n elements from place i on replaced
  abbrev pub splice : ℕ → ℕ → List A → List A → List A
  splice i n new xs = take i xs ++ (new ++ drop (i + n) xs)

  -- with x put in front of the element at place i
  unfoldable pub insert_at : ℕ → A → List A → List A
  insert_at i x xs = take i xs ++ (x ∷ drop i xs)

  -- without the element at place i; the list itself past its end
  unfoldable pub without : ℕ → List A → List A
  without i xs = take i xs ++ drop (suc i) xs

  -- filled up to n elements with z
  unfoldable pub padded : ℕ → A → List A → List A
  padded n z xs = xs ++ replicate (n - length xs) z

  -- the first n parts of k elements each
  abbrev pub parts : ℕ → ℕ → List A → List (List A)
  parts k zero xs = []
  parts k (suc n) xs = take k xs ∷ parts k n (drop k xs)

  -- the elements dealt out, in order, by these counts
  abbrev pub deal : List ℕ → List A → List (List A)
  deal [] xs = []
  deal (n ∷ ns) xs = take n xs ∷ deal ns (drop n xs)

  -- every element has P
  abbrev pub All {κ} : (A → Type κ) → List A → Type (ℓ ⊔ κ)
  All P xs = (x : A) → Memᴰ x xs → P x
