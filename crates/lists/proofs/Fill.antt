-- Lists filled up to a length, and lists without one element.
use mathlib.Core.Path.{◌≡◌, refl, sym, ap, ◌∙◌}
use mathlib.Core.Logic.{inl, inr}
use mathlib.Core.List.Memᴰ.{append_cases as in_either}
use mathlib.Core.List.{List, [], ◌∷◌, ◌++◌, append-nil, Memᴰ as Mem}
use Prim.Native.Nat.{ℕ, zero, suc, ◌+◌, ◌-◌, ◌≤◌, ◌<◌}
use native.Mathlib.Omega.{arith}
use lib.ListN.{length, take, drop, get_or, set, replicate, length-append, length-replicate, length-take, length-drop, length-set, drop_of_length-le}
use lib.Seq.{take-append-le, take-append_seam, drop-append-add, set-append_left, take_all}
use Rattle.lists.specs.Lists.{padded, without}
use Rattle.lists.proofs.Members.{mem-take, mem-drop}

module _ {A : Type 0} where
  get_or-rep : (z : A) (k i : ℕ) → get_or (replicate k z) i z ≡ z
  get_or-rep z zero i = refl
  get_or-rep z (suc k) zero = refl
  get_or-rep z (suc k) (suc i) = get_or-rep z k i

  drop_rep : (z : A) (k i : ℕ) → drop i (replicate k z) ≡ replicate (k - i) z
  drop_rep z k zero = let e : k ≡ k - 0 = omega arith in ap (λ (n : ℕ). replicate n z) e
  drop_rep z zero (suc i) = let e : 0 ≡ 0 - suc i = omega arith in ap (λ (n : ℕ). replicate n z) e
  drop_rep z (suc k) (suc i) = let e : k - i ≡ suc k - suc i = omega arith in drop_rep z k i ∙ ap (λ (n : ℕ). replicate n z) e

  get_or-fill : (z : A) (xs : List A) (k i : ℕ) → get_or (xs ++ replicate k z) i z ≡ get_or xs i z
  get_or-fill z [] k i = get_or-rep z k i
  get_or-fill z (x ∷ xs) k zero = refl
  get_or-fill z (x ∷ xs) k (suc i) = get_or-fill z xs k i

  module _ (n : ℕ) (z : A) where
    pub length-padded : (xs : List A) → length xs ≤ n → length (padded n z xs) ≡ n
    unfolding padded
    length-padded xs h = simp (length-append, length-replicate) (omega arith)

    pub get_or-padded : (xs : List A) (i : ℕ) → get_or (padded n z xs) i z ≡ get_or xs i z
    unfolding padded
    get_or-padded xs i = get_or-fill z xs (n - length xs) i

    pub take-padded : (xs : List A) (i : ℕ) → i ≤ length xs → take i (padded n z xs) ≡ take i xs
    unfolding padded
    take-padded xs i h = take-append-le i xs _ h

    pub take-padded-all : (xs : List A) → take (length xs) (padded n z xs) ≡ xs
    unfolding padded
    take-padded-all xs = take-append_seam xs _

    pub drop-padded : (xs : List A) (i : ℕ) → length xs ≤ i → drop i (padded n z xs) ≡ replicate (n - i) z
    unfolding padded
    drop-padded xs i h =
        let e : length xs + (i - length xs) ≡ i = omega arith in
        let e' : (n - length xs) - (i - length xs) ≡ n - i = omega arith in
        ap (λ (k : ℕ). drop k (padded n z xs)) (sym e) ∙ drop-append-add xs _ (i - length xs) ∙ drop_rep z (n - length xs) (i - length xs)
        ∙ ap (λ (k : ℕ). replicate k z) e'

    pub set-padded : (xs : List A) (i : ℕ) (a : A) → i < length xs → set (padded n z xs) i a ≡ padded n z (set xs i a)
    unfolding padded
    set-padded xs i a h = rw length-set (set-append_left xs _ i a h)

  pub length_without : (at : ℕ) (xs : List A) → at < length xs → length (without at xs) + 1 ≡ length xs
  unfolding without
  length_without at xs h = simp (length-append, length-take, length-drop) (omega arith)

  pub without-past : (at : ℕ) (xs : List A) → length xs ≤ at → without at xs ≡ xs
  unfolding without
  without-past at xs h = let k : length xs ≤ suc at = omega arith in rw (take_all at xs h, drop_of_length-le xs k) (append-nil xs)

  pub mem-without : (at : ℕ) (xs : List A) (x : A) → Mem x (without at xs) → Mem x xs
  unfolding without
  mem-without at xs x m = elim (in_either (take at xs) m) [ inl n ↦ mem-take at xs x n | inr n ↦ mem-drop (suc at) xs x n ]
