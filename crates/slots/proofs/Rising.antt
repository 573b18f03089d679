-- Rising lists of keys: their parts, what is below and above a key, and a key put in or taken out.
use mathlib.Core.Path.{◌≡◌, refl, sym, ap, ap₂, ◌∙◌}
use mathlib.Core.Bool.{Bool}
use mathlib.Core.Logic.{◌⊎◌, inl, inr, ◌≢◌}
use mathlib.Core.List.{List, [], ◌∷◌, ◌++◌, append_assoc, append-nil}
use mathlib.Core.List.Memᴰ.{cases_cons as mem-cases}
use mathlib.Core.List.Memᴰ.{head as here}
use mathlib.Core.List.Memᴰ.{not-nil as nowhere}
use mathlib.Core.List.Memᴰ.{tail as there}
use mathlib.Core.List.{Memᴰ as Mem}
use mathlib.Core.List.Memᴰ.{append_cases as in_either}
use mathlib.Core.List.Memᴰ.{append_left as in_left}
use mathlib.Core.List.Memᴰ.{append_right as in_right}
use Prim.Native.Nat.{ℕ, suc, ◌+◌, ◌<◌}
use native.Mathlib.Nat.{lt_trans, le_of_lt}
use native.Mathlib.Decide.{dec_lt}
use native.Mathlib.Omega.{arith}
use lib.Dec.{ltb, ltb→lt, lt→ltb}
use borrow.Author.Tests.{lt-ltb, le-ltb}
use lib.ListN.{length, length-append}
use Rattle.lists.specs.Lists.{All, only}
use Rattle.lists.proofs.Tests.{either, le→nltb}
use Rattle.lists.proofs.Filtered.{only-append, only-all, only_none, only-mem, mem-only}
use Rattle.slots.specs.Keys.{Rising, below, above, put, cut}

pub rising-left : (xs ys : List ℕ) → Rising (xs ++ ys) → Rising xs
rising-left [] ys h = tt
rising-left (x ∷ xs) ys h = (λ y m. h.0 y (in_left ys m), rising-left xs ys h.1)

pub rising-right : (xs ys : List ℕ) → Rising (xs ++ ys) → Rising ys
rising-right [] ys h = h
rising-right (x ∷ xs) ys h = rising-right xs ys h.1

pub rising-across : (xs ys : List ℕ) → Rising (xs ++ ys) → (x : ℕ) → Mem x xs → (y : ℕ) → Mem y ys → x < y
rising-across [] ys h x m y n = absurd (nowhere m)
rising-across (k ∷ xs) ys h x m y n =
    elim (mem-cases m) [
      | inl e ↦ rw e (h.0 y (in_right xs n))
      | inr m' ↦ rising-across xs ys h.1 x m' y n
    ]

pub rising-append : (xs ys : List ℕ) → Rising xs → Rising ys → ((x : ℕ) → Mem x xs → (y : ℕ) → Mem y ys → x < y) → Rising (xs ++ ys)
rising-append [] ys h k c = k
rising-append (x ∷ xs) ys h k c =
    (λ y m. elim (in_either xs m) [ inl a ↦ h.0 y a | inr b ↦ c x (here refl) y b ], rising-append xs ys h.1 k (λ z m. c z (there m)))

pub only-rising : (p : ℕ → Bool) (xs : List ℕ) → Rising xs → Rising (only p xs)
only-rising p [] h = tt
only-rising p (x ∷ xs) h = either Rising (p x) (λ y m. h.0 y (only-mem p xs y m).1, only-rising p xs h.1) (only-rising p xs h.1)

-- what is below and above
pub below-mem : (y : ℕ) (xs : List ℕ) (k : ℕ) → Mem k (below y xs) → (k < y) × Mem k xs
below-mem y xs k m = (ltb→lt _ _ (only-mem (λ k. ltb k y) xs k m).0, (only-mem (λ k. ltb k y) xs k m).1)

pub above-mem : (y : ℕ) (xs : List ℕ) (k : ℕ) → Mem k (above y xs) → (y < k) × Mem k xs
above-mem y xs k m = (ltb→lt _ _ (only-mem (λ k. ltb y k) xs k m).0, (only-mem (λ k. ltb y k) xs k m).1)

-- with y put in
pub put-rising : (y : ℕ) (xs : List ℕ) → Rising xs → Rising (put y xs)
put-rising y xs h =
    rising-append (below y xs) (y ∷ above y xs) (only-rising (λ k. ltb k y) xs h) (λ k m. (above-mem y xs k m).0, only-rising (λ k. ltb y k) xs h)
    (λ x m k n. elim (mem-cases n) [ inl e ↦ rw e (below-mem y xs x m).0 | inr n' ↦ lt_trans (below-mem y xs x m).0 (above-mem y xs k n').0 ])

-- three parts, the first below y and the last above it: the keys below y are the first part, and those of the middle one
module _ (y : ℕ) (A B C : List ℕ) (a : All (λ k. k < y) A) (c : All (λ k. y < k) C) where
  pub below_parts : below y (A ++ (B ++ C)) ≡ A ++ below y B
  below_parts =
      only-append (λ k. ltb k y) A (B ++ C)
      ∙ ap₂ {C = List ℕ} ◌++◌ (only-all (λ k. ltb k y) A (λ k m. lt→ltb k y (a k m)))
      (only-append (λ k. ltb k y) B C ∙ ap {B = List ℕ} (λ r. below y B ++ r) (only_none (λ k. ltb k y) C (λ k m. le→nltb y k (le_of_lt (c k m)))) ∙ append-nil (below y B))

  -- the keys above y are those of the middle part, and all of the last
  pub above-parts : above y (A ++ (B ++ C)) ≡ above y B ++ C
  above-parts =
      only-append (λ k. ltb y k) A (B ++ C)
      ∙ ap₂ {C = List ℕ} ◌++◌ (only_none (λ k. ltb y k) A (λ k m. le→nltb k y (le_of_lt (a k m))))
      (only-append (λ k. ltb y k) B C ∙ ap {B = List ℕ} (λ r. above y B ++ r) (only-all (λ k. ltb y k) C (λ k m. lt→ltb y k (c k m))))

  -- a key put in, or taken out, of the middle part only
  pub put-parts : put y (A ++ (B ++ C)) ≡ A ++ (put y B ++ C)
  put-parts = ap₂ {C = List ℕ} (λ p q. p ++ (y ∷ q)) below_parts above-parts ∙ append_assoc A (below y B) (y ∷ (above y B ++ C)) ∙ ap {B = List ℕ} (λ r. A ++ r) (sym (append_assoc (below y B) (y ∷ above y B) C))

  pub cut_parts : cut y (A ++ (B ++ C)) ≡ A ++ (cut y B ++ C)
  cut_parts = ap₂ {C = List ℕ} ◌++◌ below_parts above-parts ∙ append_assoc A (below y B) (above y B ++ C) ∙ ap {B = List ℕ} (λ r. A ++ r) (sym (append_assoc (below y B) (above y B) C))

-- how many keys
lengths : (y : ℕ) (xs : List ℕ) → All (λ k. k ≢ y) xs → length (below y xs) + length (above y xs) ≡ length xs
lengths y [] h = refl
lengths y (x ∷ xs) h =
    elim (dec_lt x y) [
      | yes p ↦ rw (lt-ltb x y p, le-ltb y x (omega arith)) (omega (arith, lengths y xs (λ k m. h k (there m))))
      | no p ↦ rw (le-ltb x y (omega arith), lt-ltb y x (omega (arith, h x (here refl)))) (omega (arith, lengths y xs (λ k m. h k (there m))))
    ]

pub length-put : (y : ℕ) (xs : List ℕ) → All (λ k. k ≢ y) xs → length (put y xs) ≡ suc (length xs)
length-put y xs h = length-append (below y xs) (y ∷ above y xs) ∙ omega (arith, lengths y xs h)

pub length_cut : (y : ℕ) (xs : List ℕ) → Rising xs → Mem y xs → suc (length (cut y xs)) ≡ length xs
length_cut y [] h m = absurd (nowhere m)
length_cut y (x ∷ xs) h m =
    elim (mem-cases m) [
      | inl e ↦
          rw (
            le-ltb x y (omega arith),
            le-ltb y x (omega arith),
            only_none (λ k. ltb k y) xs (λ k n. le→nltb y k (omega (arith, h.0 k n))),
            only-all (λ k. ltb y k) xs (λ k n. lt→ltb y k (omega (arith, h.0 k n))),
          ) refl
      | inr n ↦ rw (lt-ltb x y (h.0 y n), le-ltb y x (omega (arith, h.0 y n))) (ap suc (length_cut y xs h.1 n))
    ]

-- what is taken out leaves a rising list
pub cut-rising : (y : ℕ) (xs : List ℕ) → Rising xs → Rising (cut y xs)
cut-rising y xs h =
    rising-append (below y xs) (above y xs) (only-rising (λ k. ltb k y) xs h) (only-rising (λ k. ltb y k) xs h)
    (λ k m j n. lt_trans (below-mem y xs k m).0 (above-mem y xs j n).0)

pub cut-mem : (y : ℕ) (xs : List ℕ) (k : ℕ) → Mem k (cut y xs) → Mem k xs
cut-mem y xs k m = elim (in_either (below y xs) m) [ inl n ↦ (below-mem y xs k n).1 | inr n ↦ (above-mem y xs k n).1 ]

pub put-mem : (y : ℕ) (xs : List ℕ) (k : ℕ) → Mem k (put y xs) → (k ≡ y) ⊎ Mem k xs
put-mem y xs k m =
    elim (in_either (below y xs) m) [
      | inl n ↦ inr (below-mem y xs k n).1
      | inr n ↦ elim (mem-cases n) [ inl e ↦ inl e | inr o ↦ inr (above-mem y xs k o).1 ]
    ]

pub mem-put : (y : ℕ) (xs : List ℕ) (k : ℕ) → Mem k xs → Mem k (put y xs)
mem-put y xs k m =
    elim (dec_lt k y) [
      | yes p ↦ in_left (y ∷ above y xs) (mem-only (λ k. ltb k y) xs k m (lt→ltb k y p))
      | no p ↦
          elim (dec_lt y k) [
            | yes q ↦ in_right (below y xs) (there (mem-only (λ k. ltb y k) xs k m (lt→ltb y k q)))
            | no q ↦ in_right (below y xs) (here (omega arith))
          ]
    ]

pub mem-cut : (y : ℕ) (xs : List ℕ) (k : ℕ) → Mem k xs → k ≢ y → Mem k (cut y xs)
mem-cut y xs k m n =
    elim (dec_lt k y) [
      | yes p ↦ in_left (above y xs) (mem-only (λ k. ltb k y) xs k m (lt→ltb k y p))
      | no p ↦ in_right (below y xs) (mem-only (λ k. ltb y k) xs k m (lt→ltb y k (omega arith)))
    ]
