-- A key put in or taken out of rising keys by its place: the number of keys below it.
use mathlib.Core.Path.{◌≡◌, refl, sym, ap, ap₂, ◌∙◌}
use mathlib.Core.Bool.{not}
use mathlib.Core.Logic.{inl, inr, ◌≢◌}
use mathlib.Core.List.{List, [], ◌∷◌, ◌++◌}
use mathlib.Core.List.Memᴰ.{cases_cons as mem-cases}
use mathlib.Core.List.Memᴰ.{head as here}
use mathlib.Core.List.Memᴰ.{not-nil as nowhere}
use mathlib.Core.List.Memᴰ.{tail as there}
use mathlib.Core.List.{Memᴰ as Mem}
use Prim.Native.Nat.{ℕ, ◌+◌, ◌-◌, ◌≤◌, ◌<◌}
use native.Mathlib.Decide.{dec_lt}
use native.Mathlib.Omega.{arith}
use lib.Dec.{T, ltb, lt→ltb}
use borrow.Author.Tests.{lt-ltb, le-ltb}
use lib.ListN.{length, drop, length-append}
use lib.Seq.{take-append_seam, drop-append_seam, drop-append-add}
use native.Mathlib.Numerals.{add-one}
use Rattle.lists.specs.Lists.{All, insert_at, without}
use Rattle.lists.proofs.Tests.{le→nltb}
use Rattle.lists.proofs.Filtered.{only-all, only_none}
use Rattle.slots.specs.Keys.{Rising, member, below, above, put, cut}
use Rattle.slots.proofs.Keys.{not-member}

-- none of the keys after x, which is no less than y, is below y, and all are above it
none_below : (y x : ℕ) (xs : List ℕ) → All (λ k. x < k) xs → y ≤ x → below y xs ≡ []
none_below y x xs h e = only_none (λ k. ltb k y) xs (λ k m. le→nltb y k (omega (arith, h k m)))

all_above : (y x : ℕ) (xs : List ℕ) → All (λ k. x < k) xs → y ≤ x → above y xs ≡ xs
all_above y x xs h e = only-all (λ k. ltb y k) xs (λ k m. lt→ltb y k (omega (arith, h k m)))

-- a key taken out that is not there, and one put in that is, change nothing
pub cut-new : (y : ℕ) (ks : List ℕ) → Rising ks → All (λ k. k ≢ y) ks → cut y ks ≡ ks
cut-new y [] h n = refl
cut-new y (x ∷ xs) h n =
    elim (dec_lt x y) [
      | yes p ↦ rw (lt-ltb x y p, le-ltb y x (omega arith)) (ap {B = List ℕ} (λ r. x ∷ r) (cut-new y xs h.1 (λ k m. n k (there m))))
      | no p ↦
          rw (le-ltb x y (omega arith), lt-ltb y x (omega (arith, n x (here refl))), none_below y x xs h.0 (omega arith), all_above y x xs h.0 (omega arith)) refl
    ]

pub put-old : (y : ℕ) (ks : List ℕ) → Rising ks → Mem y ks → put y ks ≡ ks
put-old y [] h m = absurd (nowhere m)
put-old y (x ∷ xs) h m =
    elim (mem-cases m) [
      | inl e ↦
          rw (le-ltb x y (omega arith), le-ltb y x (omega arith), none_below y x xs h.0 (omega arith), all_above y x xs h.0 (omega arith))
          (ap {B = List ℕ} (λ k. k ∷ xs) e)
      | inr n ↦ rw (lt-ltb x y (h.0 y n), le-ltb y x (omega (arith, h.0 y n))) (ap {B = List ℕ} (λ r. x ∷ r) (put-old y xs h.1 n))
    ]

insert_seam : (y : ℕ) (b a : List ℕ) → insert_at (length b) y (b ++ a) ≡ b ++ (y ∷ a)
unfolding insert_at
insert_seam y b a = ap₂ {C = List ℕ} (λ p q. p ++ (y ∷ q)) (take-append_seam b a) (drop-append_seam b a)

without-seam : (y : ℕ) (b a : List ℕ) → without (length b) (b ++ (y ∷ a)) ≡ b ++ a
unfolding without
without-seam y b a =
    ap₂ {C = List ℕ} ◌++◌ (take-append_seam b (y ∷ a)) (ap (λ (n : ℕ). drop n (b ++ (y ∷ a))) (sym (add-one (length b))) ∙ drop-append-add b (y ∷ a) 1)

module _ (y : ℕ) (ks : List ℕ) (h : Rising ks) where
  -- a new key is put in by its place
  pub put-at : T (not (member y ks)) → put y ks ≡ insert_at (length (below y ks)) y ks
  put-at n = sym (insert_seam y (below y ks) (above y ks)) ∙ ap (insert_at (length (below y ks)) y) (cut-new y ks h (not-member y ks n))

  -- and a key taken out by it
  pub cut_at : Mem y ks → cut y ks ≡ without (length (below y ks)) ks
  cut_at m = sym (without-seam y (below y ks) (above y ks)) ∙ ap (without (length (below y ks))) (put-old y ks h m)

  -- how many keys are above: of a new key, and of one of the keys
  pub above_new : T (not (member y ks)) → length (above y ks) ≡ length ks - length (below y ks)
  above_new n = omega (arith, simp length-append at (ap length (cut-new y ks h (not-member y ks n))))

  pub above-old : Mem y ks → length (above y ks) ≡ length ks - length (below y ks) - 1
  above-old m = omega (arith, simp length-append at (ap length (put-old y ks h m)))

  -- the place of one of the keys is among them
  pub place-old : Mem y ks → length (below y ks) < length ks
  place-old m = omega (arith, simp length-append at (ap length (put-old y ks h m)))

  -- the keys above stand from there on: of a new key, and after one of the keys
  pub drop-new : T (not (member y ks)) → drop (length (below y ks)) ks ≡ above y ks
  drop-new n = ap (drop (length (below y ks))) (sym (cut-new y ks h (not-member y ks n))) ∙ drop-append_seam (below y ks) (above y ks)

  pub drop-old : Mem y ks → drop (length (below y ks) + 1) ks ≡ above y ks
  drop-old m = ap (drop (length (below y ks) + 1)) (sym (put-old y ks h m)) ∙ drop-append-add (below y ks) (y ∷ above y ks) 1
