-- The rules' words for keys (member, put, cut, above) agree with the plain set's (has, add, remove, beyond).
use mathlib.Core.Path.{◌≡◌, refl, sym, ap, ◌∙◌}
use mathlib.Core.Bool.{Bool, true, false, not, ◌||◌}
use mathlib.Core.Logic.{inl, inr, ◌≢◌}
use mathlib.Core.List.{List, [], ◌∷◌, ◌++◌}
use mathlib.Core.List.Memᴰ.{cases_cons as mem-cases}
use mathlib.Core.List.Memᴰ.{head as here}
use mathlib.Core.List.Memᴰ.{not-nil as nowhere}
use mathlib.Core.List.{Memᴰ as Mem}
use Prim.Native.Nat.{ℕ, ◌<◌}
use native.Mathlib.Nat.{le_of_lt, lt_trans}
use native.Mathlib.Decide.{dec_lt}
use native.Mathlib.Omega.{arith}
use lib.Dec.{T, ltb, eqb, lt→ltb}
use borrow.Author.Tests.{lt-ltb, le-ltb, eq-eqb, ne_eqb}
use Rattle.std.proofs.Common.{if◌then◌else◌}
use Rattle.lists.specs.Lists.{All}
use Rattle.lists.proofs.Tests.{neither, le→nltb}
use Rattle.lists.proofs.Filtered.{only-all, only_none}
use Rattle.slots.specs.Keys.{Rising, member, below, above, put, cut}
use Rattle.slots.proofs.Keys.{not-member}
use Rattle.demands.specs.PlainSet as set

-- a key is a member, by the one word and by the other, in any list
pub has-member : (y : ℕ) (ks : List ℕ) → set.has y ks ≡ member y ks
has-member y [] = refl
has-member y (k ∷ ks) = go (eqb y k) (has-member y ks)
  where
    go : (b : Bool) → set.has y ks ≡ member y ks → (if b then true else set.has y ks) ≡ (b || member y ks)
    go true e = refl
    go false e = e

-- the keys above a, in any list
pub above-beyond : (a : ℕ) (ks : List ℕ) → above a ks ≡ set.beyond a ks
above-beyond a [] = refl
above-beyond a (k ∷ ks) = ap {B = List ℕ} (λ r. if ltb a k then k ∷ r else r) (above-beyond a ks)

-- where every key is above y, none is below it and all are above it
module _ (y : ℕ) (ks : List ℕ) (h : All (λ k. y < k) ks) where
  below_none : below y ks ≡ []
  below_none = only_none (λ k. ltb k y) ks (λ k m. le→nltb y k (le_of_lt (h k m)))

  above-all : above y ks ≡ ks
  above-all = only-all (λ k. ltb y k) ks (λ k m. lt→ltb y k (h k m))

-- a key that is not there, put in its place
pub put-add : (y : ℕ) (ks : List ℕ) → Rising ks → T (not (member y ks)) → put y ks ≡ set.add y ks
put-add y [] h t = refl
put-add y (k ∷ ks) h t =
    let n : k ≢ y = not-member y (k ∷ ks) t k (here refl) in
    elim (dec_lt y k) [
      | yes p ↦
          let b : All (λ j. y < j) ks = λ j m. lt_trans p (h.0 j m) in
          rw (lt-ltb y k p, le-ltb k y (le_of_lt p), below_none y ks b, above-all y ks b) refl
      | no p ↦
          let q : k < y = omega arith in
          rw (le-ltb y k (le_of_lt q), ne_eqb y k (omega arith), lt-ltb k y q) (ap {B = List ℕ} (λ r. k ∷ r) (put-add y ks h.1 (neither (eqb y k) (member y ks) t).1))
    ]

-- a key that is there, added again
pub add_same : (y : ℕ) (ks : List ℕ) → Rising ks → Mem y ks → set.add y ks ≡ ks
add_same y [] h m = absurd (nowhere m)
add_same y (k ∷ ks) h m =
    elim (mem-cases m) [
      | inl e ↦ rw (le-ltb y k (omega arith), eq-eqb y k e) refl
      | inr n ↦ let q : k < y = h.0 y n in rw (le-ltb y k (le_of_lt q), ne_eqb y k (omega arith)) (ap {B = List ℕ} (λ r. k ∷ r) (add_same y ks h.1 n))
    ]

-- a key taken out, there or not
pub cut-remove : (y : ℕ) (ks : List ℕ) → Rising ks → cut y ks ≡ set.remove y ks
cut-remove y [] h = refl
cut-remove y (k ∷ ks) h =
    elim (dec_lt y k) [
      | yes p ↦
          let b : All (λ j. y < j) ks = λ j m. lt_trans p (h.0 j m) in
          let e : above y ks ≡ set.remove y ks = ap {B = List ℕ} (λ r. r ++ above y ks) (sym (below_none y ks b)) ∙ cut-remove y ks h.1 in
          rw (lt-ltb y k p, le-ltb k y (le_of_lt p), ne_eqb y k (omega arith), below_none y ks b) (ap {B = List ℕ} (λ r. k ∷ r) e)
      | no p ↦
          elim (dec_lt k y) [
            | yes q ↦ rw (le-ltb y k (le_of_lt q), lt-ltb k y q, ne_eqb y k (omega arith)) (ap {B = List ℕ} (λ r. k ∷ r) (cut-remove y ks h.1))
            | no q ↦
                let b : All (λ j. y < j) ks = λ j m. omega (arith, h.0 j m) in
                rw (le-ltb y k (omega arith), le-ltb k y (omega arith), eq-eqb y k (omega arith), below_none y ks b, above-all y ks b) refl
          ]
    ]
