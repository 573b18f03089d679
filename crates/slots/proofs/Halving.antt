-- What halving learns from one slot: of a segment's keys and gaps, and of a rising list's keys below a key.
use mathlib.Core.Path.{◌≡◌, refl, sym, ap, ◌∙◌}
use mathlib.Core.Bool.{false}
use mathlib.Core.Logic.{◌≢◌}
use mathlib.Core.List.Memᴰ
use mathlib.Core.List.{List, [], ◌∷◌, Memᴰ as Mem}
use Prim.Native.Nat.{ℕ, zero, suc, ◌≤◌, ◌<◌}
use native.Mathlib.Decide.{dec_lt}
use native.Mathlib.Omega.{arith}
use lib.Dec.{ltb, eqb, eqb→eq}
use borrow.Author.Tests.{lt-ltb, le-ltb}
use lib.ListN.{length, get_or, get_or-eq_default}
use Rattle.lists.specs.Lists.{All, padded}
use Rattle.lists.proofs.Tests.{same_test, le→nltb, eq→eqb}
use Rattle.lists.proofs.Members.{mem-at, at_mem}
use Rattle.lists.proofs.Filtered.{only_none}
use Rattle.lists.proofs.Fill.{get_or-padded}
use Rattle.slots.specs.Keys.{Rising, member, below}
use Rattle.slots.proofs.Padded.{past-keys}
use Rattle.slots.proofs.Keys.{member→mem, mem→member}

-- A SEGMENT
-- the slots of the keys hold keys, and those after them gaps
module _ (slots ks : List ℕ) (n : ℕ) (live : All (λ k. 0 < k) ks) (whole : slots ≡ padded n 0 ks) where
  same-slot : (i : ℕ) → get_or slots i 0 ≡ get_or ks i 0
  same-slot i = ap (λ (l : List ℕ). get_or l i 0) whole ∙ get_or-padded n 0 ks i

  pub key-at : (i : ℕ) → i < length ks → get_or slots i 0 ≢ 0
  key-at i h e = absurd (omega (arith, past-keys ks i live (sym (same-slot i) ∙ e)))

  pub gap-from : (i : ℕ) → length ks ≤ i → get_or slots i 0 ≡ 0
  gap-from i h = same-slot i ∙ get_or-eq_default ks 0 h

-- A RISING LIST
-- later keys are larger
pub rising-at : (xs : List ℕ) → Rising xs → (i j : ℕ) → i < j → j < length xs → get_or xs i 0 < get_or xs j 0
rising-at [] r i j l h = absurd (omega arith)
rising-at (x ∷ xs) r zero zero l h = absurd (omega arith)
rising-at (x ∷ xs) r zero (suc j) l h = r.0 (get_or xs j 0) (at_mem xs j 0 (omega arith))
rising-at (x ∷ xs) r (suc i) zero l h = absurd (omega arith)
rising-at (x ∷ xs) r (suc i) (suc j) l h = rising-at xs r.1 i j (omega arith) (omega arith)

-- the keys below y stand first: those at a place below their number, and no others
pub place-below : (y : ℕ) (xs : List ℕ) → Rising xs → (i : ℕ) → i < length (below y xs) → get_or xs i 0 < y
place-below y [] r i h = absurd (omega arith)
place-below y (x ∷ xs) r i h =
    elim (dec_lt x y) [
      | yes p ↦ first p i (rw (lt-ltb x y p) at h) (place-below y xs r.1)
      | no p ↦ absurd (none (omega arith))
    ]
  where
    first : x < y → (i : ℕ) → i < suc (length (below y xs)) → ((i : ℕ) → i < length (below y xs) → get_or xs i 0 < y) → get_or (x ∷ xs) i 0 < y
    first p zero h rec = p
    first p (suc i) h rec = rec i (omega arith)

    none : y ≤ x → ⊥
    none p =
        let e : length (below y (x ∷ xs)) ≡ 0 = rw (le-ltb x y p, only_none (λ k. ltb k y) xs (λ k m. le→nltb y k (omega (arith, r.0 k m)))) refl in
        omega arith

pub past-below : (y : ℕ) (xs : List ℕ) → Rising xs → (i : ℕ) → y ≤ get_or xs i 0 → length (below y xs) ≤ i
past-below y xs r i h = elim (dec_lt i (length (below y xs))) [ yes l ↦ absurd (omega (arith, place-below y xs r i l)) | no l ↦ omega arith ]

pub below-place : (y : ℕ) (xs : List ℕ) → Rising xs → (i : ℕ) → i < length xs → get_or xs i 0 < y → i < length (below y xs)
below-place y [] r i h l = absurd (omega arith)
below-place y (x ∷ xs) r zero h l = rw (lt-ltb x y l) (omega arith)
below-place y (x ∷ xs) r (suc i) h l =
    let k : i < length xs = omega arith in
    let p : x < y = omega (arith, r.0 (get_or xs i 0) (at_mem xs i 0 k)) in
    rw (lt-ltb x y p) (omega (arith, below-place y xs r.1 i k l))

pub past-place : (y : ℕ) (xs : List ℕ) → Rising xs → (i : ℕ) → length (below y xs) ≤ i → i < length xs → y ≤ get_or xs i 0
past-place y xs r i h l = elim (dec_lt (get_or xs i 0) y) [ yes m ↦ absurd (omega (arith, below-place y xs r i l m)) | no m ↦ omega arith ]

-- a key of the list has as many below it as stand before it
pub place_of : (y : ℕ) (xs : List ℕ) → Rising xs → Mem y xs → (length (below y xs) < length xs) × (get_or xs (length (below y xs)) 0 ≡ y)
place_of y xs r m = go (mem-at y xs 0 m)
  where
    go : (t : ℕ) × (t < length xs) × (get_or xs t 0 ≡ y) → (length (below y xs) < length xs) × (get_or xs (length (below y xs)) 0 ≡ y)
    go q =
        let t : ℕ = q.0 in
        let n : ℕ = length (below y xs) in
        let a : n ≤ t = elim (dec_lt t n) [ yes h ↦ absurd (omega (arith, place-below y xs r t h, q.2)) | no h ↦ omega arith ] in
        let b : t ≤ n = elim (dec_lt n t) [ yes h ↦ absurd (omega (arith, below-place y xs r n (omega (arith, q.1)) (omega (arith, rising-at xs r n t h q.1, q.2)))) | no h ↦ omega arith ] in
        let e : t ≡ n = omega arith in
        (omega (arith, q.1), ap (λ (k : ℕ). get_or xs k 0) (sym e) ∙ q.2)

-- so one slot tells whether y is in the list
pub found : (y : ℕ) (xs : List ℕ) → Rising xs → length (below y xs) < length xs → eqb (get_or xs (length (below y xs)) 0) y ≡ member y xs
found y xs r h =
    same_test (eqb (get_or xs (length (below y xs)) 0) y) (member y xs)
    (λ t. mem→member y xs (Memᴰ.cast (sym (eqb→eq (get_or xs (length (below y xs)) 0) y t)) (at_mem xs (length (below y xs)) 0 h)))
    (λ t. eq→eqb (get_or xs (length (below y xs)) 0) y (place_of y xs r (member→mem y xs t)).1)

pub not_found : (y : ℕ) (xs : List ℕ) → Rising xs → length xs ≤ length (below y xs) → false ≡ member y xs
not_found y xs r h = same_test false (member y xs) (λ t. absurd t) (λ t. absurd (omega (arith, (place_of y xs r (member→mem y xs t)).0)))
