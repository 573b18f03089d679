-- The live keys rise strictly where the slots are in order, and only there.
use mathlib.Core.Path.{refl, sym, subst}
use mathlib.Core.Logic.{◌≢◌}
use mathlib.Core.List.{List, [], ◌∷◌}
use Prim.Native.Nat.{ℕ, zero, suc, ◌<◌}
use native.Mathlib.Nat.{suc-ne-zero}
use native.Mathlib.Omega.{arith}
use borrow.Author.Tests.{ne_eqb}
use Rattle.lists.specs.Lists.{All}
use Rattle.lists.proofs.Tests.{neqb→ne}
use Rattle.lists.proofs.Filtered.{only-mem}
use Rattle.slots.specs.Segments.{is_key, live}
use Rattle.slots.specs.Keys.{Rising}
use Rattle.slots.specs.Orders.{slot_at}
use Rattle.slots.proofs.Orders.{Ordered, in_list}
use Rattle.slots.proofs.Marks.{present}

-- a live key is from 1 up
pub live-key : (xs : List ℕ) → All (λ k. 0 < k) (live xs)
live-key xs k m = omega (arith, neqb→ne k 0 (only-mem is_key xs k m).0)

-- in order, so rising
pub ordered-rising : (xs : List ℕ) → Ordered xs → Rising (live xs)
ordered-rising [] o = tt
ordered-rising (x ∷ xs) o = go x o (ordered-rising xs (λ i j l. o (suc i) (suc j) (omega arith)))
  where
    go : (x : ℕ) → Ordered (x ∷ xs) → Rising (live xs) → Rising (live (x ∷ xs))
    go zero o r = r
    go (suc x) o r = rw (ne_eqb (suc x) 0 (suc-ne-zero x)) (least, r)
      where
        least : All (λ j. suc x < j) (live xs)
        least k m =
            let h : k ≢ 0 = omega (arith, live-key xs k m) in
            let t = (present xs k h).1 m in
            subst (λ (z : ℕ). suc x < z) t.2 (o 0 (suc t.0) (omega arith) (omega arith) (subst (λ (z : ℕ). z ≢ 0) (sym t.2) h))

-- rising, so in order
pub rising-ordered : (xs : List ℕ) → Rising (live xs) → Ordered xs
rising-ordered [] r = λ i j l p q. absurd (p refl)
rising-ordered (x ∷ xs) r = go x r (rising-ordered xs)
  where
    go : (x : ℕ) → Rising (live (x ∷ xs)) → (Rising (live xs) → Ordered xs) → Ordered (x ∷ xs)
    go zero r rec zero j l p q = absurd (p refl)
    go zero r rec (suc i) zero l p q = absurd (omega arith)
    go zero r rec (suc i) (suc j) l p q = rec r i j (omega arith) p q
    go (suc x) r rec zero zero l p q = absurd (omega arith)
    go (suc x) r rec zero (suc j) l p q =
        let r' : All (λ k. suc x < k) (live xs) × Rising (live xs) = rw (ne_eqb (suc x) 0 (suc-ne-zero x)) at r in
        r'.0 (slot_at xs j) ((present xs (slot_at xs j) q).0 (j, in_list xs j q, refl))
    go (suc x) r rec (suc i) zero l p q = absurd (omega arith)
    go (suc x) r rec (suc i) (suc j) l p q =
        let r' : All (λ k. suc x < k) (live xs) × Rising (live xs) = rw (ne_eqb (suc x) 0 (suc-ne-zero x)) at r in
        rec r'.1 i j (omega arith) p q
