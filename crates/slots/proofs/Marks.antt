-- Where a key is: in a slot, and in that slot's segment.
use mathlib.Core.Path.{◌≡◌, sym, ap, ◌∙◌, subst}
use mathlib.Core.Bool.{not}
use mathlib.Core.Logic.{◌≢◌, ◌↔◌}
use mathlib.Core.List.{List, map, Memᴰ as Mem}
use Prim.Native.Nat.{ℕ, zero, suc, ◌+◌, ◌-◌, ◌*◌, ◌/◌, ◌≤◌, ◌<◌}
use native.Mathlib.Decide.{dec_lt}
use native.Mathlib.Omega.{arith}
use lib.Dec.{T, not_T, eqb, eqb→eq, eqb_refl}
use borrow.Author.Tests.{ne_eqb}
use lib.ListN.{length, take, drop, length-take, length-drop}
use lib.Seq.{get_or-take, get_or-drop}
use Rattle.lists.specs.Lists.{parts}
use Rattle.lists.specs.Search.{place_by}
use Rattle.lists.proofs.Tests.{is_true, is_false, ne→neqb}
use Rattle.lists.proofs.Members.{mem-at, at_mem}
use Rattle.lists.proofs.Filtered.{only-mem, mem-only, any_some, some-any}
use Rattle.slots.specs.Segments.{is_key, live, segments_of}
use Rattle.slots.specs.Keys.{member, segment_of}
use Rattle.slots.specs.Orders.{slot_at}
use Rattle.slots.proofs.Orders.{Ordered, ordered-drop}

-- the live keys are the keys in the slots
pub present : (xs : List ℕ) (y : ℕ) → y ≢ 0 → ((i : ℕ) × (i < length xs) × (slot_at xs i ≡ y)) ↔ Mem y (live xs)
present xs y h = (
  λ p. mem-only is_key xs y (subst (λ (z : ℕ). Mem z xs) p.2 (at_mem xs p.0 0 p.1)) (ne→neqb y 0 h),
  λ m. mem-at y xs 0 (only-mem is_key xs y m).1,
)

-- a key is among the first 64 slots where it is in one of them, and there only
module _ (xs : List ℕ) (o : Ordered xs) (t : ℕ) (h : slot_at xs t ≢ 0) (l : t < length xs) where
  early : t < 64 → T (member (slot_at xs t) (live (take 64 xs)))
  early p =
      let m = (present (take 64 xs) (slot_at xs t) h).0 (t, omega (arith, length-take 64 xs), get_or-take 64 xs t 0 p) in
      some-any (eqb (slot_at xs t)) (live (take 64 xs)) (slot_at xs t) m (eqb_refl (slot_at xs t))

  late : 64 ≤ t → T (not (member (slot_at xs t) (live (take 64 xs))))
  late p = not_T (member (slot_at xs t) (live (take 64 xs))) (λ u. go (any_some (eqb (slot_at xs t)) (live (take 64 xs)) u))
    where
      twice : (i : ℕ) × (i < length (take 64 xs)) × (slot_at (take 64 xs) i ≡ slot_at xs t) → ⊥
      twice q =
          let i : ℕ = q.0 in
          let r : i < 64 = omega (arith, length-take 64 xs) in
          let e : slot_at xs i ≡ slot_at xs t = sym (get_or-take 64 xs i 0 r) ∙ q.2 in
          omega (arith, o i t (omega arith) (subst (λ (z : ℕ). z ≢ 0) (sym e) h) h)

      go : (k : ℕ) × Mem k (live (take 64 xs)) × T (eqb (slot_at xs t) k) → ⊥
      go q =
          let e : slot_at xs t ≡ q.0 = eqb→eq (slot_at xs t) q.0 q.2 in
          twice ((present (take 64 xs) (slot_at xs t) h).1 (subst (λ (z : ℕ). Mem z (live (take 64 xs))) (sym e) q.1))

part_at : (n : ℕ) (xs : List ℕ) → length xs ≡ 64 * n → Ordered xs → (t : ℕ) → t < length xs → slot_at xs t ≢ 0
    → place_by (member (slot_at xs t)) (map live (parts 64 n xs)) ≡ t / 64
part_at zero xs e o t l h = absurd (omega arith)
part_at (suc n) xs e o t l h =
    elim (dec_lt t 64) [
      | yes p ↦ rw (is_true (member (slot_at xs t) (live (take 64 xs))) (early xs o t h l p)) (omega arith)
      | no p ↦ later (omega arith) (part_at n (drop 64 xs) (omega (arith, length-drop 64 xs)) (ordered-drop xs 64 o) (t - 64))
    ]
  where
    later : 64 ≤ t → (t - 64 < length (drop 64 xs) → slot_at (drop 64 xs) (t - 64) ≢ 0
        → place_by (member (slot_at (drop 64 xs) (t - 64))) (map live (parts 64 n (drop 64 xs))) ≡ (t - 64) / 64)
        → place_by (member (slot_at xs t)) (map live (parts 64 (suc n) xs)) ≡ t / 64
    later p rec =
        let i : 64 + (t - 64) ≡ t = omega arith in
        let q : slot_at (drop 64 xs) (t - 64) ≡ slot_at xs t = get_or-drop 64 xs (t - 64) 0 ∙ ap (λ (k : ℕ). slot_at xs k) i in
        let r : place_by (member (slot_at xs t)) (map live (parts 64 n (drop 64 xs))) ≡ (t - 64) / 64 =
        rw q at (rec (omega (arith, length-drop 64 xs)) (subst (λ (z : ℕ). z ≢ 0) (sym q) h)) in
        rw (is_false (member (slot_at xs t) (live (take 64 xs))) (late xs o t h l p)) (omega arith)

-- a key's segment is that of its slot
pub segment-at : (xs : List ℕ) (n : ℕ) → length xs ≡ 64 * n → Ordered xs → (t : ℕ) → t < length xs → slot_at xs t ≢ 0
    → segment_of (segments_of xs) (slot_at xs t) ≡ t / 64
unfolding segment_of segments_of
segment-at xs n e o t l h =
    let d : length xs / 64 ≡ n = omega arith in
    rw (ne_eqb (slot_at xs t) 0 h, d) (part_at n xs e o t l h)
