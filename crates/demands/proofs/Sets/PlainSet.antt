-- The plain set is a set: what it has, and what add, remove and beyond leave.
use mathlib.Core.Path.{◌≡◌, refl, sym, ap, subst}
use mathlib.Core.Bool.{Bool, true, false, not}
use mathlib.Core.Logic.{◌⊎◌, inl, inr, ◌≢◌, ◌↔◌}
use mathlib.Core.List.Memᴰ.{head as here}
use mathlib.Core.List.Memᴰ.{tail as there}
use mathlib.Core.List.{List, [], ◌∷◌, Memᴰ as Mem}
use mathlib.Core.List.Memᴰ.{append_cases as in_either}
use mathlib.Core.List.Memᴰ.{cases_cons as mem-cases}
use Prim.Native.Nat.{ℕ, suc, ◌≤◌, ◌<◌}
use native.Mathlib.Omega.{arith}
use lib.Dec.{T, leb, ltb, eqb, lt→ltb, eqb→eq, nleb→lt}
use borrow.Author.Tests.{eq-eqb, ne_eqb}
use lib.ListN.{length}
use Rattle.std.proofs.Common.{if◌then◌else◌}
use Rattle.lists.proofs.Tests.{either, tested}
use Rattle.lists.proofs.Filtered.{mem-only}
use Rattle.slots.specs.Keys.{Rising, member, below, cut}
use Rattle.slots.proofs.Rising.{only-rising, put-rising, below-mem, above-mem, cut-rising, cut-mem, mem-cut}
use Rattle.slots.proofs.Keys.{member→mem, mem→member}
use Rattle.demands.specs.Demand2.{IsSet}
use Rattle.demands.specs.PlainSet as set
use Rattle.demands.proofs.Sets.SetLaws.{has-member, above-beyond, add_same, put-add, cut-remove}

module _ (y : ℕ) where
  -- the keys of a set with y added
  abbrev Added : List ℕ → List ℕ → Type 0
  Added ks new = (k : ℕ) → Mem k new ↔ ((k ≡ y) ⊎ Mem k ks)

  added : (ks : List ℕ) → Added ks (set.add y ks)
  added [] = λ k. (λ m. mem-cases m, λ s. elim s [ inl e ↦ here e | inr n ↦ there n ])
  added (j ∷ ks) = go (ltb y j) (eqb y j) (eqb→eq y j) (added ks)
    where
      go : (b c : Bool) → (T c → y ≡ j) → Added ks (set.add y ks) → Added (j ∷ ks) (if b then y ∷ j ∷ ks else if c then j ∷ ks else j ∷ set.add y ks)
      go true c q ih k = (λ m. mem-cases m, λ s. elim s [ inl e ↦ here e | inr n ↦ there n ])
      go false true q ih k = (λ m. inr m, λ s. elim s [ inl e ↦ here (subst (λ z. k ≡ z) (q tt) e) | inr n ↦ n ])
      go false false q ih k = (
        λ m. elim (mem-cases m) [ inl e ↦ inr (here e) | inr n ↦ elim ((ih k).0 n) [ inl e ↦ inl e | inr o ↦ inr (there o) ] ],
        λ s. elim s [ inl e ↦ there ((ih k).1 (inl e)) | inr n ↦ elim (mem-cases n) [ inl e ↦ here e | inr o ↦ there ((ih k).1 (inr o)) ] ],
      )

  -- a rising list with y added rises
  add-rising : (ks : List ℕ) → Rising ks → Rising (set.add y ks)
  add-rising ks h =
      elim (tested (member y ks)) [
        | inl t ↦ subst Rising (sym (add_same y ks h (member→mem y ks t))) h
        | inr t ↦ subst Rising (put-add y ks h t) (put-rising y ks h)
      ]

  -- a key taken out of a rising list is gone, the others stay
  removed : (ks : List ℕ) → Rising ks → (k : ℕ) → Mem k (set.remove y ks) ↔ ((k ≢ y) × Mem k ks)
  removed ks h k = rw (← cut-remove y ks h) (λ m. (other m, cut-mem y ks k m), λ p. mem-cut y ks k p.1 p.0)
    where
      other : Mem k (cut y ks) → k ≢ y
      other m = elim (in_either (below y ks) m) [ inl n ↦ omega (arith, (below-mem y ks k n).0) | inr n ↦ omega (arith, (above-mem y ks k n).0) ]

  remove-rising : (ks : List ℕ) → Rising ks → Rising (set.remove y ks)
  remove-rising ks h = subst Rising (cut-remove y ks h) (cut-rising y ks h)

  -- one key more at most, and none
  abbrev Within : ℕ → List ℕ → Type 0
  Within n xs = length xs ≤ n

  length-add : (ks : List ℕ) → length (set.add y ks) ≤ suc (length ks)
  length-add [] = omega arith
  length-add (j ∷ ks) =
      let ih : length (set.add y ks) ≤ suc (length ks) = length-add ks in
      either (Within (suc (suc (length ks)))) (ltb y j) (omega arith) (either (Within (suc (suc (length ks)))) (eqb y j) (omega arith) (omega arith))

  length-remove : (ks : List ℕ) → length (set.remove y ks) ≤ length ks
  length-remove [] = omega arith
  length-remove (j ∷ ks) =
      let ih : length (set.remove y ks) ≤ length ks = length-remove ks in
      either (Within (suc (length ks))) (eqb y j) (omega arith) (omega arith)

-- WHATEVER IS ASKED a rising list of at most `most` keys stays one
abbrev Bounded : ℕ → set.Events → Type 0
Bounded most E = Rising E.keys × (length E.keys ≤ most)

bounded-after : (most : ℕ) (a : set.Ask) (E : set.Events) → Bounded most E → Bounded most (set.after most a E)
bounded-after most (set.Insert y v) E b = go (eqb y 0) (set.has y E.keys) (leb most (length E.keys)) (nleb→lt most (length E.keys))
  where
    go : (c d e : Bool) → (T (not e) → length E.keys < most) → Bounded most (if eqb (if c then 5 else if d then 6 else if e then 8 else 0) 0 then set.gain y v E else E)
    go true d e p = b
    go false true e p = b
    go false false true p = b
    go false false false p = (add-rising y E.keys b.0, omega (arith, length-add y E.keys, p tt))
bounded-after most (set.Delete y) E b =
    either (Bounded most) (eqb (set.delete_number y E.keys) 0) (remove-rising y E.keys b.0, omega (arith, length-remove y E.keys, b.1)) b
bounded-after most (set.Lookup y) E b = b
bounded-after most (set.Scan a out cards) E b = b

bounded-all : (most : ℕ) (asks : List set.Ask) (E : set.Events) → Bounded most E → Bounded most (set.after_all most asks E)
bounded-all most [] E b = b
bounded-all most (a ∷ asks) E b = bounded-all most asks (set.after most a E) (bounded-after most a E b)

-- the statement of the specs, whole
pub is_set : IsSet
is_set = record {
  rises = λ y ks h. (add-rising y ks h, remove-rising y ks h);
  has = λ y ks. (λ t. member→mem y ks (subst T (has-member y ks) t), λ m. subst T (sym (has-member y ks)) (mem→member y ks m));
  add = λ y ks. added y ks;
  remove = λ y ks. removed y ks;
  beyond = λ a ks k. rw (← above-beyond a ks) (λ m. above-mem a ks k m, λ p. mem-only (λ j. ltb a j) ks k p.1 (lt→ltb a k p.0));
  rising = λ a ks h. subst Rising (above-beyond a ks) (only-rising (λ k. ltb a k) ks h);
  at_most = λ most asks. bounded-all most asks set.empty (tt, omega arith);
  gained = λ y v E. ap (λ (b : Bool). if b then v else E.card y) (eq-eqb y y refl);
  others = λ y v E k n. ap (λ (b : Bool). if b then v else E.card k) (ne_eqb k y n);
  lost = λ y E k. refl;
}
