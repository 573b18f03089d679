-- Scan is answered as the plain set answers, and a scan into an empty output.
use mathlib.Core.Path.{◌≡◌, refl, sym, ap, ◌∙◌, subst}
use mathlib.Core.Bool.{not}
use mathlib.Core.Logic.{◌⊎◌, inl, inr, ◌↔◌}
use mathlib.Core.List.Memᴰ.{head as here}
use mathlib.Core.List.Memᴰ.{tail as there}
use mathlib.Core.List.{List, [], ◌∷◌, ◌++◌, map, Memᴰ as Mem}
use mathlib.Core.List.Memᴰ.{cases_cons as mem-cases}
use mathlib.Core.List.Memᴰ.{not-nil as nowhere}
use Prim.Native.Nat.{ℕ, suc, ◌≤◌, ◌<◌}
use native.Mathlib.Nat.{le_refl}
use native.Mathlib.Decide.{dec_lt}
use native.Mathlib.Omega.{arith}
use lib.Dec.{T, ltb, ltb→lt, lt→ltb}
use borrow.Author.Tests.{lt-ltb, le-ltb}
use lib.ListN.{length, take, drop, get_or, length-take}
use lib.Seq.{length-take-le, take-nil, take-take, take_all, split_at}
use Rattle.lists.specs.Lists.{All, any_of}
use Rattle.lists.proofs.Tests.{is_true, is_false, le→nltb}
use Rattle.lists.proofs.Filtered.{mem-only, none_any, any_some, some-any}
use Rattle.lists.proofs.Members.{at_mem}
use Rattle.slots.specs.Segments.{Segments, keys}
use Rattle.slots.specs.Keys.{Rising, above}
use Rattle.slots.proofs.Rising.{only-rising, rising-across, above-mem}
use Rattle.rules.specs.Looking.{last_or, scanned}
use Rattle.demands.specs.PlainSet as set
use Rattle.demands.proofs.Sets.SetLaws.{above-beyond}

-- THE LAST of a rising list, or what stands before it
last_mem : (a : ℕ) (xs : List ℕ) → Mem (last_or a xs) (a ∷ xs)
last_mem a [] = here refl
last_mem a (x ∷ xs) = there (last_mem x xs)

last-most : (a : ℕ) (xs : List ℕ) → Rising (a ∷ xs) → All (λ k. k ≤ last_or a xs) (a ∷ xs)
last-most a [] h k m = elim (mem-cases m) [ inl e ↦ omega arith | inr n ↦ absurd (nowhere n) ]
last-most a (x ∷ xs) h k m =
    elim (mem-cases m) [
      | inl e ↦ omega (arith, h.0 x (here refl), last-most x xs h.1 x (here refl))
      | inr n ↦ last-most x xs h.1 k n
    ]

-- MORE: a key remains above the last one written, or above a if none was, exactly when fewer are written than there are
module _ (a : ℕ) (ks : List ℕ) (h : Rising ks) where
  from-rising : Rising (a ∷ above a ks)
  from-rising = (λ k m. (above-mem a ks k m).0, only-rising (λ k. ltb a k) ks h)

  left_over : (n : ℕ) → n < length (above a ks) → T (any_of (ltb (last_or a (take n (above a ks)))) ks)
  left_over n p = some-any (ltb l) ks r (above-mem a ks r (at_mem (above a ks) n 0 p)).1 (lt→ltb l r (rising-across (a ∷ page) (r ∷ drop (suc n) (above a ks)) g l (last_mem a page) r (here refl)))
    where
      page : List ℕ
      page = take n (above a ks)

      l : ℕ
      l = last_or a page

      r : ℕ
      r = get_or (above a ks) n 0

      g : Rising (a ∷ page ++ (r ∷ drop (suc n) (above a ks)))
      g = subst (λ (z : List ℕ). Rising (a ∷ z)) (split_at (above a ks) n 0 p) from-rising

  none_left : T (not (any_of (ltb (last_or a (above a ks))) ks))
  none_left = none_any (ltb l) ks none
    where
      l : ℕ
      l = last_or a (above a ks)

      none : All (λ k. T (not (ltb l k))) ks
      none k m =
          elim (dec_lt a k) [
            | yes p ↦ le→nltb k l (last-most a (above a ks) from-rising k (there (mem-only (λ j. ltb a j) ks k m (lt→ltb a k p))))
            | no p ↦ le→nltb k l (omega (arith, last-most a (above a ks) from-rising a (here refl)))
          ]

  more-is : (n : ℕ) → any_of (ltb (last_or a (take n (above a ks)))) ks ≡ ltb (length (take n (above a ks))) (length (above a ks))
  more-is n =
      elim (dec_lt n (length (above a ks))) [
        | yes p ↦
            let e : length (take n (above a ks)) < length (above a ks) = omega (arith, length-take-le n (above a ks) (omega arith)) in
            is_true _ (left_over n p) ∙ sym (lt-ltb _ _ e)
        | no p ↦ rw (take_all n (above a ks) (omega arith)) (is_false _ none_left ∙ sym (le-ltb _ _ (le_refl (length (above a ks)))))
      ]

-- a list cut to two sizes is cut to one of them
take-both : (m n : ℕ) (xs : List ℕ) → (k : ℕ) × (take m (take n xs) ≡ take k xs)
take-both m n xs =
    elim (dec_lt m n) [
      | yes p ↦ (m, take-take m n xs (omega arith))
      | no p ↦ (n, take_all m (take n xs) (omega (arith, length-take n xs)))
    ]

-- what a scan tells, part by part: the page that is written, its number of keys, the two outputs and more
module _ (a : ℕ) (c : ℕ → ℕ) (ss : Segments) (out cards : List ℕ) where
  abbrev pub page : List ℕ
  page = take (length cards) (take (length out) (set.beyond a (keys ss)))

  -- the same page, in the rules' word for it
  page-is : take (length cards) (take (length out) (above a (keys ss))) ≡ page
  page-is = ap (λ (f : List ℕ). take (length cards) (take (length out) f)) (above-beyond a (keys ss))

  pub scanned-number : (scanned a c ss out cards).number ≡ 0
  unfolding scanned
  scanned-number = refl

  pub scanned-written : (scanned a c ss out cards).written ≡ length page
  unfolding scanned
  scanned-written = ap (λ (f : List ℕ). length f) page-is

  pub scanned-output : (scanned a c ss out cards).output ≡ page ++ drop (length page) out
  unfolding scanned
  scanned-output = ap (λ (f : List ℕ). f ++ drop (length f) out) page-is

  pub scanned-cards : (scanned a c ss out cards).cards ≡ map c page ++ drop (length page) cards
  unfolding scanned
  scanned-cards = ap (λ (f : List ℕ). map c f ++ drop (length f) cards) page-is

  pub scanned-more : Rising (keys ss) → (scanned a c ss out cards).more ≡ ltb (length page) (length (set.beyond a (keys ss)))
  unfolding scanned
  scanned-more h =
      ap (λ (f : List ℕ). any_of (ltb (last_or a f)) (keys ss)) one-cut.1 ∙ more-is a (keys ss) h one-cut.0
      ∙ ap (λ (f : List ℕ). ltb (length f) (length (above a (keys ss)))) (sym one-cut.1)
      ∙ ap (λ (f : List ℕ). ltb (length (take (length cards) (take (length out) f))) (length f)) (above-beyond a (keys ss))
    where
      one-cut : (n : ℕ) × (take (length cards) (take (length out) (above a (keys ss))) ≡ take n (above a (keys ss)))
      one-cut = take-both (length cards) (length out) (above a (keys ss))

  -- and all of it, whatever the set's bounds
  pub scan-told : (most few : ℕ) → Rising (keys ss)
      → set.Scanned (scanned a c ss out cards).number (scanned a c ss out cards).written (scanned a c ss out cards).more (scanned a c ss out cards).output (scanned a c ss out cards).cards
      ≡ set.told most few (set.Scan a out cards) (record { keys = keys ss; card = c })
  scan-told most few h = λ i. set.Scanned (scanned-number i) (scanned-written i) (scanned-more h i) (scanned-output i) (scanned-cards i)

-- Where either output is empty 0 keys are written, and more remain exactly if a live key above a exists.
module _ (a : ℕ) (c : ℕ → ℕ) (ss : Segments) (out cards : List ℕ) (empty : (out ≡ []) ⊎ (cards ≡ [])) where
  none-fit : take (length cards) (take (length out) (above a (keys ss))) ≡ []
  none-fit = elim empty [ inl e ↦ rw e (take-nil (length cards)) | inr e ↦ rw e refl ]

  pub scan-none : ((scanned a c ss out cards).written ≡ 0) × (T (scanned a c ss out cards).more ↔ ((k : ℕ) × Mem k (keys ss) × (a < k)))
  unfolding scanned
  scan-none = rw none-fit (
    refl,
    (λ t. ((any_some (ltb a) (keys ss) t).0, (any_some (ltb a) (keys ss) t).1, ltb→lt _ _ (any_some (ltb a) (keys ss) t).2), λ k. some-any (ltb a) (keys ss) k.0 k.1 (lt→ltb a k.0 k.2)),
  )
