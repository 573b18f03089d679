-- Reading slots from the left: what is known of the slots passed, and what the first slot that breaks the order is told as.
use mathlib.Core.Path.{◌≡◌, refl, sym, ap, ◌∙◌, subst}
use mathlib.Core.Bool.{not}
use mathlib.Core.Logic.{inl, inr, ◌≢◌}
use mathlib.Core.List.{List, [], ◌∷◌}
use Prim.Native.Nat.{ℕ, ◌+◌, ◌/◌, ◌≤◌, ◌<◌, min}
use native.Mathlib.Numerals.{add-one}
use native.Mathlib.Omega.{arith}
use borrow.Author.Count.{below_more}
use borrow.Author.Tests.{eq-eqb, ne_eqb}
use lib.Dec.{T, not_T, leb, leb→le, nleb→lt}
use lib.ListN.{length, take, length-append, length-take}
use lib.Seq.{take-suc, take_all}
use Rattle.std.proofs.Common.{if◌then◌else◌}
use Rattle.lists.proofs.Tests.{tested, nor, is_true, is_false}
use Rattle.lists.proofs.Filtered.{only-append, only-length}
use Rattle.lists.proofs.Search.{first-is, first-none}
use Rattle.slots.specs.declared.Disorder.{Disorder}
use Rattle.slots.specs.declared.Disorder.TheVariants.{NotRising, AfterGap}
use Rattle.std.specs.Prelude.{Result, Ok, Err, ⊤}
use Rattle.slots.specs.Segments.{is_key, live}
use Rattle.slots.specs.Orders.{slot_at, not_rising, after_gap, order_of}
use Rattle.slots.specs.Shown.{Reads}
use Rattle.reading.specs.Stretches.{Sound, break_of}
use Rattle.slots.proofs.Orders.{in_list, fault, falls, gaps, falling}

-- THE ORDER THAT IS TOLD
module _ (xs : List ℕ) where
  -- slot j breaks it, and none before: it is told by its test of order
  pub order-at : (j : ℕ) → j < length xs → ((k : ℕ) → k < j → T (not (fault xs k))) → T (fault xs j)
      → order_of xs ≡ Err (if not_rising xs j then NotRising j else AfterGap j)
  unfolding order_of
  order-at j l h t = rw (first-is (fault xs) 0 (length xs) j (omega arith, t, λ k p q. h k q) (omega arith), order_of)

  -- no slot breaks it
  pub order-kept : ((k : ℕ) → k < length xs → T (not (fault xs k))) → order_of xs ≡ Ok tt
  unfolding order_of
  order-kept h = rw (first-none (fault xs) 0 (length xs) (λ k p q. h k (omega arith)), order_of)

-- WHAT IS KNOWN of the slots passed
module _ {xs : List ℕ} where
  -- the same of equal numbers
  pub sound-as : {j j' top top' keys keys' : ℕ} → j ≡ j' → top ≡ top' → keys ≡ keys' → Sound xs j top keys → Sound xs j' top' keys'
  sound-as {j} {j'} {top} {top'} {keys} {keys'} p q r s =
      subst (λ (z : ℕ). Sound xs z top' keys') p (subst (λ (z : ℕ). Sound xs j z keys') q (subst (λ (z : ℕ). Sound xs j top z) r s))

  module _ {j top keys : ℕ} (s : Sound xs j top keys) where
    -- the keys are no more than the slots
    pub sound-few : keys ≤ min j (length xs)
    sound-few = omega (arith, s.many, only-length is_key (take j xs), length-take j xs)

    -- the keys, with slot j
    many-next : j < length xs → length (live (take (j + 1) xs)) ≡ keys + length (live (slot_at xs j ∷ []))
    many-next l =
        rw (add-one j, take-suc xs j 0 l, only-append is_key (take j xs) (slot_at xs j ∷ []), length-append (live (take j xs)) (live (slot_at xs j ∷ [])), s.many)

    -- a key above the largest before it passes the test of order
    sound-high : top < slot_at xs j → ¬ (T (not_rising xs j))
    sound-high lt t = let f = falls xs j t in omega (arith, s.most f.0 f.1.0, f.1.3)

    -- ONE SLOT MORE: a key above all before it, with no gap before it in its segment
    pub sound-key : top < slot_at xs j → ((i : ℕ) → i < j → i / 64 ≡ j / 64 → slot_at xs i ≢ 0) → Sound xs (j + 1) (slot_at xs j) (keys + 1)
    sound-key up solid = record {
      faultless = below_more (λ k. T (not (fault xs k))) j s.faultless (nor (not_rising xs j) (after_gap xs j) (not_T (not_rising xs j) (sound-high up)) (not_T (after_gap xs j) behind));
      most = below_more (λ k. slot_at xs k ≤ slot_at xs j) j (λ k l. omega (arith, s.most k l)) (omega arith);
      there = λ h. (j, omega arith, refl);
      many = sym (many-next (in_list xs j key) ∙ rw (ne_eqb (slot_at xs j) 0 key));
    }
      where
        key : slot_at xs j ≢ 0
        key = omega arith

        behind : ¬ (T (after_gap xs j))
        behind t = let f = gaps xs j t in solid f.0 f.1.0 f.1.1 f.1.2

    -- or a gap
    pub sound-gap : j < length xs → slot_at xs j ≡ 0 → Sound xs (j + 1) top keys
    sound-gap l z = record {
      faultless = below_more (λ k. T (not (fault xs k))) j s.faultless (nor (not_rising xs j) (after_gap xs j) (not_T (not_rising xs j) above) (not_T (after_gap xs j) behind));
      most = below_more (λ k. slot_at xs k ≤ top) j s.most (omega arith);
      there = λ h. let f = s.there h in (f.0, omega (arith, f.1), f.2);
      many = sym (many-next l ∙ rw (eq-eqb (slot_at xs j) 0 z) (omega arith));
    }
      where
        above : ¬ (T (not_rising xs j))
        above t = (falls xs j t).1.2 z

        behind : ¬ (T (after_gap xs j))
        behind t = (gaps xs j t).1.3 z

    -- a key that is not above the largest before it breaks the order
    pub sound-low : slot_at xs j ≢ 0 → slot_at xs j ≤ top → T (not_rising xs j)
    sound-low key le =
        let n : top ≢ 0 = omega arith in
        let f = s.there n in
        falling xs j f.0 (f.1, subst (λ (z : ℕ). z ≢ 0) (sym f.2) n, key, omega (arith, f.2))

    -- so the test of order is one comparison
    sound-test : slot_at xs j ≢ 0 → not_rising xs j ≡ leb (slot_at xs j) top
    sound-test key =
        elim (tested (leb (slot_at xs j) top)) [
          | inl t ↦ is_true (not_rising xs j) (sound-low key (leb→le (slot_at xs j) top t)) ∙ sym (is_true (leb (slot_at xs j) top) t)
          | inr t ↦ is_false (not_rising xs j) (not_T (not_rising xs j) (sound-high (nleb→lt (slot_at xs j) top t))) ∙ sym (is_false (leb (slot_at xs j) top) t)
        ]

    -- THE READING, where every slot is passed
    pub sound-end : length xs ≤ j → Reads xs (Ok keys)
    sound-end h = (order-kept xs (λ k l. s.faultless k (omega arith)), s.many ∙ ap (λ l. length (live l)) (take_all j xs h), omega (arith, sound-few))

    -- and where slot j breaks the order
    pub sound-fault : slot_at xs j ≢ 0 → T (fault xs j) → Reads xs (Err (break_of (slot_at xs j) top j))
    sound-fault key t = order-at xs j (in_list xs j key) s.faultless t ∙ ap {B = Result ⊤ Disorder} (λ b. Err (if b then NotRising j else AfterGap j)) (sound-test key)
