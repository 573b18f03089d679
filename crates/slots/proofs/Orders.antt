-- What the reading of the slots says of single slots: keys rise, and no key stands after a gap of its segment.
use mathlib.Core.Path.{◌≡◌, refl, sym, ap, ◌∙◌, subst}
use mathlib.Core.Bool.{Bool, ◌||◌, not}
use mathlib.Core.Logic.{◌⊎◌, inl, inr, ◌≢◌}
use mathlib.Core.Option.{Option, none, some}
use mathlib.Core.List.{List, ◌∷◌, ◌++◌, Memᴰ as Mem}
use Prim.Native.Nat.{ℕ, ◌+◌, ◌-◌, ◌*◌, ◌/◌, ◌≤◌, ◌<◌}
use native.Mathlib.Decide.{dec_lt, ℕ_discrete}
use native.Mathlib.Omega.{arith}
use lib.Dec.{T, T_not, leb, eqb, leb→le, le→leb, eqb→eq}
use lib.ListN.{length, take, drop, get_or, replicate, length-take, length-drop, get_or-eq_default}
use lib.Seq.{get_or-take, get_or-drop}
use Rattle.std.proofs.Common.{if◌then◌else◌}
use Rattle.lists.specs.Lists.{any_of}
use Rattle.lists.specs.Search.{first}
use Rattle.lists.proofs.Tests.{tested, and_left, and_right, and_both, or_left, or_right, or_cases, neqb→ne, ne→neqb, eq→eqb}
use Rattle.lists.proofs.Members.{mem-at, at_mem}
use Rattle.lists.proofs.Filtered.{only-mem, mem-only, any_some, some-any}
use Rattle.lists.proofs.Search.{Firsts, firsts}
use Rattle.slots.specs.declared.Disorder.{Disorder}
use Rattle.slots.specs.declared.Disorder.TheVariants.{NotRising, AfterGap}
use Rattle.std.specs.Prelude.{Result, Ok, Err, ⊤}
use Rattle.slots.specs.Segments.{is_key, live}
use Rattle.slots.specs.Orders.{slot_at, not_rising, after_gap, order_of, is_kept}

-- COMPUTED CASES
-- the first fault is told, whichever it is
first-falls : order_of (5 ∷ 3 ∷ 0 ∷ 7 ∷ replicate 124 0) ≡ Err (NotRising 1)
unfolding order_of
first-falls = refl

first-gap : order_of (5 ∷ 0 ∷ 7 ∷ 6 ∷ replicate 124 0) ≡ Err (AfterGap 2)
unfolding order_of
first-gap = refl

-- of a slot with both faults, the order
order-before-gap : order_of (5 ∷ 0 ∷ 3 ∷ replicate 125 0) ≡ Err (NotRising 2)
unfolding order_of
order-before-gap = refl

-- a key may not come twice, and a gap ends with its segment
equal-keys : order_of (5 ∷ 5 ∷ replicate 126 0) ≡ Err (NotRising 1)
unfolding order_of
equal-keys = refl

gap_ends : order_of (5 ∷ replicate 63 0 ++ 6 ∷ replicate 63 0) ≡ Ok tt
unfolding order_of
gap_ends = refl

-- IN WORDS ABOUT SINGLE SLOTS
-- keys rise from slot to slot, gaps passed over
abbrev pub Ordered : List ℕ → Type 0
Ordered xs = (i j : ℕ) → i < j → slot_at xs i ≢ 0 → slot_at xs j ≢ 0 → slot_at xs i < slot_at xs j

-- in a segment, after a gap come only gaps
abbrev pub Solid : List ℕ → Type 0
Solid xs = (i j : ℕ) → i < j → i / 64 ≡ j / 64 → slot_at xs i ≡ 0 → slot_at xs j ≡ 0

-- the two faults: a key at j that is not above the key at i before it, and a key at j after a gap at i in its segment
abbrev pub Falls : List ℕ → ℕ → ℕ → Type 0
Falls xs i j = (i < j) × (slot_at xs i ≢ 0) × (slot_at xs j ≢ 0) × (slot_at xs j ≤ slot_at xs i)

abbrev pub Gaps : List ℕ → ℕ → ℕ → Type 0
Gaps xs i j = (i < j) × (i / 64 ≡ j / 64) × (slot_at xs i ≡ 0) × (slot_at xs j ≢ 0)

-- a slot with a key is a slot of the list
pub in_list : (xs : List ℕ) (i : ℕ) → slot_at xs i ≢ 0 → i < length xs
in_list xs i h = elim (dec_lt i (length xs)) [ yes l ↦ l | no l ↦ absurd (h (get_or-eq_default xs 0 (omega arith))) ]

-- THE TESTS
-- what is among the slots from a up to j has a place there, and the other way round
placed : (xs : List ℕ) (a j k : ℕ) → Mem k (drop a (take j xs)) → (i : ℕ) × (a ≤ i) × (i < j) × (slot_at xs i ≡ k)
placed xs a j k m = go (mem-at k (drop a (take j xs)) 0 m)
  where
    go : (t : ℕ) × (t < length (drop a (take j xs))) × (get_or (drop a (take j xs)) t 0 ≡ k) → (i : ℕ) × (a ≤ i) × (i < j) × (slot_at xs i ≡ k)
    go q =
        let l : a + q.0 < j = omega (arith, length-drop a (take j xs), length-take j xs) in
        (a + q.0, omega arith, l, sym (get_or-take j xs (a + q.0) 0 l) ∙ sym (get_or-drop a (take j xs) q.0 0) ∙ q.2)

stands : (xs : List ℕ) (a i j : ℕ) → a ≤ i → i < j → i < length xs → Mem (slot_at xs i) (drop a (take j xs))
stands xs a i j p q r =
    let e : a + (i - a) ≡ i = omega arith in
    subst (λ (k : ℕ). Mem k (drop a (take j xs)))
    (get_or-drop a (take j xs) (i - a) 0 ∙ ap (λ (n : ℕ). get_or (take j xs) n 0) e ∙ get_or-take j xs i 0 q)
    (at_mem (drop a (take j xs)) (i - a) 0 (omega (arith, length-drop a (take j xs), length-take j xs)))

module _ (xs : List ℕ) (j : ℕ) where
  -- what a test that passes says, and that it passes
  pub falls : T (not_rising xs j) → (i : ℕ) × Falls xs i j
  falls t = go (any_some (leb (slot_at xs j)) (live (take j xs)) (and_right (is_key (slot_at xs j)) (any_of (leb (slot_at xs j)) (live (take j xs))) t))
    where
      at : (k : ℕ) → T (is_key k) → slot_at xs j ≤ k → (i : ℕ) × (0 ≤ i) × (i < j) × (slot_at xs i ≡ k) → (i : ℕ) × Falls xs i j
      at k key le q =
          (q.0, (q.2, subst (λ (n : ℕ). n ≢ 0) (sym q.3) (neqb→ne k 0 key), neqb→ne (slot_at xs j) 0 (and_left (is_key (slot_at xs j)) _ t), omega arith))

      go : (k : ℕ) × Mem k (live (take j xs)) × T (leb (slot_at xs j) k) → (i : ℕ) × Falls xs i j
      go q =
          let m = only-mem is_key (take j xs) q.0 q.1 in
          at q.0 m.0 (leb→le (slot_at xs j) q.0 q.2) (placed xs 0 j q.0 m.1)

  pub gaps : T (after_gap xs j) → (i : ℕ) × Gaps xs i j
  gaps t = go (any_some (eqb 0) (drop (j / 64 * 64) (take j xs)) (and_right (is_key (slot_at xs j)) (any_of (eqb 0) (drop (j / 64 * 64) (take j xs))) t))
    where
      at : (k : ℕ) → 0 ≡ k → (i : ℕ) × (j / 64 * 64 ≤ i) × (i < j) × (slot_at xs i ≡ k) → (i : ℕ) × Gaps xs i j
      at k e q = (q.0, (q.2, omega arith, q.3 ∙ sym e, neqb→ne (slot_at xs j) 0 (and_left (is_key (slot_at xs j)) _ t)))

      go : (k : ℕ) × Mem k (drop (j / 64 * 64) (take j xs)) × T (eqb 0 k) → (i : ℕ) × Gaps xs i j
      go q = at q.0 (eqb→eq 0 q.0 q.2) (placed xs (j / 64 * 64) j q.0 q.1)

  pub falling : (i : ℕ) → Falls xs i j → T (not_rising xs j)
  falling i f =
      and_both (is_key (slot_at xs j)) (any_of (leb (slot_at xs j)) (live (take j xs))) (ne→neqb (slot_at xs j) 0 f.2)
      (some-any (leb (slot_at xs j)) (live (take j xs)) (slot_at xs i)
      (mem-only is_key (take j xs) (slot_at xs i) (stands xs 0 i j (omega arith) f.0 (in_list xs i f.1)) (ne→neqb (slot_at xs i) 0 f.1))
      (le→leb (slot_at xs j) (slot_at xs i) f.3))

  pub gapping : (i : ℕ) → Gaps xs i j → T (after_gap xs j)
  gapping i f =
      let l : j < length xs = in_list xs j f.3 in
      and_both (is_key (slot_at xs j)) (any_of (eqb 0) (drop (j / 64 * 64) (take j xs))) (ne→neqb (slot_at xs j) 0 f.3)
      (some-any (eqb 0) (drop (j / 64 * 64) (take j xs)) (slot_at xs i)
      (stands xs (j / 64 * 64) i j (omega (arith, f.1)) f.0 (omega (arith, f.0)))
      (eq→eqb 0 (slot_at xs i) (sym f.2)))

-- THE READING
module _ (xs : List ℕ) where
  -- slot i breaks the order, in either way
  abbrev pub fault : ℕ → Bool
  fault i = not_rising xs i || after_gap xs i

  abbrev read : Option ℕ → Result ⊤ Disorder
  read r = elim r [ none ↦ Ok tt | some i ↦ Err (if not_rising xs i then NotRising i else AfterGap i) ]

  -- a reading that is not kept: the fault that it found
  pub broken : T (not (is_kept (order_of xs))) → ((i : ℕ) × (j : ℕ) × Falls xs i j) ⊎ ((i : ℕ) × (j : ℕ) × Gaps xs i j)
  unfolding order_of
  broken = go (first fault 0 (length xs)) (firsts fault 0 (length xs))
    where
      go : (r : Option ℕ) → Firsts fault 0 (length xs) r → T (not (is_kept (read r))) → ((i : ℕ) × (j : ℕ) × Falls xs i j) ⊎ ((i : ℕ) × (j : ℕ) × Gaps xs i j)
      go none f t = absurd t
      go (some j) f t =
          elim (or_cases (not_rising xs j) (after_gap xs j) f.0.1) [
            | inl u ↦ inl ((falls xs j u).0, j, (falls xs j u).1)
            | inr u ↦ inr ((gaps xs j u).0, j, (gaps xs j u).1)
          ]

  -- a reading that is kept: there is no fault
  pub kept→ : T (is_kept (order_of xs)) → Ordered xs × Solid xs
  unfolding order_of
  kept→ = go (first fault 0 (length xs)) (firsts fault 0 (length xs))
    where
      none-falls : ((j : ℕ) → slot_at xs j ≢ 0 → ¬ (T (fault j))) → Ordered xs
      none-falls f i j l p q =
          elim (dec_lt (slot_at xs i) (slot_at xs j)) [
            | yes r ↦ r
            | no r ↦ absurd (f j q (or_left (not_rising xs j) (after_gap xs j) (falling xs j i (l, p, q, omega arith))))
          ]

      none-gaps : ((j : ℕ) → slot_at xs j ≢ 0 → ¬ (T (fault j))) → Solid xs
      none-gaps f i j l e z =
          elim (ℕ_discrete (slot_at xs j) 0) [
            | yes r ↦ r
            | no q ↦ absurd (f j q (or_right (not_rising xs j) (after_gap xs j) (gapping xs j i (l, e, z, q))))
          ]

      none-at : ((j : ℕ) → 0 ≤ j → j < 0 + length xs → T (not (fault j))) → (j : ℕ) → slot_at xs j ≢ 0 → ¬ (T (fault j))
      none-at f j q = T_not (fault j) (f j (omega arith) (omega (arith, in_list xs j q)))

      go : (r : Option ℕ) → Firsts fault 0 (length xs) r → T (is_kept (read r)) → Ordered xs × Solid xs
      go none f t = (none-falls (none-at f), none-gaps (none-at f))
      go (some j) f t = absurd t

  -- and where there is none, the reading is kept
  pub kept← : Ordered xs → Solid xs → T (is_kept (order_of xs))
  kept← o s =
      elim (tested (is_kept (order_of xs))) [
        | inl t ↦ t
        | inr t ↦
            elim (broken t) [
              | inl f ↦ absurd (omega (arith, o f.0 f.1 f.2.0 f.2.1 f.2.2, f.2.3))
              | inr f ↦ absurd (f.2.3 (s f.0 f.1 f.2.0 f.2.1 f.2.2))
            ]
      ]

-- THE SLOTS FURTHER ON
-- what holds of slots holds of those after the first n, or after the first segment
pub ordered-drop : (xs : List ℕ) (n : ℕ) → Ordered xs → Ordered (drop n xs)
ordered-drop xs n o i j l = rw (get_or-drop n xs i 0, get_or-drop n xs j 0) (o (n + i) (n + j) (omega arith))

pub solid-drop : (xs : List ℕ) → Solid xs → Solid (drop 64 xs)
solid-drop xs s i j l e = rw (get_or-drop 64 xs i 0, get_or-drop 64 xs j 0) (s (64 + i) (64 + j) (omega arith) (omega arith))
