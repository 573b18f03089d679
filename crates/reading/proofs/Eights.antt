-- Gaps looked for by the bits of several slots together.
use mathlib.Core.Path.{◌≡◌, sym, ◌∙◌, subst}
use mathlib.Core.List.{List, [], ◌∷◌}
use Prim.Native.Nat.{ℕ, zero, suc, ◌+◌, ◌-◌, ◌≤◌, ◌<◌}
use native.Mathlib.Decide.{dec_lt}
use native.Mathlib.Omega.{arith}
use lib.Bits.{bit_or, or_add_and, and_le_l, and_le_r}
use lib.ListN.{length, take, drop, get_or, length-take, length-drop}
use Rattle.std.specs.List.{fold}
use Rattle.slots.specs.Orders.{slot_at}
use Rattle.reading.specs.Stretches.{AllGaps}
use Rattle.reading.proofs.Stretched.{part-at}

-- two numbers whose bits together are none are both 0
pub none : (x y : ℕ) → bit_or x y ≡ 0 → (x ≡ 0) × (y ≡ 0)
none x y z = (omega (arith, or_add_and x y, and_le_r x y), omega (arith, or_add_and x y, and_le_l x y))

-- and so any number of them
pub none_of : (z : ℕ) (xs : List ℕ) → fold (λ all x. bit_or all x) z xs ≡ 0 → (z ≡ 0) × ((k : ℕ) → k < length xs → get_or xs k 0 ≡ 0)
none_of z [] e = (e, λ k h. absurd (omega arith))
none_of z (x ∷ xs) e =
    let rest = none_of (bit_or z x) xs e in
    let two = none z x rest.0 in
    (two.0, at two.1 rest.1)
  where
    at : x ≡ 0 → ((k : ℕ) → k < length xs → get_or xs k 0 ≡ 0) → (k : ℕ) → k < suc (length xs) → get_or (x ∷ xs) k 0 ≡ 0
    at p q zero h = p
    at p q (suc k) h = q k (omega arith)

module _ (xs : List ℕ) where
  -- the slots from i up to r are gaps
  abbrev pub Bare : ℕ → ℕ → Type 0
  Bare i r = (k : ℕ) → i ≤ k → k < r → slot_at xs k ≡ 0

  pub bare-join : (i m r : ℕ) → Bare i m → Bare m r → Bare i r
  bare-join i m r a b k h l = elim (dec_lt k m) [ yes p ↦ a k h p | no p ↦ b k (omega arith) l ]

  pub bare-all : (i r : ℕ) → i ≤ r → Bare i r → AllGaps xs i r r
  bare-all i r h b = record { from = h; to = omega arith; gaps = b; stops = λ m. absurd (omega arith) }

  -- a part of them, n from i on, that is all gaps
  pub bare-slice : (i n r : ℕ) → i + n ≡ r → r ≤ length xs → ((k : ℕ) → k < length (take n (drop i xs)) → get_or (take n (drop i xs)) k 0 ≡ 0) → Bare i r
  bare-slice i n r e h z k p q =
      let d : i + (k - i) ≡ k = omega arith in
      subst (λ (m : ℕ). slot_at xs m ≡ 0) d
      (sym (part-at xs i n (k - i) (omega arith)) ∙ z (k - i) (omega (arith, length-take n (drop i xs), length-drop i xs)))
