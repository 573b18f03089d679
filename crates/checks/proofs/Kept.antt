-- A list of a lawful length whose order is kept: what the test of its gaps asks, and what it tells.
use mathlib.Core.Path.{◌≡◌, sym, ◌∙◌}
use mathlib.Core.Bool.{Bool, true}
use mathlib.Core.Logic.{inl, inr, ◌≢◌}
use mathlib.Core.List.{List, []}
use Prim.Native.Nat.{ℕ, ◌*◌, ◌/◌, ◌^◌, ◌≤◌, ◌<◌}
use native.Mathlib.Nat.{pow-le-pow_right}
use native.Mathlib.Omega.{arith}
use lib.ListN.{length, get_or}
use Rattle.lists.proofs.Members.{at_mem}
use Rattle.slots.specs.Segments.{Segments, height_of, segments_of}
use Rattle.slots.specs.Orders.{order_of, is_kept}
use Rattle.slots.specs.Shown.{Shows, CountsOf, Tallied}
use Rattle.slots.proofs.HeightLaws.{height-cases}
use Rattle.slots.proofs.Orders.{kept→}
use Rattle.slots.proofs.Render.{length-segments, sizes-segments, listed-segments, render-segments}
use Rattle.slots.proofs.Tables.{counts-front}
use Rattle.rules.specs.Cards.{gap_card}

-- whole segments, at most 64
pub lawful-length : (n : ℕ) → height_of n ≢ 0 → (n ≡ 64 * (n / 64)) × (n ≤ 4096)
lawful-length n h =
    elim (height-cases n) [
      | inl z ↦ absurd (h z.0)
      | inr z ↦ let p : 2 ^ height_of n ≤ 64 = pow-le-pow_right {n = 2} (omega arith) {i = height_of n} {j = 6} z.1 in (omega (arith, z.2), omega (arith, z.2))
    ]

module _ (slots counts : List ℕ) (kept : is_kept (order_of slots) ≡ true) where
  -- the counts are in their places
  pub counts-kept : (counts' : List ℕ) → Tallied slots counts counts' → CountsOf (segments_of slots) counts'
  counts-kept counts' t = counts-front (segments_of slots) counts' _ (t.places (rw kept tt))

  module _ (high : height_of (length slots) ≢ 0) (counts' : List ℕ) (t : Tallied slots counts counts') where
    whole : length slots ≡ 64 * (length slots / 64)
    whole = (lawful-length (length slots) high).0

    many : length (segments_of slots) ≡ length slots / 64
    many = length-segments slots (length slots / 64) whole

    pub gaps_asked : (cards : List ℕ) → length cards ≡ length slots → length counts ≡ 64
        → (length cards ≡ 64 * (length slots / 64)) × (length slots / 64 ≤ length counts') × ((k : ℕ) → k < length slots / 64 → get_or counts' k 0 ≤ 64)
    gaps_asked cards e l = (
      e ∙ whole,
      omega (arith, t.long, lawful-length (length slots) high),
      λ k h.
          let i : k < length (segments_of slots) = omega (arith, many) in
          omega (arith, counts-kept counts' t k i, sizes-segments slots (length slots / 64) whole (get_or (segments_of slots) k []) (at_mem (segments_of slots) k [] i)),
    )

    pub gaps-told : (cards : List ℕ) (r : Bool)
        → ((ss : Segments) (list : List ℕ) → Shows ss list → length ss ≡ length slots / 64 → CountsOf ss counts' → r ≡ gap_card list cards) → r ≡ gap_card slots cards
    gaps-told cards r tells = tells (segments_of slots) slots shows many (counts-kept counts' t)
      where
        shows : Shows (segments_of slots) slots
        shows =
            let k = kept→ slots (rw kept tt) in
            record {
              whole = sym (render-segments slots (length slots / 64) whole k.1);
              fits = sizes-segments slots (length slots / 64) whole;
              listed = listed-segments slots (length slots / 64) whole k.0;
            }
