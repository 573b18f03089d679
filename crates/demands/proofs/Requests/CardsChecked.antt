-- The cards, tested among the tests of the list: what passes has each key's card beside it and 0 beside each gap, and such cards pass.
use mathlib.Core.Path.{◌≡◌, refl, ap, ◌∙◌}
use mathlib.Core.Bool.{Bool, true, false, not}
use Prim.Native.Nat.{ℕ}
use native.Mathlib.Omega.{arith}
use lib.Dec.{T, ltb, eqb, eqb→eq}
use borrow.Author.Tests.{eq-eqb}
use lib.ListN.{length}
use Rattle.std.proofs.Common.{if◌then◌else◌}
use Rattle.slots.specs.Segments.{live, height_of}
use Rattle.slots.specs.Orders.{order_of, is_kept}
use Rattle.rules.specs.Profiles.{is_profile}
use Rattle.rules.specs.Shares.{capacity}
use Rattle.rules.specs.Cards.{cards_beside, gap_card}
use Rattle.rules.specs.Lent.{Lent, cards_of}
use Rattle.rules.specs.Checks.{shares_of, check_cards, check_list}
use Rattle.demands.proofs.Cards.Beside.{beside-length, beside-no-gap}
use Rattle.demands.proofs.Cards.Own.{beside-own}
use Rattle.demands.proofs.Requests.Checked.{passed}

module _ (profile : ℕ) (L : Lent) where
  -- what passes: the list, and the two tests of the cards
  pub cards-tested : check_cards profile L ≡ 0 → (check_list profile L.slots ≡ 0) × (length L.cards ≡ length L.slots) × (gap_card L.slots L.cards ≡ false)
  unfolding check_cards check_list
  cards-tested e =
      go (is_profile profile) (eqb (height_of (length L.slots)) 0) (eqb (length L.cards) (length L.slots)) (eqb→eq _ _) (is_kept (order_of L.slots))
      (gap_card L.slots L.cards) (ltb (capacity (shares_of profile L.slots)) (length (live L.slots))) e
    where
      go : (n a l : Bool) → (T l → length L.cards ≡ length L.slots) → (b g c : Bool)
          → ◌≡◌ {A = ℕ} (if not n then 15 else if a then 1 else if not l then 12 else if not b then 2 else if g then 13 else if c then 3 else 0) 0
          → (◌≡◌ {A = ℕ} (if not n then 15 else if a then 1 else if not b then 2 else if c then 3 else 0) 0) × (length L.cards ≡ length L.slots) × (g ≡ false)
      go false a l p b g c e = absurd (omega arith)
      go true true l p b g c e = absurd (omega arith)
      go true false false p b g c e = absurd (omega arith)
      go true false true p false g c e = absurd (omega arith)
      go true false true p true true c e = absurd (omega arith)
      go true false true p true false true e = absurd (omega arith)
      go true false true p true false false e = (refl, p tt, refl)

  pub tested-passes : check_list profile L.slots ≡ 0 → length L.cards ≡ length L.slots → gap_card L.slots L.cards ≡ false → check_cards profile L ≡ 0
  unfolding check_cards check_list
  tested-passes e l g = rw (eq-eqb (length L.cards) (length L.slots) l, g) e

  -- so each card is its key's
  pub cards-passed : check_cards profile L ≡ 0 → (check_list profile L.slots ≡ 0) × (L.cards ≡ cards_beside (cards_of L) L.slots)
  cards-passed e =
      let t = cards-tested e in
      (t.0, beside-own L.slots L.cards (passed profile L.slots t.0).ordered t.1 t.2)

  -- and cards that stand beside the slots pass, whatever the keys' cards are
  pub cards-pass : (c : ℕ → ℕ) → check_list profile L.slots ≡ 0 → L.cards ≡ cards_beside c L.slots → check_cards profile L ≡ 0
  cards-pass c e b = tested-passes e (ap length b ∙ beside-length c L.slots) (ap (gap_card L.slots) b ∙ beside-no-gap c L.slots)
