-- A single call on what is lent: what it is where the check passes, and that what is valid stays valid.
use mathlib.Core.Path.{◌≡◌, refl, sym, ap, ◌∙◌}
use mathlib.Core.Bool.{Bool, true, false, not}
use mathlib.Core.Logic.{◌≢◌}
use mathlib.Core.List.{List}
use Prim.Native.Nat.{ℕ}
use lib.Dec.{T, eqb, eqb→eq}
use borrow.Author.Tests.{eq-eqb, ne_eqb}
use lib.ListN.{length}
use Rattle.lists.proofs.Tests.{neqb→ne}
use Rattle.slots.specs.Segments.{height_of, render}
use Rattle.forecast.specs.declared.Forecast.{Forecast}
use Rattle.forecast.specs.Cells.{forecast_of}
use Rattle.rules.specs.declared.Request.{Request}
use Rattle.rules.specs.Profiles.{profile_of}
use Rattle.rules.specs.Placing.{Outcome, outcome}
use Rattle.rules.specs.Cards.{carded}
use Rattle.rules.specs.Lent.{Lent, cards_of}
use Rattle.rules.specs.Checks.{shares_of, check_both, check}
use Rattle.rules.specs.Calls.{room_of, Called, request, unchanged, changed}
use Rattle.demands.specs.Demand1.{RequestKeeps}
use Rattle.rules.proofs.Sharing.Table.{lawful}
use Rattle.demands.proofs.Requests.Accepted.{refused-is}
use Rattle.demands.proofs.Requests.StaysGood.{Good, good-next}
use Rattle.demands.proofs.Requests.Checked.{passed, list-passes, checked, checked-known, check-render, length-good}
use Rattle.demands.proofs.Requests.Tabled.{room-passes, laid-passes}

-- the outcome that the rules give for what slots and forecast show
module _ (profile : ℕ) (q : Request) (slots : List ℕ) (F : Forecast) where
  abbrev pub lent_outcome : Outcome
  lent_outcome = outcome (shares_of profile slots) q (room_of slots F)

  -- VALID STAYS VALID
  pub good-lent : check_both profile slots F ≡ 0 → Good (shares_of profile slots) lent_outcome.room
  good-lent e =
      good-next (shares_of profile slots) (lawful (profile_of profile) (height_of (length slots)) (checked profile slots F e).0 (checked profile slots F e).1) q (room_of slots F) (checked profile slots F e).2

  -- whatever the cards of the keys
  pub changed-keeps : (c : ℕ → ℕ) → check_both profile slots F ≡ 0
      → (check profile (changed c lent_outcome).lent (changed c lent_outcome).forecast ≡ 0) × (length (changed c lent_outcome).lent.slots ≡ length slots)
  changed-keeps c e = (
    laid-passes profile c (render 0 lent_outcome.room.segments) (forecast_of lent_outcome.room.cells)
        (check-render profile (checked-known profile slots F e) (height_of (length slots)) (checked profile slots F e).0 (checked profile slots F e).1 lent_outcome.room (good-lent e)),
    length-good profile (checked-known profile slots F e) (height_of (length slots)) (checked profile slots F e).0 (checked profile slots F e).1 lent_outcome.room (good-lent e) ∙ sym (passed profile slots (list-passes profile slots F e)).number,
  )

-- v is the card that comes with the request
module _ (profile : ℕ) (q : Request) (v : ℕ) (L : Lent) (F : Forecast) where
  abbrev o : Outcome
  o = lent_outcome profile q L.slots F

  pub request-unchecked : check profile L F ≢ 0 → request profile q v L F ≡ unchanged L F (check profile L F)
  unfolding request
  request-unchecked n = rw (ne_eqb (check profile L F) 0 n)

  pub lent-refused : check profile L F ≡ 0 → o.answer.number ≢ 0 → request profile q v L F ≡ unchanged L F o.answer.number
  unfolding request
  lent-refused e n = rw (eq-eqb (check profile L F) 0 e, ne_eqb o.answer.number 0 n)

  pub lent-accepted : check profile L F ≡ 0 → o.answer.number ≡ 0 → request profile q v L F ≡ changed (carded q v (cards_of L)) o
  unfolding request
  lent-accepted e n = rw (eq-eqb (check profile L F) 0 e, eq-eqb o.answer.number 0 n)

  -- accepted or not
  pub by_number : (P : Type 0) → (o.answer.number ≡ 0 → P) → (o.answer.number ≢ 0 → P) → P
  by_number P y n = go (eqb o.answer.number 0) (eqb→eq _ _) (neqb→ne _ _)
    where
      go : (b : Bool) → (T b → o.answer.number ≡ 0) → (T (not b) → o.answer.number ≢ 0) → P
      go true p q = y (p tt)
      go false p q = n (q tt)

  -- the answer is the rules'
  pub request-answer : check profile L F ≡ 0 → (request profile q v L F).answer ≡ o.answer
  request-answer e =
      by_number ((request profile q v L F).answer ≡ o.answer) (λ n. ap (λ (c : Called). c.answer) (lent-accepted e n))
      (λ n. ap (λ (c : Called). c.answer) (lent-refused e n) ∙ sym (ap (λ (p : Outcome). p.answer) (refused-is (shares_of profile L.slots) q (room_of L.slots F) n)))

pub request_keeps : RequestKeeps
request_keeps profile q v L F e =
    by_number profile q v L F ((check profile (request profile q v L F).lent (request profile q v L F).forecast ≡ 0) × (length (request profile q v L F).lent.slots ≡ length L.slots))
    (λ n. rw (lent-accepted profile q v L F e n) (changed-keeps profile q L.slots F (carded q v (cards_of L)) (room-passes profile L F e)))
    (λ n. rw (lent-refused profile q v L F e n) (e, refl))
