-- Runs from cards that agree on the keys of the list: they count the same, leave the same list, and leave cards that agree on its keys.
use mathlib.Core.Path.{◌≡◌, refl, ap, ◌∙◌}
use mathlib.Core.Logic.{inl, inr}
use mathlib.Core.List.{List, [], ◌∷◌}
use Prim.Native.Nat.{ℕ, ◌+◌, ◌≤◌, ◌<◌}
use lib.Dec.{ltb, ltb→lt, nltb→le}
use Rattle.lists.specs.Lists.{All}
use Rattle.lists.proofs.Tests.{tested}
use Rattle.slots.specs.Segments.{Segments, keys, render}
use Rattle.forecast.specs.Cells.{forecast_of}
use Rattle.rules.specs.declared.Tally.{Tally}
use Rattle.rules.specs.declared.Totals.{Totals}
use Rattle.rules.specs.Shares.{Shares}
use Rattle.rules.specs.Placing.{Room, outcome}
use Rattle.rules.specs.Lent.{lend, right_table, laid}
use Rattle.rules.specs.declared.Record.{Record}
use Rattle.rules.specs.Runs.{is_bad, records_of, nothing, Ran, stopped, work, ran, added}
use Rattle.rules.specs.Calls.{worked}
use Rattle.rules.specs.Readings.{Proper}
use Rattle.demands.proofs.Cards.Beside.{beside-keys}
use Rattle.demands.proofs.Requests.Moved.{proper-next}
use Rattle.demands.proofs.Requests.CardsKept.{Agree, agree_after}
use Rattle.demands.proofs.Running.RequestsWorked.{room_next, cards_next, tally_next, work-end, work-bad, work-over, work-on}

pub record Alike (r s : Ran) : Type 0 where
  pub room : r.room ≡ s.room
  pub live : All (λ k. 0 < k) (keys r.room.segments)
  pub cards : Agree r.cards s.cards r.room.segments
  pub tally : r.tally ≡ s.tally
  pub stop : r.stop ≡ s.stop

module _ (S : Shares) (allowance : ℕ) where
  -- stopped at once
  same : (n : ℕ) (R : Room) → Proper S R.segments → (c d : ℕ → ℕ) → Agree c d R.segments → (t : Tally) → Alike (stopped n R c t) (stopped n R d t)
  same n R K c d a t = record { room = refl; live = K.listed.live; cards = a; tally = refl; stop = refl }

  pub work-alike : (rs : List Record) (R : Room) → Proper S R.segments → (c d : ℕ → ℕ) → Agree c d R.segments → (t : Tally)
      → Alike (work S allowance rs R c t) (work S allowance rs R d t)
  work-alike [] R K c d a t = rw (work-end S allowance R c t, work-end S allowance R d t) (same 0 R K c d a t)
  work-alike (r ∷ rs) R K c d a t =
      elim (tested (is_bad r.request)) [
        | inl b ↦ rw (work-bad S allowance r rs R c t b, work-bad S allowance r rs R d t b) (same 9 R K c d a t)
        | inr g ↦
            elim (tested (ltb allowance (t.moves + (outcome S r.request R).answer.moves))) [
              | inl l ↦
                  let h : allowance < t.moves + (outcome S r.request R).answer.moves = ltb→lt _ _ l in
                  rw (work-over S allowance r rs R c t g h, work-over S allowance r rs R d t g h) (same 10 R K c d a t)
              | inr l ↦
                  let h : t.moves + (outcome S r.request R).answer.moves ≤ allowance = nltb→le _ _ l in
                  rw (work-on S allowance r rs R c t g h, work-on S allowance r rs R d t g h)
                  (work-alike rs (room_next S r R) (proper-next S r.request R K) (cards_next S r R c) (cards_next S r R d)
                  (agree_after S R K r.card c d a r.request) (tally_next S r R t))
            ]
      ]

  pub ran-alike : (bytes : List ℕ) (R : Room) → Proper S R.segments → (c d : ℕ → ℕ) → Agree c d R.segments → Alike (ran S allowance bytes R c) (ran S allowance bytes R d)
  unfolding ran
  ran-alike bytes R K c d a = work-alike (records_of bytes) R K c d a nothing

-- the same list with cards that agree is the same
pub laid-alike : (ss : Segments) → All (λ k. 0 < k) (keys ss) → (c d : ℕ → ℕ) → Agree c d ss → laid c (render 0 ss) ≡ laid d (render 0 ss)
laid-alike ss g c d a = ap (λ (l : List ℕ). lend (render 0 ss) l (right_table (render 0 ss))) (beside-keys c d ss g a)

-- so what is told and left is the same
pub worked-alike : (T : Totals) (r s : Ran) → Alike r s → worked T r ≡ worked T s
worked-alike T r s a = λ i. record {
  lent = (laid-alike r.room.segments a.live r.cards s.cards a.cards ∙ ap (λ (R : Room). laid s.cards (render 0 R.segments)) a.room) i;
  forecast = forecast_of (a.room i).cells;
  totals = added T (a.tally i);
  reply = record { tally = a.tally i; stop = a.stop i };
}
