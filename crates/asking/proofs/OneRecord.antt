-- A single insert or delete is what the check refuses, or what a run of its one record comes to.
use Rattle.std.proofs.Common.{Err, Ok}
use mathlib.Core.Path.{◌≡◌, refl, sym, ap, ap₂, ◌∙◌}
use mathlib.Core.Bool.{Bool, true, false, not, ◌&&◌}
use mathlib.Core.Logic.{◌≢◌}
use mathlib.Core.List.{List, [], ◌∷◌}
use Prim.Native.Nat.{ℕ, ◌≤◌}
use native.Mathlib.Decide.{dec_lt}
use native.Mathlib.Omega.{arith}
use lib.Dec.{ltb, leb, eqb}
use lib.ListN.{length}
use Rattle.lists.proofs.Tests.{either, eq→eqb}
use Rattle.slots.specs.Segments.{keys, height_of, render}
use Rattle.slots.specs.Keys.{member}
use Rattle.levels.specs.Tables.{table_of}
use Rattle.forecast.specs.declared.Forecast.{Forecast}
use Rattle.forecast.specs.Cells.{forecast_of}
use Rattle.forecast.specs.Tidy.{Roomy}
use Rattle.rules.specs.declared.Request.TheVariants.{Insert, Delete}
use Rattle.rules.specs.declared.Tally.{Tally}
use Rattle.rules.specs.Refusals.{verdict_number, Verdict}
use Rattle.rules.specs.Profiles.{profile_of}
use Rattle.rules.specs.Shares.{Shares, capacity, sparse_below}
use Rattle.rules.specs.Placing.{Room, Answer, Outcome, insert_key, delete_key, outcome}
use Rattle.rules.specs.Cards.{cards_beside, cards_after}
use Rattle.rules.specs.Lent.{Lent, cards_of}
use Rattle.rules.specs.Checks.{shares_of, check_both, check}
use Rattle.rules.specs.Calls.{room_of, Called, unchanged, request}
use Rattle.rules.specs.Runs.{asking, records_of}
use Rattle.demands.specs.Demand2.{AsRuled}
use Rattle.demands.proofs.Refusals.Told.{refusal-some}
use Rattle.demands.proofs.Sweeping.Settled.{keys-settled}
use Rattle.demands.proofs.Requests.Accepted.{settled-sparse, Deletes, delete-accepted, refused-is}
use Rattle.demands.proofs.Requests.Checked.{checked}
use Rattle.demands.proofs.Requests.MoveBound.{moves-bound}
use Rattle.demands.proofs.Requests.Tabled.{room-passes}
use Rattle.demands.proofs.Requests.SingleCalls.{lent_outcome, request-unchecked}
use Rattle.demands.proofs.Demand2.Ruled.{request_ruled}
use Rattle.records.specs.Asked.{asked, size_for, card_for}
use Rattle.records.proofs.Single.{SingleRun, single-run}
use Rattle.steps.specs.declared.Worked.{Worked}
use Rattle.tallies.specs.Counted.{is_accepted}
use Rattle.steps.specs.Works.{whole, Ends}
use Rattle.opening.specs.Opens.{Refuses, Opens}
use Rattle.asking.specs.declared.Reply.{Reply}
use Rattle.asking.specs.Requested.{TellsSparse, Requested}

-- SPARSE: an insert never tells it
abbrev Dense : Outcome → Type 0
Dense o = o.answer.sparse ≡ false

key-dense : (S : Shares) (y : ℕ) (R : Room) → Dense (insert_key S y R)
unfolding insert_key
key-dense S y R = settled-sparse S _ _ _ _ _ _

pub outcome-dense : (S : Shares) (y : ℕ) (R : Room) → (outcome S (Insert y) R).answer.sparse ≡ false
unfolding outcome
outcome-dense S y R =
    either Dense (eqb y 0) refl
    (either Dense (member y (keys R.segments)) refl (either Dense (leb (capacity S) (length (keys R.segments))) refl (key-dense S y R)))

-- a delete that is done tells it by the keys that it leaves
key-sparse : (S : Shares) (y : ℕ) (R : Room) → (delete_key S y R).answer.sparse ≡ ltb (length (keys (delete_key S y R).room.segments)) (sparse_below S)
unfolding delete_key
key-sparse S y R = settled-sparse S _ _ _ _ _ _ ∙ ap (λ (ks : List ℕ). ltb (length ks) (sparse_below S)) (sym (keys-settled S _ _ _ _ _ _))

abbrev left : Outcome → ℕ
left o = length (keys o.room.segments)

-- of either, with verdict v
sparse-is : (S : Shares) (b : Bool) (y : ℕ) (R : Room) (v : Verdict) → verdict_number v ≡ (outcome S (asked b y) R).answer.number
    → not b && is_accepted v && ltb (left (outcome S (asked b y) R)) (sparse_below S) ≡ (outcome S (asked b y) R).answer.sparse
sparse-is S true y R v e = sym (outcome-dense S y R)
sparse-is S false y R (Err x) e =
    sym (ap (λ (o : Outcome). o.answer.sparse) (refused-is S (Delete y) R (omega (arith, e, refusal-some x))))
sparse-is S false y R (Ok x) e =
    let d : Deletes S y R = delete-accepted S y R (eq→eqb _ 0 (sym e)) in
    rw d.is (sym (key-sparse S y R))

-- a verdict with some number
not-accepted : (v : Verdict) → verdict_number v ≢ 0 → is_accepted v ≡ false
not-accepted (Err x) n = refl
not-accepted (Ok x) n = absurd (n refl)

-- the reply to what was worked
abbrev reply_of : Worked → Bool → Reply
reply_of r s = record { forecast = r.forecast; verdict = r.last; moves = r.tally.moves; sparse = s }

-- a delete has no card to come with it
request-card : (profile : ℕ) (b : Bool) (y v : ℕ) (L : Lent) (F : Forecast) → request profile (asked b y) (card_for b v) L F ≡ request profile (asked b y) v L F
unfolding request
request-card profile true y v L F = refl
request-card profile false y v L F = refl

module _ (profile : ℕ) (b : Bool) (y v : ℕ) (L : Lent) (F : Forecast) (bytes : List ℕ) (allowance : ℕ) (r : Worked) (rest : Lent) (s : Bool)
    (t : TellsSparse profile b r.last r.keys (length L.slots) s) where
  -- WHAT THE CHECK REFUSES
  requested-refused : check profile L F ≢ 0 → Refuses profile L F r rest → Requested profile (asked b y) v L F (reply_of r s) rest
  requested-refused n w =
      let u : request profile (asked b y) v L F ≡ unchanged L F (check profile L F) = request-unchecked profile (asked b y) v L F n in
      let p : s ≡ false = t.refused (not-accepted r.last (λ z. n (sym w.last ∙ z))) in
      record {
        answer = ◌∙◌ {A = Answer} (λ i. record { number = w.last i; moves = (w.tally i).moves; sparse = p i }) (sym (ap (λ (d : Called). d.answer) u));
        forecast = w.forecast ∙ sym (ap (λ (d : Called). d.forecast) u);
        lent_left = w.lent_left ∙ sym (ap (λ (d : Called). d.lent) u);
      }

  -- WHAT IT PASSES: a run of one record, with any allowance from 4096 on
  module _ (one : records_of bytes ≡ asking (asked b y) (card_for b v) (size_for b) ∷ []) (big : 4096 ≤ allowance) (h : Roomy F) where
    module _ (e : check profile L F ≡ 0) (w : Ends profile L.slots (cards_of L) F bytes allowance r rest) where
      abbrev S : Shares
      S = shares_of profile L.slots

      abbrev o : Outcome
      o = lent_outcome profile (asked b y) L.slots F

      room : check_both profile L.slots F ≡ 0
      room = room-passes profile L F e

      small : o.answer.moves ≤ allowance
      small =
          let c = checked profile L.slots F room in
          omega (arith, moves-bound (profile_of profile) (height_of (length L.slots)) c.0 c.1 (asked b y) (room_of L.slots F) c.2)

      single : SingleRun S (asked b y) (card_for b v) (room_of L.slots F) (cards_of L) (whole profile L.slots (cards_of L) F bytes allowance)
      single = single-run S allowance bytes (room_of L.slots F) (cards_of L) b y (card_for b v) (size_for b) one small

      number : verdict_number r.last ≡ o.answer.number
      number = w.single (asking (asked b y) (card_for b v) (size_for b)) one single.stop

      sparse : s ≡ o.answer.sparse
      sparse =
          t.is (checked profile L.slots F room).0
          ∙ ap {B = Bool} (λ n. not b && is_accepted r.last && ltb n (sparse_below S)) (w.keys ∙ ap (λ (R : Room). length (keys R.segments)) single.room)
          ∙ sparse-is S b y (room_of L.slots F) r.last number

      abbrev c : Called
      c = request profile (asked b y) (card_for b v) L F

      a : AsRuled S (cards_after o (asked b y) (card_for b v) (cards_of L)) c o
      a = request_ruled profile (asked b y) (card_for b v) L F h e

      slots : rest.slots ≡ c.lent.slots
      slots = w.slots_left ∙ ap (λ (R : Room). render 0 R.segments) single.room ∙ sym a.slots

      cards : rest.cards ≡ c.lent.cards
      cards =
          w.cards_left
          ∙ ap₂ {C = List ℕ} cards_beside single.cards (w.slots_left ∙ ap (λ (R : Room). render 0 R.segments) single.room)
          ∙ sym a.cards

      table : rest.table ≡ c.lent.table
      table = w.table_left ∙ ap (λ (R : Room). table_of (height_of (length L.slots)) R.segments) single.room ∙ sym a.table

      requested-done : Requested profile (asked b y) v L F (reply_of r s) rest
      requested-done =
          let same : c ≡ request profile (asked b y) v L F = request-card profile b y v L F in
          record {
            answer = ◌∙◌ {A = Answer} (λ i. record { number = number i; moves = (ap (λ (t : Tally). t.moves) w.tally ∙ single.moves) i; sparse = sparse i })
                (sym a.answer ∙ ap (λ (d : Called). d.answer) same);
            forecast = w.forecast ∙ ap (λ (R : Room). forecast_of R.cells) single.room ∙ sym a.forecast ∙ ap (λ (d : Called). d.forecast) same;
            lent_left = ◌∙◌ {A = Lent} (λ i. record { slots = slots i; cards = cards i; table = table i }) (ap (λ (d : Called). d.lent) same);
          }

    -- EITHER
    pub requested : Opens profile L F bytes allowance r rest → Requested profile (asked b y) v L F (reply_of r s) rest
    requested o =
        elim (dec_lt 0 (check profile L F)) [
          | yes p ↦ (let n : check profile L F ≢ 0 = omega arith in requested-refused n (o.refused n))
          | no p ↦ (let c : check profile L F ≡ 0 = omega arith in requested-done c (o.ended c))
        ]
