-- A run is its single requests one after the other, keeps a list valid, and stops as the rows tell.
use mathlib.Core.Path.{◌≡◌, refl, sym, ap, ap₂, ◌∙◌}
use mathlib.Core.Bool.{Bool, true, false, not}
use mathlib.Core.List.{List, [], ◌∷◌}
use Prim.Native.Nat.{ℕ, ◌+◌, ◌≤◌}
use lib.Dec.{T, ltb, eqb}
use lib.ListN.{length, take}
use Rattle.std.proofs.Common.{if◌then◌else◌}
use Rattle.lists.proofs.Tests.{neqb→ne}
use Rattle.slots.specs.Segments.{height_of, segments_of, render}
use Rattle.forecast.specs.declared.Forecast.{Forecast}
use Rattle.forecast.specs.Cells.{forecast_of}
use Rattle.rules.specs.declared.Request.{Request}
use Rattle.rules.specs.declared.Totals.{Totals}
use Rattle.rules.specs.Profiles.{is_profile, profile_of}
use Rattle.rules.specs.Shares.{Shares, shares}
use Rattle.rules.specs.Placing.{Room, Outcome, outcome}
use Rattle.rules.specs.Cards.{carded, cards_after}
use Rattle.rules.specs.Lent.{Lent, cards_of, laid}
use Rattle.rules.specs.Checks.{shares_of, check_both, check}
use Rattle.rules.specs.declared.Tally.{Tally}
use Rattle.rules.specs.declared.Record.{Record}
use Rattle.rules.specs.Runs.{records_of, nothing, one, Ran, ran, added}
use Rattle.rules.specs.Calls.{room_of, Called, unchanged, changed, request, Worked, worked}
use Rattle.demands.specs.Rows.{Tells, row9, row10}
use Rattle.forecast.specs.Tidy.{Roomy}
use Rattle.rules.specs.Readings.{Proper}
use Rattle.demands.specs.History.{accepted}
use Rattle.demands.specs.Demand1.{Series, next, singly, begin, counted, Equals, RunTells, RunIsSingly, RunKeeps}
use Rattle.demands.proofs.Cards.Beside.{at-keys}
use Rattle.rules.proofs.Sharing.Table.{lawful}
use Rattle.demands.proofs.Requests.Accepted.{refused-is}
use Rattle.demands.proofs.Requests.Moved.{proper-next}
use Rattle.demands.proofs.Requests.CardsKept.{agree-carded}
use Rattle.demands.proofs.Requests.StaysGood.{Good, good-next}
use Rattle.demands.proofs.Requests.Checked.{checked, checked-known, slots-shown, forecast-shown, height-render, room-render, check-render}
use Rattle.demands.proofs.Requests.Tabled.{room-passes, lent_laid, laid-passes}
use Rattle.demands.proofs.Running.RequestsWorked.{room_next, cards_next, tally_next, after, cards_left, tallies, Works}
use Rattle.demands.proofs.Running.Alike.{laid-alike}
use Rattle.demands.proofs.Running.Runs.{run-checked, ran-works, done, length-done, done-worked, done-place}
use Rattle.demands.proofs.Running.StopNumbers.{ran-tells, ran_ends}

-- Slots, cards, table and forecast that show a room, c the card of each key, with what a series of requests has counted.
abbrev series_of : Room → (ℕ → ℕ) → Tally → Series
series_of R c t = record {
  lent = laid c (render 0 R.segments);
  forecast = forecast_of R.cells;
  refused = t.refused;
  moves = t.moves;
  sweeps = t.sweeps;
}

-- A single call on what is lent, by the number n that its check gives, the cards of the keys once it is accepted and what the rules make of it.
abbrev called : Lent → Forecast → (ℕ → ℕ) → ℕ → Outcome → Called
called L F c n o =
    if not (eqb n 0) then unchanged L F n
    else if not (eqb o.answer.number 0) then unchanged L F o.answer.number
    else changed c o

-- where that shows R and passes, it leaves what the rules say, refused or not
called_is : (S : Shares) (q : Request) (v : ℕ) (R : Room) (c : ℕ → ℕ) → Proper S R.segments
    → called (laid c (render 0 R.segments)) (forecast_of R.cells) (carded q v (cards_of (laid c (render 0 R.segments)))) 0 (outcome S q R)
    ≡ changed (cards_after (outcome S q R) q v c) (outcome S q R)
called_is S q v R c K = go (accepted S q R) refl
  where
    L : Lent
    L = laid c (render 0 R.segments)

    o : Outcome
    o = outcome S q R

    go : (b : Bool) → accepted S q R ≡ b
        → (if not b then unchanged L (forecast_of R.cells) o.answer.number else changed (carded q v (cards_of L)) o) ≡ changed (if b then carded q v c else c) o
    go true e =
        ap (λ (l : Lent). record { lent = l; forecast = forecast_of o.room.cells; answer = o.answer })
        (laid-alike o.room.segments (proper-next S q R K).listed.live (carded q v (cards_of L)) (carded q v c)
        (agree-carded S R K v (cards_of L) c (at-keys c R.segments K.listed.live) q (rw e tt)))
    go false e = sym (ap (changed c) (refused-is S q R (neqb→ne o.answer.number 0 (rw e tt))))

module _ (profile : ℕ) (known : T (is_profile profile)) (h : ℕ) (lo : 1 ≤ h) (hi : h ≤ 6) where
  abbrev S : Shares
  S = shares (profile_of profile) h

  good-after : (rs : List Record) (R : Room) → Good S R → Good S (after S rs R)
  good-after [] R g = g
  good-after (r ∷ rs) R g = good-after rs (room_next S r R) (good-next S (lawful (profile_of profile) h lo hi) r.request R g)

  -- what shows a good room passes the check, whatever the cards of its keys
  pub passes : (R : Room) → Good S R → (c : ℕ → ℕ) → check profile (laid c (render 0 R.segments)) (forecast_of R.cells) ≡ 0
  passes R g c = laid-passes profile c (render 0 R.segments) (forecast_of R.cells) (check-render profile known h lo hi R g)

  module _ (R : Room) (g : Good S R) (c : ℕ → ℕ) where
    abbrev lent : Lent
    lent = laid c (render 0 R.segments)

    abbrev forecast : Forecast
    forecast = forecast_of R.cells

    -- what a request finds in slots, cards, table and forecast that show R
    found : (q : Request) → outcome (shares_of profile lent.slots) q (room_of lent.slots forecast) ≡ outcome S q R
    found q = ap₂ {C = Outcome} (λ (k : ℕ) (X : Room). outcome (shares (profile_of profile) k) q X) (height-render profile known h lo hi R g) (room-render profile known h lo hi R g)

    -- a single call does what the rules say
    pub request-is : (q : Request) (v : ℕ) → request profile q v lent forecast ≡ changed (cards_after (outcome S q R) q v c) (outcome S q R)
    unfolding request
    request-is q v = ap₂ (called lent forecast (carded q v (cards_of lent))) (passes R g c) (found q) ∙ called_is S q v R c g.proper

    next-is : (r : Record) (t : Tally) → next profile r (series_of R c t) ≡ series_of (room_next S r R) (cards_next S r R c) (tally_next S r R t)
    next-is r t = λ i. record {
      lent = (request-is r.request r.card i).lent;
      forecast = (request-is r.request r.card i).forecast;
      refused = t.refused + one (ltb 0 (request-is r.request r.card i).answer.number);
      moves = t.moves + (request-is r.request r.card i).answer.moves;
      sweeps = t.sweeps + one (found r.request i).swept;
    }

  singly-is : (rs : List Record) (R : Room) (c : ℕ → ℕ) (t : Tally) → Good S R
      → singly profile rs (series_of R c t) ≡ series_of (after S rs R) (cards_left S rs R c) (tallies S rs R t)
  singly-is [] R c t g = refl
  singly-is (r ∷ rs) R c t g =
      ap {B = Series} (λ s. singly profile rs s) (next-is R g c r t)
      ∙ singly-is rs (room_next S r R) (cards_next S r R c) (tally_next S r R t) (good-next S (lawful (profile_of profile) h lo hi) r.request R g)

-- what passes is what shows its room
pub lent-shown : (profile : ℕ) (L : Lent) (F : Forecast) → check profile L F ≡ 0 → laid (cards_of L) (render 0 (segments_of L.slots)) ≡ L
lent-shown profile L F e = ap (laid (cards_of L)) (slots-shown profile L.slots F (room-passes profile L F e)) ∙ sym (lent_laid profile L F e)

module _ (profile : ℕ) (L : Lent) (F : Forecast) (bytes : List ℕ) (allowance : ℕ) (totals : Totals) (e : check profile L F ≡ 0) where
  abbrev slots : List ℕ
  slots = L.slots

  both : check_both profile slots F ≡ 0
  both = room-passes profile L F e

  abbrev h : ℕ
  h = height_of (length slots)

  abbrev R : Room
  R = room_of slots F

  abbrev r : Ran
  r = ran (shares_of profile slots) allowance bytes R (cards_of L)

  -- that it works the records
  abbrev w : Works (shares_of profile slots) allowance (records_of bytes) R (cards_of L) nothing r
  w = ran-works (shares_of profile slots) allowance bytes R (cards_of L)

  -- the records that it works
  abbrev ds : List Record
  ds = take (done (shares_of profile slots) allowance bytes R (cards_of L)) (records_of bytes)

  known : T (is_profile profile)
  known = checked-known profile slots F both

  lo : 1 ≤ h
  lo = (checked profile slots F both).0

  hi : h ≤ 6
  hi = (checked profile slots F both).1

  pub good-ran : Good (shares_of profile slots) r.room
  good-ran = rw w.room (good-after profile known h lo hi ds R (checked profile slots F both).2)

  keeps : check profile (worked totals r).lent (worked totals r).forecast ≡ 0
  keeps = passes profile known h lo hi r.room good-ran r.cards

  tells : Tells (row9 bytes r.tally.place ∷ row10 profile bytes allowance (worked totals r) ∷ []) r.stop
  tells =
      ran-tells (shares_of profile slots) allowance bytes R (cards_of L) profile totals
      (λ q v. ap (λ (d : Called). d.answer.moves) (request-is profile known h lo hi r.room good-ran r.cards q v))

  series : Roomy F → singly profile ds (begin L F) ≡ series_of r.room r.cards r.tally
  series f =
      ap {B = Series} (λ s. singly profile ds s) start ∙ singly-is profile known h lo hi ds R (cards_of L) nothing (checked profile slots F both).2
      ∙ sym (λ i. series_of (w.room i) (w.cards i) (w.tally i))
    where
      start : begin L F ≡ series_of R (cards_of L) nothing
      start = λ i. record {
        lent = sym (lent-shown profile L F e) i;
        forecast = sym (forecast-shown profile slots F both f) i;
        refused = 0;
        moves = 0;
        sweeps = 0;
      }

  number : length ds ≡ r.tally.worked
  number = length-done (shares_of profile slots) allowance bytes R (cards_of L) ∙ sym (done-worked (shares_of profile slots) allowance bytes R (cards_of L))

  numbers : r.tally ≡ counted ds (series_of r.room r.cards r.tally)
  numbers = λ i. record {
    worked = sym number i;
    refused = r.tally.refused;
    moves = r.tally.moves;
    sweeps = r.tally.sweeps;
    place = done-place (shares_of profile slots) allowance bytes R (cards_of L) i;
  }

  equals : Equals totals ds (series_of r.room r.cards r.tally) (worked totals r)
  equals = record {
    good = w.good;
    lent = refl;
    forecast = refl;
    tally = numbers;
    totals = ap (added totals) numbers;
  }

-- a run keeps a valid list valid
pub run_keeps : RunKeeps
run_keeps profile L F bytes allowance T e = rw (run-checked profile L F bytes allowance T e) (keeps profile L F bytes allowance T e)

-- the stop number is as the rows tell, and the moves are within the allowance
pub run_tells : RunTells
run_tells profile L F bytes allowance T e =
    let S : Shares = shares_of profile L.slots in
    let R : Room = room_of L.slots F in
    rw (run-checked profile L F bytes allowance T e)
    (tells profile L F bytes allowance T e, ran_ends S allowance bytes R (cards_of L), (ran-works S allowance bytes R (cards_of L)).within)

-- a run does what its records do singly
pub run_is_singly : RunIsSingly
run_is_singly profile L F bytes allowance T f e rs is =
    let S : Shares = shares_of profile L.slots in
    let R : Room = room_of L.slots F in
    let d : rs ≡ take (done S allowance bytes R (cards_of L)) (records_of bytes) =
    is ∙ ap (λ (W : Worked). take W.reply.tally.worked (records_of bytes)) (run-checked profile L F bytes allowance T e)
    ∙ ap (λ (n : ℕ). take n (records_of bytes)) (done-worked S allowance bytes R (cards_of L)) in
    rw (run-checked profile L F bytes allowance T e, d, series profile L F bytes allowance T e f) (equals profile L F bytes allowance T e)
