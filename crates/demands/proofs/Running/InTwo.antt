-- A run over two stretches of bytes is the run over the first, then the run over the second from what that leaves.
use mathlib.Core.Path.{◌≡◌, sym, ap, ap₂, ◌∙◌}
use mathlib.Core.Logic.{inl, inr}
use mathlib.Core.List.{List, [], ◌∷◌, ◌++◌}
use Prim.Native.Nat.{ℕ, ◌+◌, ◌-◌, ◌^◌, ◌%◌, ◌≤◌, ◌<◌}
use native.Mathlib.Decide.{dec_le}
use native.Mathlib.Omega.{arith}
use lib.Dec.{T, ltb, ltb→lt, nltb→le}
use lib.ListN.{length}
use Rattle.lists.proofs.Tests.{tested}
use Rattle.slots.specs.Segments.{height_of, render}
use Rattle.forecast.specs.declared.Forecast.{Forecast}
use Rattle.forecast.specs.Cells.{forecast_of}
use Rattle.rules.specs.declared.Totals.{Totals}
use Rattle.rules.specs.Profiles.{is_profile, profile_of}
use Rattle.rules.specs.Shares.{Shares, shares}
use Rattle.rules.specs.Placing.{Room, Outcome, outcome}
use Rattle.rules.specs.Lent.{Lent, cards_of, laid}
use Rattle.rules.specs.Checks.{shares_of, check_both, check}
use Rattle.rules.specs.declared.Tally.{Tally}
use Rattle.rules.specs.declared.Record.{Record}
use Rattle.rules.specs.Runs.{records_of, is_bad, nothing, one, tallied, Ran, stopped, work, ran, added}
use Rattle.rules.specs.Calls.{room_of, Worked, worked, run}
use Rattle.demands.specs.Demand1.{in_two, RunInTwo}
use Rattle.demands.proofs.Running.Records.{records-append}
use Rattle.demands.proofs.Cards.Beside.{at-keys}
use Rattle.demands.proofs.Requests.StaysGood.{Good}
use Rattle.demands.proofs.Requests.Checked.{checked, checked-known, height-render, room-render}
use Rattle.demands.proofs.Requests.Tabled.{room-passes}
use Rattle.demands.proofs.Running.RequestsWorked.{room_next, cards_next, tally_next, work-end, work-bad, work-over, work-on}
use Rattle.demands.proofs.Running.Alike.{ran-alike, worked-alike}
use Rattle.demands.proofs.Running.Runs.{run_refused, run-checked, ran-works}
use Rattle.demands.proofs.Running.StopNumbers.{all-good}
use Rattle.demands.proofs.Running.Singly.{passes, good-ran}

-- what two tallies count together
abbrev pub plus : Tally → Tally → Tally
plus t u = record {
  worked = t.worked + u.worked;
  refused = t.refused + u.refused;
  moves = t.moves + u.moves;
  sweeps = t.sweeps + u.sweeps;
  place = t.place + u.place;
}

plus-nothing : (t : Tally) → plus t nothing ≡ t
plus-nothing t =
    let a : t.worked + 0 ≡ t.worked = omega arith in
    let b : t.refused + 0 ≡ t.refused = omega arith in
    let c : t.moves + 0 ≡ t.moves = omega arith in
    let d : t.sweeps + 0 ≡ t.sweeps = omega arith in
    let e : t.place + 0 ≡ t.place = omega arith in
    λ i. record { worked = a i; refused = b i; moves = c i; sweeps = d i; place = e i }

assoc : (x y z : ℕ) → x + y + z ≡ x + (y + z)
assoc x y z = omega arith

tallied-plus : (o : Outcome) (n : ℕ) (t u : Tally) → tallied o n (plus t u) ≡ plus t (tallied o n u)
tallied-plus o n t u = λ i. record {
  worked = assoc t.worked u.worked 1 i;
  refused = assoc t.refused u.refused (one (ltb 0 o.answer.number)) i;
  moves = assoc t.moves u.moves o.answer.moves i;
  sweeps = assoc t.sweeps u.sweeps (one o.swept) i;
  place = assoc t.place u.place n i;
}

-- a run that has counted t before
abbrev pub since : Tally → Ran → Ran
since t r = stopped r.stop r.room r.cards (plus t r.tally)

module _ (S : Shares) where
  -- records after records that are all worked
  append-step : (allowance : ℕ) (p : Record) (ps qs : List Record) (R : Room) (c : ℕ → ℕ) (t : Tally)
      → let on : List Record → Ran = λ rs. work S allowance rs (room_next S p R) (cards_next S p R c) (tally_next S p R t) in
      let w : Ran = work S allowance (p ∷ ps) R c t in
      ((on ps).stop ≡ 0 → on (ps ++ qs) ≡ work S allowance qs (on ps).room (on ps).cards (on ps).tally) → w.stop ≡ 0
      → work S allowance (p ∷ (ps ++ qs)) R c t ≡ work S allowance qs w.room w.cards w.tally
  append-step allowance p ps qs R c t ih z =
      elim (tested (is_bad p.request)) [
        | inl b ↦ absurd (omega (arith, z, ap (λ (r : Ran). r.stop) (work-bad S allowance p ps R c t b)))
        | inr g ↦
            elim (tested (ltb allowance (t.moves + (outcome S p.request R).answer.moves))) [
              | inl l ↦ absurd (omega (arith, z, ap (λ (r : Ran). r.stop) (work-over S allowance p ps R c t g (ltb→lt _ _ l))))
              | inr l ↦
                  let k : t.moves + (outcome S p.request R).answer.moves ≤ allowance = nltb→le _ _ l in
                  rw (work-on S allowance p (ps ++ qs) R c t g k, work-on S allowance p ps R c t g k)
                  (ih (sym (ap (λ (r : Ran). r.stop) (work-on S allowance p ps R c t g k)) ∙ z))
            ]
      ]

  pub work-append : (allowance : ℕ) (ps qs : List Record) (R : Room) (c : ℕ → ℕ) (t : Tally) → (work S allowance ps R c t).stop ≡ 0
      → let w : Ran = work S allowance ps R c t in
      work S allowance (ps ++ qs) R c t ≡ work S allowance qs w.room w.cards w.tally
  work-append allowance [] qs R c t z = rw (work-end S allowance R c t)
  work-append allowance (p ∷ ps) qs R c t z =
      append-step allowance p ps qs R c t (λ y. work-append allowance ps qs (room_next S p R) (cards_next S p R c) (tally_next S p R t) y) z

  -- counts made before a run, with their moves allowed for, are added to its own
  since-step : (left : ℕ) (q : Record) (qs : List Record) (R : Room) (c : ℕ → ℕ) (t u : Tally)
      → work S (t.moves + left) qs (room_next S q R) (cards_next S q R c) (plus t (tally_next S q R u)) ≡ since t (work S left qs (room_next S q R) (cards_next S q R c) (tally_next S q R u))
      → work S (t.moves + left) (q ∷ qs) R c (plus t u) ≡ since t (work S left (q ∷ qs) R c u)
  since-step left q qs R c t u ih =
      elim (tested (is_bad q.request)) [
        | inl b ↦ rw (work-bad S (t.moves + left) q qs R c (plus t u) b, work-bad S left q qs R c u b)
        | inr g ↦
            elim (tested (ltb left (u.moves + (outcome S q.request R).answer.moves))) [
              | inl l ↦
                  let h : left < u.moves + (outcome S q.request R).answer.moves = ltb→lt _ _ l in
                  rw (work-over S (t.moves + left) q qs R c (plus t u) g (omega arith), work-over S left q qs R c u g h)
              | inr l ↦
                  let h : u.moves + (outcome S q.request R).answer.moves ≤ left = nltb→le _ _ l in
                  work-on S (t.moves + left) q qs R c (plus t u) g (omega arith)
                  ∙ ap (λ (x : Tally). work S (t.moves + left) qs (room_next S q R) (cards_next S q R c) x) (tallied-plus (outcome S q.request R) q.size t u)
                  ∙ ih ∙ ap (since t) (sym (work-on S left q qs R c u g h))
            ]
      ]

  pub work-since : (left : ℕ) (qs : List Record) (R : Room) (c : ℕ → ℕ) (t u : Tally) → work S (t.moves + left) qs R c (plus t u) ≡ since t (work S left qs R c u)
  work-since left [] R c t u = rw (work-end S (t.moves + left) R c (plus t u), work-end S left R c u)
  work-since left (q ∷ qs) R c t u = since-step left q qs R c t u (work-since left qs (room_next S q R) (cards_next S q R c) t (tally_next S q R u))

  -- the run over first and rest, where the run over the first works all of it
  module _ (allowance : ℕ) (first rest : List ℕ) (R : Room) (c : ℕ → ℕ) (z : (ran S allowance first R c).stop ≡ 0) where
    abbrev r : Ran
    r = ran S allowance first R c

    allowed : r.tally.moves + (allowance - r.tally.moves) ≡ allowance
    allowed = omega (arith, (ran-works S allowance first R c).within)

    pub ran-in-two : ran S allowance (first ++ rest) R c ≡ since r.tally (ran S (allowance - r.tally.moves) rest r.room r.cards)
    unfolding ran
    ran-in-two =
        ap (λ (rs : List Record). work S allowance rs R c nothing) (records-append first rest (all-good S allowance first R c z))
        ∙ work-append allowance (records_of first) (records_of rest) R c nothing z
        ∙ ap₂ {C = Ran} (λ (n : ℕ) (t : Tally). work S n (records_of rest) r.room r.cards t) (sym allowed) (sym (plus-nothing r.tally))
        ∙ work-since (allowance - r.tally.moves) (records_of rest) r.room r.cards r.tally nothing

-- totals added to twice
added_twice : (T : Totals) (t u : Tally) → added T (plus t u) ≡ added (added T t) u
added_twice T t u = λ i. record {
  worked = twice T.worked t.worked u.worked i;
  refused = twice T.refused t.refused u.refused i;
  moved = twice T.moved t.moves u.moves i;
  sweeps = twice T.sweeps t.sweeps u.sweeps i;
}
  where
    twice : (x y z : ℕ) → (x + (y + z)) % 2 ^ 32 ≡ ((x + y) % 2 ^ 32 + z) % 2 ^ 32
    twice x y z = omega arith

worked-since : (T : Totals) (r s : Ran) → worked T (since r.tally s) ≡ in_two (worked T r) (worked (added T r.tally) s)
worked-since T r s = λ i. record {
  lent = laid s.cards (render 0 s.room.segments);
  forecast = forecast_of s.room.cells;
  totals = added_twice T r.tally s.tally i;
  reply = (worked T (since r.tally s)).reply;
}

-- a run from what a run leaves
module _ (profile : ℕ) (L : Lent) (F : Forecast) (first rest : List ℕ) (allowance : ℕ) (totals : Totals) (e : check profile L F ≡ 0) where
  abbrev slots : List ℕ
  slots = L.slots

  room : check_both profile slots F ≡ 0
  room = room-passes profile L F e

  abbrev S : Shares
  S = shares_of profile slots

  abbrev W : Ran
  W = ran (shares_of profile slots) allowance first (room_of slots F) (cards_of L)

  -- what it leaves
  abbrev left : Lent
  left = laid W.cards (render 0 W.room.segments)

  known : T (is_profile profile)
  known = checked-known profile slots F room

  lo : 1 ≤ height_of (length slots)
  lo = (checked profile slots F room).0

  hi : height_of (length slots) ≤ 6
  hi = (checked profile slots F room).1

  good : Good (shares_of profile slots) W.room
  good = good-ran profile L F first allowance totals e

  -- it goes on from the cards that it finds there, which are the keys' own
  again : (n : ℕ) → run profile left (forecast_of W.room.cells) rest n (added totals W.tally) ≡ worked (added totals W.tally) (ran S n rest W.room W.cards)
  again n =
      run-checked profile left (forecast_of W.room.cells) rest n (added totals W.tally) (passes profile known (height_of (length slots)) lo hi W.room good W.cards)
      ∙ ap₂ {C = Worked} (λ (h : ℕ) (X : Room). worked (added totals W.tally) (ran (shares (profile_of profile) h) n rest X (cards_of left)))
      (height-render profile known (height_of (length slots)) lo hi W.room good) (room-render profile known (height_of (length slots)) lo hi W.room good)
      ∙ worked-alike (added totals W.tally) (ran S n rest W.room (cards_of left)) (ran S n rest W.room W.cards)
      (ran-alike S n rest W.room good.proper (cards_of left) W.cards (at-keys W.cards W.room.segments good.proper.listed.live))

  both : W.stop ≡ 0 → worked totals (ran (shares_of profile slots) allowance (first ++ rest) (room_of slots F) (cards_of L))
      ≡ in_two (worked totals W) (run profile left (forecast_of W.room.cells) rest (allowance - W.tally.moves) (added totals W.tally))
  both z =
      ap (worked totals) (ran-in-two S allowance first rest (room_of slots F) (cards_of L) z)
      ∙ worked-since totals W (ran S (allowance - W.tally.moves) rest W.room W.cards)
      ∙ ap (in_two (worked totals W)) (sym (again (allowance - W.tally.moves)))

-- a run that ends with 0 has passed its check
has-passed : (profile : ℕ) (L : Lent) (F : Forecast) (bytes : List ℕ) (allowance : ℕ) (T : Totals) → (run profile L F bytes allowance T).reply.stop ≡ 0 → check profile L F ≡ 0
has-passed profile L F bytes allowance T z = go (dec_le (check profile L F) 0)
  where
    go : Dec (check profile L F ≤ 0) → check profile L F ≡ 0
    go (yes h) = omega arith
    go (no h) = sym (ap (λ (U : Worked). U.reply.stop) (run_refused profile L F bytes allowance T (λ e. absurd (omega arith)))) ∙ z

-- a run over first and rest, where the run over the first ends with 0
pub run_in_two : RunInTwo
run_in_two profile L F first rest allowance T z =
    let c : check profile L F ≡ 0 = has-passed profile L F first allowance T z in
    rw (run-checked profile L F (first ++ rest) allowance T c, run-checked profile L F first allowance T c)
    (both profile L F first rest allowance T c (sym (ap (λ (U : Worked). U.reply.stop) (run-checked profile L F first allowance T c)) ∙ z))
