-- The work of a run in the middle of its records: what has been counted keeps within bounds, and the whole run of the rules is the work that
-- is left.
use Rattle.std.proofs.Common.{Result, Err, Ok}
use mathlib.Core.Path.{◌≡◌, refl, sym, ap, ap₂, ◌∙◌, subst}
use mathlib.Core.Bool.{Bool, true, false, not}
use mathlib.Core.Logic.{inl, inr}
use mathlib.Core.List.{List, [], ◌∷◌}
use Prim.Native.Nat.{ℕ, ◌+◌, ◌-◌, ◌≤◌, ◌<◌, ◌^◌}
use native.Mathlib.Decide.{dec_le, dec_lt}
use native.Mathlib.Omega.{arith}
use lib.Dec.{T, ltb}
use lib.ListN.{length, drop, get_or, length-drop, drop_of_length-le}
use Rattle.lists.proofs.Tests.{tested}
use Rattle.slots.specs.Segments.{keys, segments_of, render}
use Rattle.levels.specs.Tables.{table_of}
use Rattle.forecast.specs.declared.Forecast.{Forecast}
use Rattle.forecast.specs.Cells.{used_cells, forecast_of}
use Rattle.forecast.specs.Tidy.{Roomy}
use Rattle.rules.specs.declared.Refusal.{Refusal}
use Rattle.rules.specs.declared.Refusal.TheVariants.{AllowancePassed}
use Rattle.rules.specs.declared.Request.{Request}
use Rattle.rules.specs.declared.Request.TheVariants.{Bad}
use Rattle.rules.specs.declared.Record.{Record}
use Rattle.rules.specs.declared.Tally.{Tally}
use Rattle.rules.specs.Refusals.{verdict_number, Verdict}
use Rattle.rules.specs.Shares.{Shares, shares}
use Rattle.rules.specs.Placing.{Room, Outcome, outcome}
use Rattle.rules.specs.Profiles.{number_of}
use Rattle.rules.specs.Checks.{shares_of}
use Rattle.rules.proofs.Sharing.Profiles.{profile-named}
use Rattle.rules.specs.Calls.{room_of}
use Rattle.rules.specs.Cards.{card_at, cards_beside, cards_after}
use Rattle.rules.specs.Lent as given
use Rattle.rules.specs.Runs.{asking, record_of, is_bad, records_of, nothing, one, Ran, stopped, ran, work, tallied}
use Rattle.demands.proofs.Running.Records.{records-nil, records-from, single-record}
use Rattle.demands.proofs.Running.RecordBytes.{size-some, size_fits}
use Rattle.demands.proofs.Running.BadRecords.{not-bad}
use Rattle.demands.proofs.Running.RequestsWorked.{work-end, work-bad, work-over, work-on}
use Rattle.demands.proofs.Requests.Checked.{slots-shown, forecast-shown}
use Rattle.shares.specs.declared.Shape.{Shape}
use Rattle.shares.specs.Rows.{shares_at}
use Rattle.seats.specs.Bounds.{Indexed}
use Rattle.aims.specs.declared.Aim.{Aim}
use Rattle.aims.specs.Aims.{Stands, Aimed}
use Rattle.aims.proofs.Standing.{keys-stand, right-stands}
use Rattle.steps.specs.declared.Worked.{Worked}
use Rattle.tallies.specs.Counted.{is_stop, is_accepted, is_swept, comes_to, verdict_of, moves_of, next_of, keys_of}
use Rattle.tallies.proofs.Verdicts.{told, stop-high, on-good, comes-over, comes-within, aimed-number, aimed-moves}
use Rattle.steps.specs.Works.{Turning, Turned, whole, Ends}
use Rattle.steps.proofs.TurnOf.{low, bad-is, swept-turn}

-- what is lent at the start
pub record Lent : Type 0 where
  pub slots : List ℕ
  pub cards : List ℕ
  pub forecast : Forecast
  pub bytes : List ℕ
  pub allowance : ℕ
  pub shape : Shape

-- where the work has come to
pub record Now : Type 0 where
  pub slots : List ℕ
  pub cards : List ℕ
  pub forecast : Forecast
  pub bounds : List ℕ
  pub table : List ℕ
  pub keys : ℕ
  pub last : Verdict
  pub tally : Tally

-- the number of its profile
abbrev number : Lent → ℕ
number L = number_of L.shape.profile

abbrev all : Lent → Ran
all L = whole (number L) L.slots (card_at L.slots L.cards) L.forecast L.bytes L.allowance

abbrev of : Lent → Shares
of L = shares_at L.shape

abbrev room : Now → Room
room N = room_of N.slots N.forecast

-- the last verdict is that of a single record
abbrev LastOf : Lent → Verdict → Type 0
LastOf L last = (a : Record) → records_of L.bytes ≡ a ∷ []
    → verdict_number last ≡ (outcome (shares_of (number L) L.slots) a.request (room_of L.slots L.forecast)).answer.number

-- the bytes of the first record
abbrev head : Lent → ℕ
head L = (record_of L.bytes).size

pub record Going (L : Lent) (N : Now) : Type 0 where
  pub stands : Stands N.slots N.forecast L.shape N.keys
  pub shown : forecast_of (used_cells N.forecast) ≡ N.forecast
  pub index : Indexed (segments_of N.slots) N.slots N.bounds N.table
  pub shares-lent : shares_of (number L) L.slots ≡ of L
  pub worked : N.tally.worked ≤ N.tally.place
  pub refused : N.tally.refused ≤ N.tally.worked
  pub sweeps : N.tally.sweeps ≤ N.tally.worked
  pub moves : N.tally.moves ≤ L.allowance
  -- the card of each key
  pub own : ℕ → ℕ
  pub beside : N.cards ≡ cards_beside own N.slots
  pub rest : all L ≡ work (of L) L.allowance (records_of (drop N.tally.place L.bytes)) (room N) own N.tally
  pub first : N.tally.place < head L → (N.tally.place ≡ 0) × (room N ≡ room_of L.slots L.forecast)
  pub single : head L ≤ N.tally.place → LastOf L N.last

-- it begins so
module _ (L : Lent) where
  abbrev start : List ℕ → List ℕ → ℕ → Verdict → Now
  start bounds table n last = record {
    slots = L.slots;
    cards = L.cards;
    forecast = L.forecast;
    bounds = bounds;
    table = table;
    keys = n;
    last = last;
    tally = nothing;
  }

  pub going_start : (bounds table : List ℕ) (n : ℕ) (last : Verdict) → Stands L.slots L.forecast L.shape n → Indexed (segments_of L.slots) L.slots bounds table
      → L.cards ≡ cards_beside (card_at L.slots L.cards) L.slots → Roomy L.forecast → Going L (start bounds table n last)
  unfolding ran
  going_start bounds table n last s x b r = record {
    stands = s;
    shown = forecast-shown (number L) L.slots L.forecast s.passes r;
    index = x;
    shares-lent = ap₂ {C = Shares} shares (profile-named L.shape.profile) s.height;
    worked = omega arith;
    refused = omega arith;
    sweeps = omega arith;
    moves = omega arith;
    own = card_at L.slots L.cards;
    beside = b;
    rest = ap (λ (S : Shares). work S L.allowance (records_of L.bytes) (room_of L.slots L.forecast) (card_at L.slots L.cards) nothing)
        (ap₂ {C = Shares} shares (profile-named L.shape.profile) s.height);
    first = λ _. (refl, refl);
    single = λ h. absurd (omega (arith, h, size-some L.bytes));
  }

one-le : (b : Bool) → one b ≤ 1
one-le true = omega arith
one-le false = omega arith

-- what is handed back there
abbrev pub back_at : Now → Verdict → Worked
back_at N v = record { forecast = N.forecast; tally = N.tally; stop = v; last = N.last; keys = N.keys }

-- the run ends with what there is
abbrev Finish : Lent → Now → Worked → Type 0
Finish L N back =
    Ends (number L) L.slots (card_at L.slots L.cards) L.forecast L.bytes L.allowance back (given.lend N.slots N.cards N.table)

module _ {L : Lent} {N : Now} (g : Going L N) where
  -- where the work left is a stop, the run ends with what there is
  ended : (v : Verdict)
      → work (of L) L.allowance (records_of (drop N.tally.place L.bytes)) (room N) g.own N.tally ≡ stopped (verdict_number v) (room N) g.own N.tally
      → (verdict_number v ≡ 0 → LastOf L N.last) → Finish L N (back_at N v)
  ended v e last =
      let w : all L ≡ stopped (verdict_number v) (room N) g.own N.tally = g.rest ∙ e in
      record {
        tally = sym (ap (λ (r : Ran). r.tally) w);
        stop = sym (ap (λ (r : Ran). r.stop) w);
        forecast = sym g.shown ∙ sym (ap (λ (r : Ran). forecast_of r.room.cells) w);
        slots_left = sym (slots-shown (number L) N.slots N.forecast g.stands.passes) ∙ sym (ap (λ (r : Ran). render 0 r.room.segments) w);
        cards_left = g.beside ∙ sym (ap (λ (r : Ran). cards_beside r.cards N.slots) w);
        table_left = right-stands g.stands g.index
            ∙ ap₂ table_of (sym (ap (λ (S : Shares). S.height) g.shares-lent)) (sym (ap (λ (r : Ran). r.room.segments) w));
        keys = sym (keys-stand g.stands) ∙ sym (ap (λ (r : Ran). length (keys r.room.segments)) w);
        single = λ q one z. last (sym (ap (λ (r : Ran). r.stop) w) ∙ z) q one;
      }

  -- at the end of the bytes
  pub ends-whole : length L.bytes ≤ N.tally.place → Finish L N (back_at N (Ok tt))
  ends-whole p =
      ended (Ok tt)
      (ap (λ (l : List Record). work (of L) L.allowance l (room N) g.own N.tally) (ap records_of (drop_of_length-le L.bytes p) ∙ records-nil)
      ∙ work-end (of L) L.allowance (room N) g.own N.tally)
      (λ _ q e. last q e)
    where
      last : LastOf L N.last
      last q e =
          elim (dec_le (head L) N.tally.place) [
            | yes h ↦ g.single h q e
            | no h ↦ absurd (omega (arith, (g.first (omega arith)).0, (single-record L.bytes q e).1, p))
          ]

-- at a record, which comes to r
abbrev pub next : Lent → Now → Record
next L N = record_of (drop N.tally.place L.bytes)

abbrev asks : Lent → Now → Request
asks L N = (next L N).request

pub record AtRecord (L : Lent) (N : Now) (r : Result Aim Refusal) : Type 0 where
  pub going : Going L N
  pub more : N.tally.place < length L.bytes
  pub aimed : Aimed (shares_at L.shape) (asks L N) (room_of N.slots N.forecast) r

module _ {L : Lent} {N : Now} {r : Result Aim Refusal} (a : AtRecord L N r) where
  abbrev g : Going L N
  g = a.going

  abbrev q : Request
  q = asks L N

  abbrev t : Tally
  t = N.tally

  pub turning : Turning N.slots N.forecast N.bounds N.table L.shape (asks L N) N.keys r
  turning = record { stands = g.stands; shown = g.shown; index = g.index; aimed = a.aimed }

  number-is : verdict_number (verdict_of r) ≡ (outcome (of L) q (room N)).answer.number
  number-is = aimed-number (of L) q (room N) r a.aimed

  moves-is : moves_of r ≡ (outcome (of L) q (room N)).answer.moves
  moves-is = aimed-moves (of L) q (room N) r a.aimed

  here : work (of L) L.allowance (records_of (drop N.tally.place L.bytes)) (room N) g.own N.tally
      ≡ work (of L) L.allowance (next L N ∷ records_of (drop (N.tally.place + (next L N).size) L.bytes)) (room N) g.own N.tally
  here = ap (λ (l : List Record). work (of L) L.allowance l (room N) g.own t) (records-from t.place L.bytes a.more)

  -- the next turn is nearer to the end
  pub nearer : {z : Tally} → z ≡ next_of N.tally r (next L N).size → length L.bytes - z.place < length L.bytes - N.tally.place
  nearer e = omega (arith, ap (λ (z : Tally). z.place) e, a.more, size-some (drop N.tally.place L.bytes))

  -- before a record that is over the allowance
  ends-over : L.allowance - t.moves < moves_of r → Finish L N (back_at N (Err AllowancePassed))
  ends-over h =
      ended g (Err AllowancePassed) (here ∙ work-over (of L) L.allowance (next L N) _ (room N) g.own t good (omega (arith, h, moves-is, g.moves)))
      (λ e. absurd (omega (arith, e)))
    where
      good : T (not (is_bad q))
      good =
          elim (tested (is_bad q)) [
            | inl b ↦ absurd (omega (arith, h, moves-is, ap (λ (z : Outcome). z.answer.moves) (bad-is (of L) q (room N) b)))
            | inr k ↦ k
          ]

  -- at a bad record
  ends-stop : is_stop (verdict_of r) ≡ true → Finish L N (back_at N (verdict_of r))
  ends-stop e =
      elim (tested (is_bad q)) [
        | inl b ↦
            let nine : verdict_number (verdict_of r) ≡ 9 = number-is ∙ ap (λ (z : Outcome). z.answer.number) (bad-is (of L) q (room N) b) in
            ended g (verdict_of r) (here ∙ work-bad (of L) L.allowance (next L N) _ (room N) g.own t b ∙ ap (λ (m : ℕ). stopped m (room N) g.own t) (sym nine)) (λ z. absurd (omega (arith, nine, z)))
        | inr k ↦ absurd (omega (arith, stop-high (verdict_of r) e, number-is, low (of L) q (room N) k))
      ]

  -- either way, where it halts the run
  pub ends-halt : is_stop (comes_to (L.allowance - N.tally.moves) r) ≡ true
      → Finish L N (back_at N (comes_to (L.allowance - N.tally.moves) r))
  ends-halt e =
      elim (dec_lt left (moves_of r)) [
        | yes h ↦ subst Back (sym (comes-over left r h)) (ends-over h)
        | no h ↦
            let w : comes_to left r ≡ verdict_of r = comes-within left r (omega arith) in
            subst Back (sym w) (ends-stop (sym (ap is_stop w) ∙ e))
      ]
    where
      left : ℕ
      left = L.allowance - N.tally.moves

      Back : Verdict → Type 0
      Back v = Finish L N (back_at N v)

-- else it goes on
pub record OnRecord (L : Lent) (N : Now) (r : Result Aim Refusal) : Type 0 where
  pub at : AtRecord L N r
  pub fit : moves_of r ≤ L.allowance - N.tally.moves
  pub on : is_stop (verdict_of r) ≡ false

pub on-record : {L : Lent} {N : Now} {r : Result Aim Refusal} → AtRecord L N r → is_stop (comes_to (L.allowance - N.tally.moves) r) ≡ false → OnRecord L N r
on-record {L = L} {N = N} {r = r} a e =
    elim (dec_lt left (moves_of r)) [
      | yes h ↦ absurd (subst T (sym (ap is_stop (comes-over left r h)) ∙ e) tt)
      | no h ↦ record { at = a; fit = omega arith; on = sym (ap is_stop (comes-within left r (omega arith))) ∙ e }
    ]
  where
    left : ℕ
    left = L.allowance - N.tally.moves

module _ {L : Lent} {N : Now} {r : Result Aim Refusal} (w : OnRecord L N r) where
  abbrev a : AtRecord L N r
  a = w.at

  ok : T (not (is_bad (asks L N)))
  ok =
      elim (tested (is_bad (asks L N))) [
        | inl b ↦ absurd (on-good (verdict_of r) w.on (number-is a ∙ ap (λ (z : Outcome). z.answer.number) (bad-is (of L) (asks L N) (room N) b)))
        | inr k ↦ k
      ]

  -- the record has its bytes, and its moves are within the allowance
  enough : N.tally.place + (next L N).size ≤ length L.bytes
  enough =
      omega (
        arith,
        size_fits (drop N.tally.place L.bytes) (not-bad (asks L N) ok),
        length-drop N.tally.place L.bytes,
        a.more,
      )

  small : N.tally.moves + moves_of r ≤ L.allowance
  small = omega (arith, w.fit, a.going.moves)

  -- so its counts fit
  pub fits : length L.bytes < 2 ^ 64 → L.allowance < 2 ^ 64
      → (N.tally.worked + 1 < 2 ^ 64) × (N.tally.refused + 1 < 2 ^ 64) × (N.tally.sweeps + 1 < 2 ^ 64) × (N.tally.place + (next L N).size < 2 ^ 64) × (N.tally.moves + moves_of r < 2 ^ 64)
  fits b m = (
    omega (arith, a.going.worked, a.more),
    omega (arith, a.going.refused, a.going.worked, a.more),
    omega (arith, a.going.sweeps, a.going.worked, a.more),
    omega (arith, enough),
    omega (arith, small),
  )

  counted : next_of N.tally r (next L N).size ≡ tallied (outcome (shares_at L.shape) (asks L N) (room_of N.slots N.forecast)) (next L N).size N.tally
  counted = λ i. record {
    worked = N.tally.worked + 1;
    refused = N.tally.refused + one (((told (verdict_of r)).1 ∙ ap (λ (k : ℕ). ltb 0 k) (number-is a)) i);
    moves = N.tally.moves + moves-is a i;
    sweeps = N.tally.sweeps + one (swept-turn (turning a) i);
    place = N.tally.place + (next L N).size;
  }

  -- the record at the start has as many bytes as the first
  at_first : N.tally.place ≡ 0 → (next L N).size ≡ head L
  at_first e = ap (λ (m : ℕ). (record_of (drop m L.bytes)).size) e

  -- a single record is the one at the start
  last : LastOf L (verdict_of r)
  last p e =
      elim (dec_le (head L) N.tally.place) [
        | yes h ↦ absurd (omega (arith, h, a.more, (single-record L.bytes p e).2, ap (λ (z : Record). z.size) (single-record L.bytes p e).0))
        | no h ↦
            let f = a.going.first (omega arith) in
            let same : next L N ≡ p = ap (λ (l : List Record). get_or l 0 (asking Bad 0 11))
            (sym (records-from N.tally.place L.bytes a.more) ∙ ap (λ (m : ℕ). records_of (drop m L.bytes)) f.0 ∙ e) in
            number-is a ∙ ap₂ (λ (z : Record) (R : Room). (outcome (of L) z.request R).answer.number) same f.1
            ∙ ap (λ (S : Shares). (outcome S p.request (room_of L.slots L.forecast)).answer.number) (sym a.going.shares-lent)
      ]

  -- past the first record
  past : head L ≤ N.tally.place + (next L N).size
  past =
      elim (dec_le (head L) N.tally.place) [
        | yes h ↦ omega (arith, h)
        | no h ↦ omega (arith, at_first (a.going.first (omega arith)).0)
      ]

  -- the card of each key then
  abbrev pub own_next : ℕ → ℕ
  own_next = cards_after (outcome (shares_at L.shape) (asks L N) (room_of N.slots N.forecast)) (asks L N) (next L N).card a.going.own

  pub goes_on : {slots' cards' bounds' table' : List ℕ} {F' : Forecast} → Turned (outcome (shares_at L.shape) (asks L N) (room_of N.slots N.forecast)) slots' F' bounds' table' L.shape (keys_of N.keys r)
      → cards' ≡ cards_beside own_next slots'
      → Going L (record {
        slots = slots';
        cards = cards';
        forecast = F';
        bounds = bounds';
        table = table';
        keys = keys_of N.keys r;
        last = verdict_of r;
        tally = next_of N.tally r (next L N).size;
      })
  goes_on d b = record {
    stands = d.stands;
    shown = d.shown;
    index = d.index;
    shares-lent = a.going.shares-lent;
    worked = omega (arith, a.going.worked, size-some (drop N.tally.place L.bytes));
    refused = omega (arith, a.going.refused, one-le (not (is_accepted (verdict_of r))));
    sweeps = omega (arith, a.going.sweeps, one-le (is_swept r));
    moves = small;
    own = own_next;
    beside = b;
    rest = a.going.rest ∙ here a ∙ work-on (of L) L.allowance (next L N) _ (room N) a.going.own N.tally ok (omega (arith, small, moves-is a))
        ∙ ap₂ (λ (R : Room) (z : Tally). work (of L) L.allowance (records_of (drop (N.tally.place + (next L N).size) L.bytes)) R own_next z) (sym d.room) (sym counted);
    first = λ h. absurd (omega (arith, h, past));
    single = λ _. last;
  }
