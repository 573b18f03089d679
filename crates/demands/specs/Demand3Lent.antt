-- Demand 3 of the public calls, on slots, cards, tables and forecasts as they are lent.
use Rattle.std.specs.Prelude.{ℕ, suc, ◌<◌, ◌≡◌, List, [], ◌∷◌, eqb, if◌then◌else◌}
use Rattle.std.proofs.Math.Option.{some}
use Rattle.lists.specs.Lists.{All}
use Rattle.slots.specs.Segments.{segments_of}
use Rattle.slots.specs.Windows.{start, count}
use Rattle.forecast.specs.declared.Forecast.{Forecast}
use Rattle.rules.specs.declared.Request.{Request}
use Rattle.rules.specs.Lent.{Lent, lend}
use Rattle.rules.specs.Checks.{shares_of}
use Rattle.rules.specs.Calls.{room_of, Called, request}
use Rattle.rules.specs.Readings.{Limits}
use Rattle.demands.specs.History.{Event, event_at}
use Rattle.demands.specs.Demand3.{SweptAgain, counting, Taken}

-- The event of a request that is accepted.
abbrev pub event_of : ℕ → Request → List ℕ → Forecast → Event
event_of profile q slots F = event_at (shares_of profile slots) q (room_of slots F)

-- FIRST PART. After a sweep, every window strictly inside the swept one holds at least the low and at most the high share of its
-- parent's level, times its segments, whatever the forecast said.
abbrev pub LentInside : Type 0
LentInside = (profile : ℕ) (q : Request) (v : ℕ) (L : Lent) (F : Forecast) → (request profile q v L F).answer.number ≡ 0
    → (k : ℕ) → (event_of profile q L.slots F).level ≡ some k
    → (j t : ℕ) → j < k → start k t ≡ start k (event_of profile q L.slots F).at
    → Limits (shares_of profile L.slots) j (suc j) (count j t (segments_of (request profile q v L F).lent.slots))

-- SECOND PART. What is asked, in the profile of a number: an insert or a delete, with its card and any cards, table and forecast lent with it;
-- a lookup; a scan, with the outputs lent.
pub data LentAsk : Type 0 where
  Change : ℕ → Request → ℕ → List ℕ → List ℕ → Forecast → LentAsk
  Lookup : ℕ → ℕ → LentAsk
  Scan : ℕ → ℕ → List ℕ → List ℕ → LentAsk

-- The events of the accepted requests, in order. Refused ones, one whose cards, table or forecast check refuses and one whose profile is unknown
-- among them, count for nothing and leave the slots; so do lookups and scans.
abbrev pub lent_events : List LentAsk → List ℕ → List Event
lent_events [] slots = []
lent_events (Change profile q v cards table F ∷ asks) slots =
    let c : Called = request profile q v (lend slots cards table) F in
    let rest : List Event = lent_events asks c.lent.slots in
    if eqb c.answer.number 0 then event_of profile q slots F ∷ rest else rest
lent_events (Lookup profile y ∷ asks) slots = lent_events asks slots
lent_events (Scan profile a out cards ∷ asks) slots = lent_events asks slots

-- The numbers of the profiles that they were asked in.
abbrev pub lent_profiles : List LentAsk → List ℕ → List ℕ
lent_profiles [] slots = []
lent_profiles (Change profile q v cards table F ∷ asks) slots =
    let c : Called = request profile q v (lend slots cards table) F in
    let rest : List ℕ = lent_profiles asks c.lent.slots in
    if eqb c.answer.number 0 then profile ∷ rest else rest
lent_profiles (Lookup profile y ∷ asks) slots = lent_profiles asks slots
lent_profiles (Scan profile a out cards ∷ asks) slots = lent_profiles asks slots

-- Counting starts afresh after a change of profile: from the earlier sweep on, all that was accepted was asked in one profile.
abbrev pub LentAgain : Type 0
LentAgain = (profile : ℕ) (slots : List ℕ) (asks : List LentAsk) (l s : ℕ) (e₀ : Event) (es : List Event) (e : Event)
    → All (λ m. m ≡ profile) (lent_profiles asks slots) → SweptAgain (lent_events asks slots) l s e₀ es e
    → Taken (shares_of profile slots) l s (counting e₀ es e)
