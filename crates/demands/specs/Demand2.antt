-- Demand 2. Any sequence of inserts, deletes, lookups and scans on a list made empty is answered as a plain sorted set of at most half as
-- many keys as slots (in the second profile, 44 for every 64 slots), each with its card, would answer. After each request the slots, the
-- forecast and the reported moves are those of the paper's rules with our rounding and ties.
use Rattle.std.specs.Prelude.{ℕ, ◌*◌, ◌^◌, ◌≤◌, ◌<◌, ◌≡◌, ◌⊎◌, ◌≢◌, ◌↔◌, T, length, replicate}
use mathlib.Core.List.{List, [], ◌∷◌, Memᴰ as Mem}
use Rattle.slots.specs.Segments.{live, render}
use Rattle.slots.specs.Keys.{Rising}
use Rattle.levels.specs.Tables.{table_of, table_size}
use Rattle.forecast.specs.declared.Forecast.{Forecast}
use Rattle.forecast.specs.Cells.{forecast_of}
use Rattle.forecast.specs.Tidy.{Roomy}
use Rattle.rules.specs.declared.Request.{Request}
use Rattle.rules.specs.declared.Request.TheVariants.{Insert, Delete}
use Rattle.rules.specs.declared.Profile.{Profile}
use Rattle.rules.specs.Profiles.{number_of, most, fewest}
use Rattle.rules.specs.Shares.{Shares, shares}
use Rattle.rules.specs.Placing.{Room, Outcome, outcome}
use Rattle.rules.specs.Looking.{Scanned}
use Rattle.rules.specs.Cards.{cards_beside, cards_after}
use Rattle.rules.specs.Lent.{Lent, cards_of}
use Rattle.rules.specs.Checks.{shares_of, check}
use Rattle.rules.specs.Calls.{room_of, make, lookup, scan, Called, request, insert, delete}
use Rattle.demands.specs.PlainSet as set

-- The plain set is a set; whatever is asked of an empty one, it has at most `most` keys, rising. A key gained has the card that came with
-- it, and every other key keeps its own, then and when a key is lost.
pub record IsSet : Type 0 where
  pub rises : (y : ℕ) (ks : List ℕ) → Rising ks → Rising (set.add y ks) × Rising (set.remove y ks)
  pub has : (y : ℕ) (ks : List ℕ) → T (set.has y ks) ↔ Mem y ks
  pub add : (y : ℕ) (ks : List ℕ) (k : ℕ) → Mem k (set.add y ks) ↔ ((k ≡ y) ⊎ Mem k ks)
  pub remove : (y : ℕ) (ks : List ℕ) → Rising ks → (k : ℕ) → Mem k (set.remove y ks) ↔ ((k ≢ y) × Mem k ks)
  pub beyond : (a : ℕ) (ks : List ℕ) (k : ℕ) → Mem k (set.beyond a ks) ↔ ((a < k) × Mem k ks)
  pub rising : (a : ℕ) (ks : List ℕ) → Rising ks → Rising (set.beyond a ks)
  pub at_most : (most : ℕ) (asks : List set.Ask) → Rising (set.after_all most asks set.empty).keys × (length (set.after_all most asks set.empty).keys ≤ most)
  pub gained : (y v : ℕ) (E : set.Events) → (set.gain y v E).card y ≡ v
  pub others : (y v : ℕ) (E : set.Events) (k : ℕ) → k ≢ y → (set.gain y v E).card k ≡ E.card k
  pub lost : (y : ℕ) (E : set.Events) (k : ℕ) → (set.lose y E).card k ≡ E.card k

-- What is lent holds these events: its live keys are the keys, and beside each stands its card, beside a gap 0.
pub record Holds (E : set.Events) (L : Lent) : Type 0 where
  pub keys : live L.slots ≡ E.keys
  pub cards : L.cards ≡ cards_beside E.card L.slots

-- FIRST SENTENCE. The public calls, asked the same in the profile of a number: what they tell, and what they leave of list,
-- cards, table and forecast.
pub record Held : Type 0 where
  pub lent : Lent
  pub forecast : Forecast

abbrev pub told : ℕ → set.Ask → Held → set.Told
told profile (set.Insert y v) H = set.Inserted (insert profile H.lent H.forecast y v).answer.number
told profile (set.Delete y) H = set.Deleted (delete profile H.lent H.forecast y).answer.number (delete profile H.lent H.forecast y).answer.sparse
told profile (set.Lookup y) H = set.Found (lookup profile H.lent y).number (lookup profile H.lent y).present (lookup profile H.lent y).card
told profile (set.Scan a out cards) H =
    let r : Scanned = scan profile H.lent a out cards in
    set.Scanned r.number r.written r.more r.output r.cards

abbrev pub after : ℕ → set.Ask → Held → Held
after profile (set.Insert y v) H = record { lent = (insert profile H.lent H.forecast y v).lent; forecast = (insert profile H.lent H.forecast y v).forecast }
after profile (set.Delete y) H = record { lent = (delete profile H.lent H.forecast y).lent; forecast = (delete profile H.lent H.forecast y).forecast }
after profile (set.Lookup y) H = H
after profile (set.Scan a out cards) H = H

abbrev pub all_told : ℕ → List set.Ask → Held → List set.Told
all_told profile [] H = []
all_told profile (a ∷ asks) H = told profile a H ∷ all_told profile asks (after profile a H)

abbrev pub after_all : ℕ → List set.Ask → Held → Held
after_all profile [] H = H
after_all profile (a ∷ asks) H = after_all profile asks (after profile a H)

abbrev pub made : ℕ → Lent → Held
made profile L = record { lent = (make profile L).lent; forecast = (make profile L).forecast }

-- In either profile, from make on any array of a permitted length with cards and a table of its size: every answer is the set's, the list
-- holds its events, and list, cards, table and forecast pass the check.
abbrev pub SequenceAnswered : Type 0
SequenceAnswered = (p : Profile) (h : ℕ) → 1 ≤ h → h ≤ 6 → (L : Lent) → length L.slots ≡ 64 * 2 ^ h → length L.cards ≡ length L.slots → length L.table ≡ table_size h → (asks : List set.Ask)
    → let n : ℕ = number_of p in
    let left : Held = after_all n asks (made n L) in
    (all_told n asks (made n L) ≡ set.all_told (most p * 2 ^ h) (fewest p * 2 ^ h) asks set.empty)
    × Holds (set.after_all (most p * 2 ^ h) asks set.empty) left.lent
    × (check n left.lent left.forecast ≡ 0)

-- SECOND SENTENCE. What the rules alone make of an ask, on a list with its forecast: what is left, and the moves to be reported. They work
-- requests, inserts and deletes; a lookup or a scan leaves all as it is.
abbrev pub ruled : Shares → set.Ask → Room → Room
ruled S (set.Insert y v) R = (outcome S (Insert y) R).room
ruled S (set.Delete y) R = (outcome S (Delete y) R).room
ruled S (set.Lookup y) R = R
ruled S (set.Scan a out cards) R = R

abbrev pub ruled_moves : Shares → set.Ask → Room → ℕ
ruled_moves S (set.Insert y v) R = (outcome S (Insert y) R).answer.moves
ruled_moves S (set.Delete y) R = (outcome S (Delete y) R).answer.moves
ruled_moves S (set.Lookup y) R = 0
ruled_moves S (set.Scan a out cards) R = 0

abbrev pub ruled_all : Shares → List set.Ask → Room → Room
ruled_all S [] R = R
ruled_all S (a ∷ asks) R = ruled_all S asks (ruled S a R)

abbrev pub all_ruled_moves : Shares → List set.Ask → Room → List ℕ
all_ruled_moves S [] R = []
all_ruled_moves S (a ∷ asks) R = ruled_moves S a R ∷ all_ruled_moves S asks (ruled S a R)

-- The card of each key after an ask, and after all of them; c is that of each key before.
abbrev pub ruled_cards : Shares → set.Ask → Room → (ℕ → ℕ) → ℕ → ℕ
ruled_cards S (set.Insert y v) R c = cards_after (outcome S (Insert y) R) (Insert y) v c
ruled_cards S (set.Delete y) R c = cards_after (outcome S (Delete y) R) (Delete y) 0 c
ruled_cards S (set.Lookup y) R c = c
ruled_cards S (set.Scan a out cards) R c = c

abbrev pub ruled_all_cards : Shares → List set.Ask → Room → (ℕ → ℕ) → ℕ → ℕ
ruled_all_cards S [] R c = c
ruled_all_cards S (a ∷ asks) R c = ruled_all_cards S asks (ruled S a R) (ruled_cards S a R c)

abbrev pub empty_room : ℕ → Room
empty_room h = record { segments = replicate (2 ^ h) []; cells = [] }

-- The moves that the public calls report.
abbrev pub moves : ℕ → set.Ask → Held → ℕ
moves profile (set.Insert y v) H = (insert profile H.lent H.forecast y v).answer.moves
moves profile (set.Delete y) H = (delete profile H.lent H.forecast y).answer.moves
moves profile (set.Lookup y) H = 0
moves profile (set.Scan a out cards) H = 0

abbrev pub all_moves : ℕ → List set.Ask → Held → List ℕ
all_moves profile [] H = []
all_moves profile (a ∷ asks) H = moves profile a H ∷ all_moves profile asks (after profile a H)

-- What a call answers (number, moves, sparse) and leaves is what the rules say, where c is the card of each key then; the table is that of
-- the segments.
pub record AsRuled (S : Shares) (c : ℕ → ℕ) (called : Called) (o : Outcome) : Type 0 where
  pub answer : called.answer ≡ o.answer
  pub slots : called.lent.slots ≡ render 0 o.room.segments
  pub cards : called.lent.cards ≡ cards_beside c (render 0 o.room.segments)
  pub table : called.lent.table ≡ table_of S.height o.room.segments
  pub forecast : called.forecast ≡ forecast_of o.room.cells

-- A request on list, cards, table and forecast that pass the check, accepted or refused: as the rules say of what they show. Where it is
-- refused nothing has changed, and what the slots show, written out, is the slots again.
abbrev pub RequestRuled : Type 0
RequestRuled = (profile : ℕ) (q : Request) (v : ℕ) (L : Lent) (F : Forecast) → Roomy F → check profile L F ≡ 0
    → let o : Outcome = outcome (shares_of profile L.slots) q (room_of L.slots F) in
    AsRuled (shares_of profile L.slots) (cards_after o q v (cards_of L)) (request profile q v L F) o

-- Slots, cards, table and forecast that are the room R of the rules, with c the card of each key, and show it; what the next request answers
-- and leaves is what the rules make of them.
pub record IsRoom (profile : ℕ) (S : Shares) (R : Room) (c : ℕ → ℕ) (H : Held) : Type 0 where
  pub slots : H.lent.slots ≡ render 0 R.segments
  pub cards : H.lent.cards ≡ cards_beside c (render 0 R.segments)
  pub table : H.lent.table ≡ table_of S.height R.segments
  pub forecast : H.forecast ≡ forecast_of R.cells
  pub shown : room_of H.lent.slots H.forecast ≡ R
  pub next : (q : Request) (v : ℕ) → AsRuled S (cards_after (outcome S q R) q v c) (request profile q v H.lent H.forecast) (outcome S q R)

-- In either profile, from make on any array of a permitted length with cards and a table of its size: what stands after any sequence is
-- what the rules alone make of an empty list, and so are all the moves reported on the way.
abbrev pub SequenceRuled : Type 0
SequenceRuled = (p : Profile) (h : ℕ) → 1 ≤ h → h ≤ 6 → (L : Lent) → length L.slots ≡ 64 * 2 ^ h → length L.cards ≡ length L.slots → length L.table ≡ table_size h → (asks : List set.Ask)
    → let n : ℕ = number_of p in
    IsRoom n (shares p h) (ruled_all (shares p h) asks (empty_room h)) (ruled_all_cards (shares p h) asks (empty_room h) (λ k. 0)) (after_all n asks (made n L))
    × (all_moves n asks (made n L) ≡ all_ruled_moves (shares p h) asks (empty_room h))
