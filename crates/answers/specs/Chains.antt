-- Demand 2 over the promises themselves: calls one after the other, in one profile, each on the list, the cards, the table and the forecast
-- that the call before it left.
use Rattle.std.specs.Prelude.{ℕ, ◌*◌, ◌^◌, ◌≤◌, ◌≡◌, List, [], ◌∷◌, length}
use Rattle.levels.specs.Tables.{table_size}
use Rattle.forecast.specs.declared.Forecast.{Forecast}
use Rattle.rules.specs.declared.Profile.{Profile}
use Rattle.rules.specs.Profiles.{number_of, most, fewest}
use Rattle.rules.specs.Shares.{shares}
use Rattle.demands.specs.PlainSet as set
use Rattle.rules.specs.Lent.{Lent}
use Rattle.demands.specs.Demand2.{Holds, Held, ruled_all, all_ruled_moves, ruled_all_cards, empty_room, IsRoom}
use Rattle.answers.specs.Answers.{MakeReply, LookupAnswer, ScanAnswer, InsertReply, DeleteReply, lookup_paper, scan_paper, insert_paper, delete_paper}
use Rattle.answers.specs.Admits.{MakeAdmits, LookupAdmits, ScanAdmits, InsertAdmits, DeleteAdmits}

abbrev pub held : Lent → Forecast → Held
held L F = record { lent = L; forecast = F }

-- Any outcome of one call on H that its promise admits: what was asked, what is told in the paper's values, the moves reported (0 by a call
-- that reports none), and what is left.
pub data Call (profile : ℕ) (H : Held) : set.Ask → set.Told → ℕ → Held → Type 0 where
  inserted : (y v : ℕ) (r : InsertReply) (left : Lent) → InsertAdmits profile H.lent H.forecast y v r left
      → Call profile H (set.Insert y v) (set.Inserted (insert_paper r.answer).number) (insert_paper r.answer).moves (held left r.forecast)
  deleted : (y : ℕ) (r : DeleteReply) (left : Lent) → DeleteAdmits profile H.lent H.forecast y r left
      → Call profile H (set.Delete y) (set.Deleted (delete_paper r.answer).number (delete_paper r.answer).sparse) (delete_paper r.answer).moves (held left r.forecast)
  looked_up : (y : ℕ) (r : LookupAnswer) → LookupAdmits profile H.lent y r
      → Call profile H (set.Lookup y) (set.Found (lookup_paper r).number (lookup_paper r).present (lookup_paper r).card) 0 H
  scanned : (a : ℕ) (out cards : List ℕ) (r : ScanAnswer) (left left-cards : List ℕ) → ScanAdmits profile H.lent a out cards r left left-cards
      → Call profile H (set.Scan a out cards) (set.Scanned (scan_paper r).number (scan_paper r).written (scan_paper r).more left left-cards) 0 H

-- Calls in order: all that was asked, told and reported, and what the last one left.
pub data Chain (profile : ℕ) : Held → List set.Ask → List set.Told → List ℕ → Held → Type 0 where
  none : {H : Held} → Chain profile H [] [] [] H
  next : {H H' H'' : Held} {a : set.Ask} {t : set.Told} {m : ℕ} {asks : List set.Ask} {told : List set.Told} {moves : List ℕ}
      → Call profile H a t m H' → Chain profile H' asks told moves H'' → Chain profile H (a ∷ asks) (t ∷ told) (m ∷ moves) H''

-- It tells the plain set's answers and leaves its keys with their cards; the moves, the slots, the table and the forecast are those of the
-- rules from an empty list.
pub record Answered (p : Profile) (h : ℕ) (asks : List set.Ask) (ts : List set.Told) (ms : List ℕ) (H : Held) : Type 0 where
  pub told : ts ≡ set.all_told (most p * 2 ^ h) (fewest p * 2 ^ h) asks set.empty
  pub holds : Holds (set.after_all (most p * 2 ^ h) asks set.empty) H.lent
  pub moves : ms ≡ all_ruled_moves (shares p h) asks (empty_room h)
  pub is_room : IsRoom (number_of p) (shares p h) (ruled_all (shares p h) asks (empty_room h)) (ruled_all_cards (shares p h) asks (empty_room h) (λ k. 0)) H

-- Any chain after any outcome of make, in either profile, on an array of a permitted length with cards and a table of its size.
abbrev pub Chained : Type 0
Chained = (p : Profile) (h : ℕ) → 1 ≤ h → h ≤ 6 → (L : Lent) → length L.slots ≡ 64 * 2 ^ h → length L.cards ≡ length L.slots → length L.table ≡ table_size h → (r : MakeReply) (left : Lent) → MakeAdmits (number_of p) L r left
    → (asks : List set.Ask) (told : List set.Told) (moves : List ℕ) (H : Held) → Chain (number_of p) (held left r.forecast) asks told moves H
    → Answered p h asks told moves H
