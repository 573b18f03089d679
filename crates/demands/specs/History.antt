-- Requests one after the other, as demand 3 speaks of them.
use Rattle.std.specs.Prelude.{ℕ, ◌+◌, Bool, true, false, not, ◌&&◌, ◌||◌, List, [], ◌∷◌, leb, eqb, if◌then◌else◌}
use Rattle.std.proofs.Math.Option.{Option, none, some}
use Rattle.slots.specs.Segments.{Segments}
use Rattle.slots.specs.Windows.{start}
use Rattle.slots.specs.Keys.{segment_of}
use Rattle.cells.specs.declared.Cell.{Cell}
use Rattle.rules.specs.declared.Request.{Request}
use Rattle.rules.specs.declared.Request.TheVariants.{Insert, Delete, Bad}
use Rattle.rules.specs.Shares.{Shares}
use Rattle.rules.specs.Placing.{Room, home, insert_level, delete_level, outcome}

-- An accepted request: the segment it falls in (its key goes there before any sweep, or is removed from it), whether it is an insert, and
-- the level of the window chosen for a sweep, if any.
pub record Event : Type 0 where
  pub at : ℕ
  pub grows : Bool
  pub level : Option ℕ

abbrev pub event_at : Shares → Request → Room → Event
event_at S (Insert y) R = record { at = home y R.segments; grows = true; level = insert_level S y R.segments }
event_at S (Delete y) R = record { at = segment_of R.segments y; grows = false; level = delete_level S y R.segments }
event_at S Bad R = record { at = 0; grows = false; level = none }

-- It falls in every window round that segment: in the window of level l round segment s.
abbrev pub falls_in : ℕ → ℕ → Event → Bool
falls_in l s e = eqb (start l e.at) (start l s)

-- A window counts as swept when it is the chosen one or lies inside it.
abbrev pub sweeps_at : ℕ → ℕ → ℕ → Option ℕ → Bool
sweeps_at l s t none = false
sweeps_at l s t (some k) = leb l k && eqb (start k t) (start k s)

abbrev pub sweeps : ℕ → ℕ → Event → Bool
sweeps l s e = sweeps_at l s e.at e.level

abbrev pub some_sweeps : ℕ → ℕ → List Event → Bool
some_sweeps l s [] = false
some_sweeps l s (e ∷ es) = sweeps l s e || some_sweeps l s es

-- The inserts, and the deletes, that fell in a window.
abbrev pub inserts : ℕ → ℕ → List Event → ℕ
inserts l s [] = 0
inserts l s (e ∷ es) = (if falls_in l s e && e.grows then 1 else 0) + inserts l s es

abbrev pub deletes : ℕ → ℕ → List Event → ℕ
deletes l s [] = 0
deletes l s (e ∷ es) = (if falls_in l s e && not e.grows then 1 else 0) + deletes l s es

-- A request, and the cells that it is lent. A forecast is lent by value, so each request may be lent another.
pub record Turn : Type 0 where
  pub request : Request
  pub cells : List Cell

abbrev pub given : Turn → Segments → Room
given a ss = record { segments = ss; cells = a.cells }

-- Requests in order, from the list ss: the events of those that are accepted. The others change nothing.
abbrev pub accepted : Shares → Request → Room → Bool
accepted S q R = eqb (outcome S q R).answer.number 0

abbrev pub events : Shares → List Turn → Segments → List Event
events S [] ss = []
events S (a ∷ turns) ss =
    let rest : List Event = events S turns (outcome S a.request (given a ss)).room.segments in
    if accepted S a.request (given a ss) then event_at S a.request (given a ss) ∷ rest else rest
