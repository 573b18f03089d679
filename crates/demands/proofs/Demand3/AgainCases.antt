-- Windows that are swept again, computed: that demand 3's second part speaks of something, and what it counts there.
use mathlib.Core.Path.{◌≡◌, refl}
use mathlib.Core.Bool.{true, false}
use mathlib.Core.Option.{Option, none, some}
use mathlib.Core.Logic.{inl, inr}
use mathlib.Core.List.{List, [], ◌∷◌, ◌++◌, map}
use Prim.Native.Nat.{ℕ, ◌+◌, ◌*◌}
use lib.Dec.{ltb→lt}
use lib.ListN.{replicate}
use Rattle.lists.specs.Lists.{without}
use Rattle.slots.specs.Keys.{predecessor, segment_of}
use Rattle.cells.specs.Cells.{cell, weight}
use Rattle.cells.specs.Steps.{raised, tailed, noted, dropped, retargeted}
use Rattle.rules.specs.declared.Request.{Request}
use Rattle.rules.specs.declared.Request.TheVariants.{Insert, Delete}
use Rattle.rules.specs.declared.Profile.{Profile}
use Rattle.rules.specs.declared.Profile.TheVariants.{First, Second}
use Rattle.rules.specs.Shares.{shares}
use Rattle.rules.specs.SharingOut.{left_share, plan, share_out}
use Rattle.rules.specs.Placing.{Room, sweep, chosen, settled, insert_level, insert_key, delete_level, delete_key, outcome}
use Rattle.rules.specs.Sums.{up_from, room, pair}
use Rattle.demands.specs.History.{Event, inserts, deletes, Turn, events}
use Rattle.demands.specs.Demand3.{SweptAgain, counting, Taken}

-- Events in segment s: an insert, a delete, and the same with a sweep of level k.
abbrev pub grows : ℕ → Option ℕ → Event
grows s r = record { at = s; grows = true; level = r }

abbrev pub shrinks : ℕ → Option ℕ → Event
shrinks s r = record { at = s; grows = false; level = r }

-- lent no cells
abbrev bare : Request → Turn
bare q = record { request = q; cells = [] }

-- Of a window that is swept again: the half round segment s, and what it has taken.
pub record AgainCase (p : Profile) (h l s : ℕ) (all : List Event) (ups downs : ℕ) : Type 0 where
  pub e₀ : Event
  pub es : List Event
  pub e : Event
  pub again : SweptAgain all l s e₀ es e
  pub inserted : inserts l s (counting e₀ es e) ≡ ups
  pub deleted : deletes l s (counting e₀ es e) ≡ downs
  pub taken : Taken (shares p h) l s (counting e₀ es e)

-- h = 1, segments 1 to 7 and 101 to 130, which a delete evens out. Eight inserts in segment 1, then deletes in segment 0: the twelfth sweeps
-- again, and the gap between the low shares is 6.
abbrev deleting : List Request
deleting = Delete 1 ∷ (map Insert (up_from 200 8) ++ (map Delete (up_from 2 6 ++ up_from 101 5) ++ (Delete 106 ∷ [])))

pub by-deletes : AgainCase First 1 0 0 (events (shares First 1) (map bare deleting) (pair 7 30).segments) 0 12
unfolding without predecessor segment_of weight raised tailed noted dropped retargeted left_share plan share_out sweep chosen settled insert_level insert_key delete_level delete_key outcome
by-deletes = record {
  e₀ = shrinks 0 (some 1);
  es = replicate 8 (grows 1 none) ++ replicate 11 (shrinks 0 none);
  e = shrinks 0 (some 1);
  again = record { history = refl; earlier = tt; since = tt; half = tt; again = tt };
  inserted = refl;
  deleted = refl;
  taken = inr (ltb→lt _ _ tt);
}

-- h = 2, the even numbers to 128 in segment 0: an insert behind the last leaves 48 keys there. The 17th insert before them sweeps again, and
-- the gap between the high shares is 16.
abbrev inserting : List Request
inserting = Insert 129 ∷ map (λ n. Insert (2 * n + 1)) (up_from 0 17)

pub by-inserts : AgainCase First 2 0 0 (events (shares First 2) (map bare inserting) (map (λ n. 2 * n) (up_from 1 64) ∷ [] ∷ [] ∷ [] ∷ [])) 17 0
unfolding without predecessor segment_of weight raised tailed noted dropped retargeted left_share plan share_out sweep chosen settled insert_level insert_key delete_level delete_key outcome
by-inserts = record {
  e₀ = grows 0 (some 1);
  es = replicate 16 (grows 0 none);
  e = grows 0 (some 1);
  again = record { history = refl; earlier = tt; since = tt; half = tt; again = tt };
  inserted = refl;
  deleted = refl;
  taken = inl (ltb→lt _ _ tt);
}

-- The forecast changes hands: h = 2, a list as inserts 1 to 64 leave it. The 65th sweeps level 1; then an empty forecast is lent, and inserts
-- from 66 on fill segment 1. The next sweeps level 2, and the window of level 1 inside it.
abbrev risen : Room
risen = room (up_from 1 64 ∷ [] ∷ [] ∷ [] ∷ []) (map (λ x. cell x 0 1) (63 ∷ 61 ∷ 59 ∷ 57 ∷ 55 ∷ 53 ∷ 51 ∷ 49 ∷ []))

abbrev handed : List Turn
handed = record { request = Insert 65; cells = risen.cells } ∷ map bare (map Insert (up_from 66 48))

pub by-other-hands : AgainCase First 2 0 1 (events (shares First 2) handed risen.segments) 48 0
unfolding without predecessor segment_of weight raised tailed noted dropped retargeted left_share plan share_out sweep chosen settled insert_level insert_key delete_level delete_key outcome
by-other-hands = record {
  e₀ = grows 0 (some 1);
  es = replicate 47 (grows 1 none);
  e = grows 1 (some 2);
  again = record { history = refl; earlier = tt; since = tt; half = tt; again = tt };
  inserted = refl;
  deleted = refl;
  taken = inl (ltb→lt _ _ tt);
}

-- IN THE SECOND PROFILE. h = 1, segments 1 to 6 and 101 to 135, which a delete evens out at 20 and 20. Fifteen inserts in segment 1, then
-- deletes in segment 0: the fifteenth sweeps again, and the gap between the low shares is 14.
abbrev thinning : List Request
thinning = Delete 1 ∷ (map Insert (up_from 200 15) ++ map Delete (up_from 2 5 ++ up_from 101 10))

pub second-by-deletes : AgainCase Second 1 0 0 (events (shares Second 1) (map bare thinning) (pair 6 35).segments) 0 15
unfolding without predecessor segment_of weight raised tailed noted dropped retargeted left_share plan share_out sweep chosen settled insert_level insert_key delete_level delete_key outcome
second-by-deletes = record {
  e₀ = shrinks 0 (some 1);
  es = replicate 15 (grows 1 none) ++ replicate 14 (shrinks 0 none);
  e = shrinks 0 (some 1);
  again = record { history = refl; earlier = tt; since = tt; half = tt; again = tt };
  inserted = refl;
  deleted = refl;
  taken = inr (ltb→lt _ _ tt);
}

-- h = 2, the even numbers to 116 in segment 0: an insert behind the last leaves 46 keys there. The 13th insert before them sweeps again, and
-- the gap between the high shares is 7.
abbrev crowding : List Request
crowding = Insert 117 ∷ map (λ n. Insert (2 * n + 1)) (up_from 0 13)

pub second-by-inserts : AgainCase Second 2 0 0 (events (shares Second 2) (map bare crowding) (map (λ n. 2 * n) (up_from 1 58) ∷ [] ∷ [] ∷ [] ∷ [])) 13 0
unfolding without predecessor segment_of weight raised tailed noted dropped retargeted left_share plan share_out sweep chosen settled insert_level insert_key delete_level delete_key outcome
second-by-inserts = record {
  e₀ = grows 0 (some 1);
  es = replicate 12 (grows 0 none);
  e = grows 0 (some 1);
  again = record { history = refl; earlier = tt; since = tt; half = tt; again = tt };
  inserted = refl;
  deleted = refl;
  taken = inl (ltb→lt _ _ tt);
}
