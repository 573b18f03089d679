-- Demand 2, second sentence: slots, cards, table, forecast and moves are those of the rules, for one request and from make on.
use mathlib.Core.Path.{◌≡◌, refl, sym, ap, ap₂, subst, ◌∙◌}
use mathlib.Core.List.{List, [], ◌∷◌}
use Prim.Native.Nat.{ℕ, ◌*◌, ◌^◌, ◌≤◌}
use lib.Dec.{T}
use lib.ListN.{length}
use Rattle.slots.specs.Segments.{height_of, render}
use Rattle.levels.specs.Tables.{table_size}
use Rattle.forecast.specs.Cells.{forecast_of}
use Rattle.rules.specs.declared.Request.{Request}
use Rattle.rules.specs.declared.Request.TheVariants.{Insert, Delete}
use Rattle.rules.specs.declared.Profile.TheVariants.{First, Second}
use Rattle.rules.specs.Profiles.{is_profile, profile_of}
use Rattle.rules.specs.Shares.{Shares, shares}
use Rattle.rules.specs.Placing.{Room, outcome}
use Rattle.rules.specs.Cards.{cards_after}
use Rattle.rules.specs.Lent.{Lent, cards_of, laid}
use Rattle.rules.specs.Checks.{shares_of, check_both}
use Rattle.rules.specs.Calls.{room_of, Called, request, changed, Made}
use Rattle.demands.specs.PlainSet as set
use Rattle.demands.specs.Demand2.{Held, after, after_all, made, ruled, ruled_moves, ruled_all, all_ruled_moves, ruled_cards, ruled_all_cards, empty_room, moves, all_moves, AsRuled, RequestRuled, IsRoom, SequenceRuled}
use Rattle.rules.proofs.Sharing.Table.{lawful}
use Rattle.demands.proofs.Requests.StaysGood.{Good, good-next}
use Rattle.demands.proofs.Requests.Checked.{checked, checked-known, forecast-shown, room-render, table-render}
use Rattle.demands.proofs.Requests.Tabled.{room-passes}
use Rattle.demands.proofs.Requests.MadeEmpty.{good-empty, made-is}
use Rattle.demands.proofs.Running.Singly.{request-is, lent-shown}

-- a room written out; c is the card of each key
abbrev held_of : (ℕ → ℕ) → Room → Held
held_of c R = record { lent = laid c (render 0 R.segments); forecast = forecast_of R.cells }

abbrev called : ℕ → Request → ℕ → Held → Called
called profile q v H = request profile q v H.lent H.forecast

-- FROM A GOOD ROOM written out, at height h
module _ (profile : ℕ) (known : T (is_profile profile)) (h : ℕ) (from : 1 ≤ h) (to : h ≤ 6) where
  abbrev S : Shares
  S = shares (profile_of profile) h

  good-ruled : (a : set.Ask) (R : Room) → Good S R → Good S (ruled S a R)
  good-ruled (set.Insert y v) R g = good-next S (lawful (profile_of profile) h from to) (Insert y) R g
  good-ruled (set.Delete y) R g = good-next S (lawful (profile_of profile) h from to) (Delete y) R g
  good-ruled (set.Lookup y) R g = g
  good-ruled (set.Scan a out cards) R g = g

  as-ruled : (R : Room) (g : Good S R) (c : ℕ → ℕ) (q : Request) (v : ℕ) → AsRuled S (cards_after (outcome S q R) q v c) (called profile q v (held_of c R)) (outcome S q R)
  as-ruled R g c q v =
      let e : called profile q v (held_of c R) ≡ changed (cards_after (outcome S q R) q v c) (outcome S q R) = request-is profile known h from to R g c q v in
      record {
        answer = ap (λ (d : Called). d.answer) e;
        slots = ap (λ (d : Called). d.lent.slots) e;
        cards = ap (λ (d : Called). d.lent.cards) e;
        table = ap (λ (d : Called). d.lent.table) e ∙ table-render profile known h from to (outcome S q R).room (good-next S (lawful (profile_of profile) h from to) q R g);
        forecast = ap (λ (d : Called). d.forecast) e;
      }

  module _ (R : Room) (g : Good S R) (c : ℕ → ℕ) where
    after_is : (a : set.Ask) → after profile a (held_of c R) ≡ held_of (ruled_cards S a R c) (ruled S a R)
    after_is (set.Insert y v) = ap (λ (d : Called). record { lent = d.lent; forecast = d.forecast }) (request-is profile known h from to R g c (Insert y) v)
    after_is (set.Delete y) = ap (λ (d : Called). record { lent = d.lent; forecast = d.forecast }) (request-is profile known h from to R g c (Delete y) 0)
    after_is (set.Lookup y) = refl
    after_is (set.Scan a out cards) = refl

    moves-are : (a : set.Ask) → moves profile a (held_of c R) ≡ ruled_moves S a R
    moves-are (set.Insert y v) = ap (λ (d : Called). d.answer.moves) (request-is profile known h from to R g c (Insert y) v)
    moves-are (set.Delete y) = ap (λ (d : Called). d.answer.moves) (request-is profile known h from to R g c (Delete y) 0)
    moves-are (set.Lookup y) = refl
    moves-are (set.Scan a out cards) = refl

    is_room : IsRoom profile S R c (held_of c R)
    is_room = record {
      slots = refl;
      cards = refl;
      table = table-render profile known h from to R g;
      forecast = refl;
      shown = room-render profile known h from to R g;
      next = as-ruled R g c;
    }

  -- any sequence
  good-all : (asks : List set.Ask) (R : Room) → Good S R → Good S (ruled_all S asks R)
  good-all [] R g = g
  good-all (a ∷ asks) R g = good-all asks (ruled S a R) (good-ruled a R g)

  all_after : (asks : List set.Ask) (R : Room) → Good S R → (c : ℕ → ℕ) → after_all profile asks (held_of c R) ≡ held_of (ruled_all_cards S asks R c) (ruled_all S asks R)
  all_after [] R g c = refl
  all_after (a ∷ asks) R g c = ap {B = Held} (λ H. after_all profile asks H) (after_is R g c a) ∙ all_after asks (ruled S a R) (good-ruled a R g) (ruled_cards S a R c)

  all-moves : (asks : List set.Ask) (R : Room) → Good S R → (c : ℕ → ℕ) → all_moves profile asks (held_of c R) ≡ all_ruled_moves S asks R
  all-moves [] R g c = refl
  all-moves (a ∷ asks) R g c =
      ap₂ {C = List ℕ} ◌∷◌ (moves-are R g c a) (ap {B = List ℕ} (λ H. all_moves profile asks H) (after_is R g c a) ∙ all-moves asks (ruled S a R) (good-ruled a R g) (ruled_cards S a R c))

-- ONE REQUEST on what passes the check
pub request_ruled : RequestRuled
request_ruled profile q v L F f c =
    subst (λ (H : Held). AsRuled (shares_of profile slots) (cards_after (outcome (shares_of profile slots) q (room_of slots F)) q v (cards_of L)) (called profile q v H) (outcome (shares_of profile slots) q (room_of slots F))) whole
    (as-ruled profile (checked-known profile slots F both) (height_of (length slots)) (checked profile slots F both).0 (checked profile slots F both).1 (room_of slots F) (checked profile slots F both).2 (cards_of L) q v)
  where
    slots : List ℕ
    slots = L.slots

    both : check_both profile slots F ≡ 0
    both = room-passes profile L F c

    whole : held_of (cards_of L) (room_of slots F) ≡ record { lent = L; forecast = F }
    whole = λ i. record { lent = lent-shown profile L F c i; forecast = forecast-shown profile slots F both f i }

-- FROM MAKE
module _ (profile : ℕ) (known : T (is_profile profile)) (h : ℕ) (from : 1 ≤ h) (to : h ≤ 6) (L : Lent) (e : length L.slots ≡ 64 * 2 ^ h) (c : length L.cards ≡ length L.slots) (t : length L.table ≡ table_size h) (asks : List set.Ask) where
  abbrev U : Shares
  U = shares (profile_of profile) h

  abbrev none : ℕ → ℕ
  none k = 0

  begins : made profile L ≡ held_of none (empty_room h)
  begins = ap (λ (m : Made). record { lent = m.lent; forecast = m.forecast }) (made-is profile known h from to L e c t)

  there : after_all profile asks (made profile L) ≡ held_of (ruled_all_cards U asks (empty_room h) none) (ruled_all U asks (empty_room h))
  there = ap {B = Held} (λ H. after_all profile asks H) begins ∙ all_after profile known h from to asks (empty_room h) (good-empty (profile_of profile) h) none

  ruled-made : IsRoom profile U (ruled_all U asks (empty_room h)) (ruled_all_cards U asks (empty_room h) none) (after_all profile asks (made profile L)) × (all_moves profile asks (made profile L) ≡ all_ruled_moves U asks (empty_room h))
  ruled-made = (
    subst (IsRoom profile U (ruled_all U asks (empty_room h)) (ruled_all_cards U asks (empty_room h) none)) (sym there)
        (is_room profile known h from to (ruled_all U asks (empty_room h)) (good-all profile known h from to asks (empty_room h) (good-empty (profile_of profile) h)) (ruled_all_cards U asks (empty_room h) none)),
    ap {B = List ℕ} (λ H. all_moves profile asks H) begins ∙ all-moves profile known h from to asks (empty_room h) (good-empty (profile_of profile) h) none,
  )

pub sequence_ruled : SequenceRuled
sequence_ruled First h from to L e c t asks = ruled-made 1 tt h from to L e c t asks
sequence_ruled Second h from to L e c t asks = ruled-made 2 tt h from to L e c t asks
