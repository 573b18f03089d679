-- Demand 2, first sentence: from make on, the public calls answer as the plain set does, and hold its events.
use mathlib.Core.Path.{◌≡◌, refl, sym, ap, ap₂, subst, ◌∙◌}
use mathlib.Core.Bool.{◌&&◌}
use mathlib.Core.List.{List, [], ◌∷◌, Memᴰ as Mem}
use Prim.Native.Nat.{ℕ, ◌*◌, ◌^◌, ◌≤◌}
use native.Mathlib.Nat.{mul_comm}
use lib.Dec.{T, ltb, eqb}
use borrow.Author.Tests.{eq-eqb, ne_eqb}
use lib.ListN.{length}
use Rattle.std.proofs.Common.{if◌then◌else◌}
use Rattle.lists.specs.Lists.{All}
use Rattle.lists.proofs.Tests.{eq→eqb}
use Rattle.slots.specs.Segments.{keys, live, height_of, segments_of, render}
use Rattle.slots.specs.Keys.{Rising}
use Rattle.slots.proofs.HeightLaws.{height-is}
use Rattle.slots.proofs.Render.{live-render}
use Rattle.levels.specs.Tables.{table_size}
use Rattle.rules.specs.declared.Request.{Request}
use Rattle.rules.specs.declared.Request.TheVariants.{Insert, Delete}
use Rattle.rules.specs.declared.Profile.{Profile}
use Rattle.rules.specs.declared.Profile.TheVariants.{First, Second}
use Rattle.rules.specs.Profiles.{is_profile, profile_of, most, fewest}
use Rattle.rules.specs.Shares.{shares, capacity, sparse_below}
use Rattle.rules.specs.Placing.{Answer, Outcome}
use Rattle.rules.specs.Looking.{Found, Scanned}
use Rattle.rules.specs.Cards.{card_at, carded}
use Rattle.rules.specs.Lent.{Lent, cards_of, laid}
use Rattle.rules.specs.Checks.{shares_of, check_both, check_read, check}
use Rattle.rules.specs.Calls.{room_of, Called, request}
use Rattle.demands.specs.PlainSet as set
use Rattle.demands.specs.Demand2.{Holds, Held, told, after, all_told, after_all, made, SequenceAnswered}
use Rattle.demands.specs.Demand3.{set_after}
use Rattle.rules.proofs.Sharing.Table.{whole}
use Rattle.demands.proofs.Cards.Beside.{beside-keys, at-live}
use Rattle.demands.proofs.Requests.KeysKept.{keys_kept}
use Rattle.demands.proofs.Requests.CardsKept.{agree-carded}
use Rattle.demands.proofs.Requests.Checked.{passed, list-passes, checked, keys-shown}
use Rattle.demands.proofs.Requests.Tabled.{check-passed, room-passes, read-passes}
use Rattle.demands.proofs.Refusals.Rows.{most-keys}
use Rattle.demands.proofs.Refusals.CheckCases.{lookup-passed, scan-passed}
use Rattle.demands.proofs.Requests.SingleCalls.{lent_outcome, by_number, lent-accepted, lent-refused, request-answer, request_keeps, good-lent}
use Rattle.demands.proofs.Requests.MadeEmpty.{made-is, made-length, made-passes, made-keys}
use Rattle.demands.proofs.Sets.SetSteps.{insert-number, delete-number, delete-sparse}
use Rattle.demands.proofs.Sets.SetCards.{told-agree}
use Rattle.demands.proofs.Sets.SetLookup.{lookup-told}
use Rattle.demands.proofs.Sets.SetScan.{scan-told}

-- what is lent passes the check, at height h, and holds these events
pub record Stands (profile h : ℕ) (H : Held) (E : set.Events) : Type 0 where
  pub passes : check profile H.lent H.forecast ≡ 0
  pub height : height_of (length H.lent.slots) ≡ h
  pub holds : Holds E H.lent

-- what a request that is accepted makes of events; v is the card that comes with it
abbrev events_after : Request → ℕ → set.Events → set.Events
events_after q v E = record { keys = set_after q E.keys; card = carded q v E.card }

module _ (profile h : ℕ) (from : 1 ≤ h) (to : h ≤ 6) (H : Held) (E : set.Events) (I : Stands profile h H E) where
  abbrev p : Profile
  p = profile_of profile

  abbrev slots : List ℕ
  slots = H.lent.slots

  room : check_both profile slots H.forecast ≡ 0
  room = room-passes profile H.lent H.forecast I.passes

  rises : Rising (keys (segments_of slots))
  rises = (checked profile slots H.forecast room).2.proper.listed.rising

  -- what the slots show, in the set's words
  shown : keys (segments_of slots) ≡ E.keys
  shown = keys-shown profile slots (passed profile slots (list-passes profile slots H.forecast room)) ∙ I.holds.keys

  -- and the card that is read of each key
  cards-shown : All (λ k. cards_of H.lent k ≡ E.card k) E.keys
  cards-shown k m = ap (λ (cs : List ℕ). card_at slots cs k) I.holds.cards ∙ at-live E.card slots k (subst (Mem k) (sym I.holds.keys) m)

  full : capacity (shares_of profile slots) ≡ most p * 2 ^ h
  full = most-keys profile slots h from to I.height

  few : sparse_below (shares_of profile slots) ≡ fewest p * 2 ^ h
  few = ap (λ (n : ℕ). sparse_below (shares p n)) I.height ∙ ap (λ (n : ℕ). 2 ^ h * n) (whole p h from to).1 ∙ mul_comm (2 ^ h) (fewest p)

  -- INSERT AND DELETE
  number-insert : (y v : ℕ) → (request profile (Insert y) v H.lent H.forecast).answer.number ≡ set.insert_number (most p * 2 ^ h) y E.keys
  number-insert y v =
      ap (λ (a : Answer). a.number) (request-answer profile (Insert y) v H.lent H.forecast I.passes)
      ∙ insert-number (shares_of profile slots) y (room_of slots H.forecast) ∙ ap₂ (λ (n : ℕ) (xs : List ℕ). set.insert_number n y xs) full shown

  number-delete : (y : ℕ) → (request profile (Delete y) 0 H.lent H.forecast).answer.number ≡ set.delete_number y E.keys
  number-delete y =
      ap (λ (a : Answer). a.number) (request-answer profile (Delete y) 0 H.lent H.forecast I.passes)
      ∙ delete-number (shares_of profile slots) y (room_of slots H.forecast) ∙ ap (set.delete_number y) shown

  sparse-delete : (y : ℕ)
      → (request profile (Delete y) 0 H.lent H.forecast).answer.sparse ≡ eqb (set.delete_number y E.keys) 0 && ltb (length (set.remove y E.keys)) (fewest p * 2 ^ h)
  sparse-delete y =
      ap (λ (a : Answer). a.sparse) (request-answer profile (Delete y) 0 H.lent H.forecast I.passes)
      ∙ delete-sparse (shares_of profile slots) y (room_of slots H.forecast) (checked profile slots H.forecast room).2.proper.listed
      ∙ ap₂ (λ (n : ℕ) (xs : List ℕ). eqb (set.delete_number y xs) 0 && ltb (length (set.remove y xs)) n) few shown

  -- what is lent after a request
  module _ (q : Request) (v : ℕ) where
    abbrev next : Called
    next = request profile q v H.lent H.forecast

    abbrev o : Outcome
    o = lent_outcome profile q slots H.forecast

    accepted-keys : o.answer.number ≡ 0 → live (render 0 o.room.segments) ≡ set_after q E.keys
    accepted-keys n =
        live-render o.room.segments (good-lent profile q slots H.forecast room).proper.listed.live
        ∙ keys_kept (shares_of profile slots) q (room_of slots H.forecast) (checked profile slots H.forecast room).2.proper (eq→eqb o.answer.number 0 n)
        ∙ ap (set_after q) shown

    accepted-holds : o.answer.number ≡ 0 → Holds (events_after q v E) (laid (carded q v (cards_of H.lent)) (render 0 o.room.segments))
    accepted-holds n = record {
      keys = accepted-keys n;
      cards = beside-keys (carded q v (cards_of H.lent)) (carded q v E.card) o.room.segments (good-lent profile q slots H.forecast room).proper.listed.live
          (agree-carded (shares_of profile slots) (room_of slots H.forecast) (checked profile slots H.forecast room).2.proper v (cards_of H.lent) E.card (rw shown cards-shown) q (eq→eqb o.answer.number 0 n));
    }

    next-holds : Holds (if eqb next.answer.number 0 then events_after q v E else E) next.lent
    next-holds =
        by_number profile q v H.lent H.forecast (Holds (if eqb next.answer.number 0 then events_after q v E else E) next.lent)
        (λ n. rw (lent-accepted profile q v H.lent H.forecast I.passes n, eq-eqb o.answer.number 0 n) (accepted-holds n))
        (λ n. rw (lent-refused profile q v H.lent H.forecast I.passes n, ne_eqb o.answer.number 0 n) I.holds)

    next-stands : (X : set.Events) → (if eqb next.answer.number 0 then events_after q v E else E) ≡ X → Stands profile h (record { lent = next.lent; forecast = next.forecast }) X
    next-stands X e = record {
      passes = (request_keeps profile q v H.lent H.forecast I.passes).0;
      height = ap height_of (request_keeps profile q v H.lent H.forecast I.passes).1 ∙ I.height;
      holds = subst (λ (Y : set.Events). Holds Y next.lent) e next-holds;
    }

  -- LOOKUP AND SCAN
  read-holds : check_read profile H.lent ≡ 0
  read-holds = read-passes profile H.lent E.card (list-passes profile slots H.forecast room) I.holds.cards (check-passed profile H.lent H.forecast I.passes).2

  -- the set that the slots show, with the cards that are read, tells what the events tell
  read_told : (a : set.Ask) → set.told (most p * 2 ^ h) (fewest p * 2 ^ h) a (record { keys = keys (segments_of slots); card = cards_of H.lent }) ≡ set.told (most p * 2 ^ h) (fewest p * 2 ^ h) a E
  read_told a =
      ap (λ (ks : List ℕ). set.told (most p * 2 ^ h) (fewest p * 2 ^ h) a (record { keys = ks; card = cards_of H.lent })) shown
      ∙ told-agree E.keys (cards_of H.lent) E.card cards-shown (most p * 2 ^ h) (fewest p * 2 ^ h) a

  -- EACH ASK: what is told, and what is left
  pub same-told : (a : set.Ask) → told profile a H ≡ set.told (most p * 2 ^ h) (fewest p * 2 ^ h) a E
  same-told (set.Insert y v) = ap set.Inserted (number-insert y v)
  same-told (set.Delete y) = ap₂ set.Deleted (number-delete y) (sparse-delete y)
  same-told (set.Lookup y) =
      ap (λ (f : Found). set.Found f.number f.present f.card) (lookup-passed profile H.lent y read-holds)
      ∙ lookup-told y (cards_of H.lent) (segments_of slots) (most p * 2 ^ h) (fewest p * 2 ^ h) ∙ read_told (set.Lookup y)
  same-told (set.Scan a out cards) =
      ap (λ (r : Scanned). set.Scanned r.number r.written r.more r.output r.cards) (scan-passed profile H.lent a out cards read-holds)
      ∙ scan-told a (cards_of H.lent) (segments_of slots) out cards (most p * 2 ^ h) (fewest p * 2 ^ h) rises ∙ read_told (set.Scan a out cards)

  pub same_after : (a : set.Ask) → Stands profile h (after profile a H) (set.after (most p * 2 ^ h) a E)
  same_after (set.Insert y v) = next-stands (Insert y) v (set.after (most p * 2 ^ h) (set.Insert y v) E) (ap (λ (n : ℕ). if eqb n 0 then set.gain y v E else E) (number-insert y v))
  same_after (set.Delete y) = next-stands (Delete y) 0 (set.after (most p * 2 ^ h) (set.Delete y) E) (ap (λ (n : ℕ). if eqb n 0 then set.lose y E else E) (number-delete y))
  same_after (set.Lookup y) = I
  same_after (set.Scan a out cards) = I

-- ANY SEQUENCE
module _ (profile : ℕ) (known : T (is_profile profile)) (h : ℕ) (from : 1 ≤ h) (to : h ≤ 6) where
  abbrev up_to : ℕ
  up_to = most (profile_of profile) * 2 ^ h

  abbrev below : ℕ
  below = fewest (profile_of profile) * 2 ^ h

  from-held : (asks : List set.Ask) (H : Held) (E : set.Events) → Stands profile h H E
      → (all_told profile asks H ≡ set.all_told up_to below asks E) × Stands profile h (after_all profile asks H) (set.after_all up_to asks E)
  from-held [] H E I = (refl, I)
  from-held (a ∷ asks) H E I =
      let rest : (all_told profile asks (after profile a H) ≡ set.all_told up_to below asks (set.after up_to a E)) × Stands profile h (after_all profile asks (after profile a H)) (set.after_all up_to asks (set.after up_to a E))
      = from-held asks (after profile a H) (set.after up_to a E) (same_after profile h from to H E I a) in
      (ap₂ {C = List set.Told} ◌∷◌ (same-told profile h from to H E I a) rest.0, rest.1)

  -- FROM MAKE
  module _ (L : Lent) (e : length L.slots ≡ 64 * 2 ^ h) (c : length L.cards ≡ length L.slots) (t : length L.table ≡ table_size h) where
    pub made-stands : Stands profile h (made profile L) set.empty
    made-stands = record {
      passes = made-passes profile known h from to L e c t;
      height = ap height_of (made-length profile known h from to L e c t) ∙ height-is h from to;
      holds = record { keys = made-keys profile known h from to L e c t; cards = rw (made-is profile known h from to L e c t) refl };
    }

    from-made : (asks : List set.Ask)
        → (all_told profile asks (made profile L) ≡ set.all_told up_to below asks set.empty) × Stands profile h (after_all profile asks (made profile L)) (set.after_all up_to asks set.empty)
    from-made asks = from-held asks (made profile L) set.empty made-stands

pub sequence_answered : SequenceAnswered
sequence_answered First h from to L e c t asks = let r = from-made 1 tt h from to L e c t asks in (r.0, r.1.holds, r.1.passes)
sequence_answered Second h from to L e c t asks = let r = from-made 2 tt h from to L e c t asks in (r.0, r.1.holds, r.1.passes)
