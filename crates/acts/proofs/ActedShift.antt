-- What `note` and `shift` ask for and leave: the request noted, and its key put in or taken out where nothing is swept.
use mathlib.Core.Path.{◌≡◌, sym, ap, ◌∙◌, subst}
use mathlib.Core.Bool.{Bool, true, false, not}
use mathlib.Core.Option
use mathlib.Core.Option.{Option, none, some}
use mathlib.Core.List.{List, [], Memᴰ as Mem}
use Prim.Native.Nat.{ℕ, ◌+◌, ◌≤◌, ◌<◌}
use native.Mathlib.Decide.{dec_lt}
use native.Mathlib.Omega.{arith}
use lib.Dec.{T}
use lib.ListN.{length, get_or, set}
use Rattle.slots.specs.Segments.{Segments, keys, segments_of}
use Rattle.slots.specs.Keys.{member, put, cut, predecessor}
use Rattle.slots.specs.Shown.{seat, Located}
use Rattle.slots.proofs.Keys.{member→mem, not-member, segment-mem}
use Rattle.slots.proofs.Seats.{seat-free, seat-live}
use Rattle.slots.proofs.ByPlace.{place-old}
use Rattle.cells.specs.Steps.{noted, dropped}
use Rattle.forecast.specs.declared.Forecast.{Forecast}
use Rattle.forecast.specs.Cells.{used_cells}
use Rattle.forecast.specs.Tidy.{Tidy, Roomy, Became}
use Rattle.rules.specs.Shares.{Shares}
use Rattle.rules.specs.Placing.{Room, home, insert_level}
use Rattle.rules.specs.Readings.{Smallest}
use Rattle.demands.specs.History.{accepted}
use Rattle.rules.specs.Calls.{room_of}
use Rattle.demands.proofs.Sweeping.Sizes.{insert-always-finds}
use Rattle.demands.proofs.Requests.Accepted.{Inserts, insert-accepted, Deletes, delete-accepted}
use Rattle.shares.specs.declared.Shape.{Shape}
use Rattle.shares.specs.Rows.{shares_at}
use Rattle.seats.specs.Bounds.{Indexed}
use Rattle.seats.proofs.Indexes.{few-segments}
use Rattle.aims.specs.declared.Aim.{Aim}
use Rattle.records.specs.Asked.{asked}
use Rattle.aims.specs.Aims.{seat_for, level_for, level_at}
use Rattle.aims.proofs.Standing.{height-stands, lawful-stands, good-stands, shows-stands, tidy-stands}
use Rattle.aims.proofs.Places.{place-rising}
use Rattle.sweeps.specs.Acts.{cells_for, done_in, outcome_of, Acting, Noted, Left}
use Rattle.acts.proofs.Acted.{taken, located, segment-in, segments-stay}

module _ {slots : List ℕ} {F : Forecast} {bounds table : List ℕ} {k : Shape} {r : Aim} (A : Acting slots F bounds table k r) where
  abbrev ss : Segments
  ss = segments_of slots

  abbrev S : Shares
  S = shares_at k

  abbrev R : Room
  R = room_of slots F

  abbrev y : ℕ
  y = r.key

  -- NOTED
  pub note-asks : Roomy F → Tidy F × (0 < k.cells) × (k.cells ≤ 12) × (r.segment < 64)
  note-asks room = (
    tidy-stands A.stands room,
    omega (arith, A.stands.shape.cells),
    omega (arith, A.stands.shape.cells, height-stands A.stands),
    omega (arith, segment-in A, few-segments A.index),
  )

  -- as either kind
  seat-as : (g : Bool) → r.grows ≡ g → r.segment ≡ seat_for g r.key (segments_of slots)
  seat-as g e = A.accepts.segment ∙ ap (λ (b : Bool). seat_for b y ss) e

  pub noted_in : r.grows ≡ true → {N : Forecast} → Became (noted k.cells r.before r.segment (used_cells F)) N → Noted slots F k r N
  noted_in g {N} b =
      subst (λ (t : Bool). Became (cells_for S t y R) N) (sym g)
      (subst (λ (s : ℕ). Became (noted (6 + k.height) (predecessor y ss) s (used_cells F)) N) (seat-as true g)
      (subst (λ (x : ℕ). Became (noted (6 + k.height) x r.segment (used_cells F)) N) (A.accepts.before g)
      (subst (λ (p : ℕ). Became (noted p r.before r.segment (used_cells F)) N) A.stands.shape.cells b)))

  pub noted-out : r.grows ≡ false → {N : Forecast} → Became (dropped r.key (used_cells F)) N → Noted slots F k r N
  noted-out g {N} b = subst (λ (t : Bool). Became (cells_for S t y R) N) (sym g) b

  -- SHIFTED
  inserts : r.grows ≡ true → Inserts (shares_at k) r.key (room_of slots F)
  inserts g = insert-accepted S y R (subst (λ (t : Bool). T (accepted S (asked t y) R)) g (taken A))

  deletes : r.grows ≡ false → Deletes (shares_at k) r.key (room_of slots F)
  deletes g = delete-accepted S y R (subst (λ (t : Bool). T (accepted S (asked t y) R)) g (taken A))

  -- the segment of an insert that sweeps nothing has room
  pub room_in : r.grows ≡ true → r.level ≡ 0 → r.held < 64
  room_in g e =
      elim (dec_lt (length (get_or ss (home y ss) [])) (S.high 0)) [
        | yes p ↦ omega (arith, held, (lawful-stands A.stands).fits)
        | no p ↦
            let w : (l : ℕ) × (insert_level S y ss ≡ some l) × Smallest S (home y ss) _ l =
            insert-always-finds S (lawful-stands A.stands) y ss (good-stands A.stands).proper (inserts g).key (not-member y (keys ss) (inserts g).fresh) (inserts g).room (omega arith) in
            let z : 0 ≡ w.0 = ap (λ (o : Option ℕ). Option.get_or o 0) (sym unswept ∙ w.1) in
            absurd (omega (arith, z, w.2.from))
      ]
    where
      held : r.held ≡ length (get_or (segments_of slots) (home r.key (segments_of slots)) [])
      held = A.accepts.held ∙ ap (λ (j : ℕ). length (get_or (segments_of slots) j [])) (seat-as true g)

      unswept : insert_level (shares_at k) r.key (segments_of slots) ≡ none
      unswept = ap (λ (t : Bool). level_for (shares_at k) t r.key (segments_of slots)) (sym g) ∙ A.accepts.level ∙ ap level_at e

  -- a key that is taken out is one of its segment's
  pub under-out : r.grows ≡ false → r.at < r.held
  under-out g =
      let m : Mem y (keys ss) = member→mem y (keys ss) (deletes g).present in
      let there : Mem y (get_or ss r.segment []) = rw (seat-as false g) (segment-mem ss y ((shows-stands A.stands).listed.live y m) m).1 in
      omega (arith, A.accepts.held, A.accepts.at, place-old y (get_or ss r.segment []) (place-rising A.stands (located A)) there)

  left_by : r.level ≡ 0 → {slots' bounds' table' : List ℕ} → Indexed (done_in r.grows r.key (segments_of slots)) slots' bounds' table' → Left (outcome_of slots F k r) slots' bounds' table'
  left_by e {slots'} {bounds'} {table'} i =
      let j : Indexed (outcome_of slots F k r).room.segments slots' bounds' table' = subst (λ (ts : Segments). Indexed ts slots' bounds' table') (sym (segments-stay A e)) i in
      record { slots_left = j.shows.whole; index = j }

  pub shifted_in : r.grows ≡ true → r.level ≡ 0 → {slots' table' : List ℕ}
      → ((ts : Segments) (bs : List ℕ) → Indexed ts slots bs table → Located r.key ts (record { segment = r.segment; held = r.held; at = r.at; present = not r.grows })
      → T (not (member r.key (keys ts))) → 0 < r.key → Indexed (set ts (seat r.key ts) (put r.key (get_or ts (seat r.key ts) []))) slots' bs table')
      → Left (outcome_of slots F k r) slots' bounds table'
  shifted_in g e {slots'} {table'} did =
      left_by e
      (subst (λ (t : Bool). Indexed (done_in t y ss) slots' bounds table') (sym g)
      (subst (λ (s : ℕ). Indexed (set ss s (put y (get_or ss s []))) slots' bounds table') (seat-free y ss (inserts g).fresh)
      (did ss bounds A.index (located A) (inserts g).fresh (inserts g).key)))

  pub shifted-out : r.grows ≡ false → r.level ≡ 0 → {slots' bounds' table' : List ℕ}
      → ((ts : Segments) → Indexed ts slots bounds table → Located r.key ts (record { segment = r.segment; held = r.held; at = r.at; present = not r.grows })
      → T (member r.key (keys ts)) → Indexed (set ts (seat r.key ts) (cut r.key (get_or ts (seat r.key ts) []))) slots' bounds' table')
      → Left (outcome_of slots F k r) slots' bounds' table'
  shifted-out g e {slots'} {bounds'} {table'} did =
      left_by e
      (subst (λ (t : Bool). Indexed (done_in t y ss) slots' bounds' table') (sym g)
      (subst (λ (s : ℕ). Indexed (set ss s (cut y (get_or ss s []))) slots' bounds' table') (seat-live y ss (deletes g).present)
      (did ss A.index (located A) (deletes g).present)))
