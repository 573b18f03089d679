-- A request that is accepted, of either kind: what it comes to by the rules, where its key's place is, and the numbers that code needs.
use mathlib.Core.Path.{◌≡◌, refl, sym, ap, ap₂, ◌∙◌, subst}
use mathlib.Core.Bool.{Bool, true, false, not}
use mathlib.Core.Option.{Option, none, some}
use mathlib.Core.List.{List, []}
use Prim.Native.Nat.{ℕ, zero, suc, ◌+◌, ◌*◌, ◌≤◌, ◌<◌}
use native.Mathlib.Omega.{arith}
use lib.Dec.{T, ltb}
use lib.ListN.{length, get_or}
use Rattle.std.proofs.Common.{if◌then◌else◌}
use Rattle.lists.specs.Lists.{All}
use Rattle.lists.proofs.Tests.{is_true, is_false}
use Rattle.lists.proofs.Members.{at_mem}
use Rattle.lists.proofs.Filtered.{only-length}
use Rattle.slots.specs.Segments.{Segments, keys, segments_of}
use Rattle.slots.specs.Keys.{member, below, above, cut, predecessor, segment_of}
use Rattle.slots.specs.Shown.{seat, Located}
use Rattle.slots.proofs.Seats.{seat-free, seat-live}
use Rattle.cells.specs.declared.Cell.{Cell}
use Rattle.cells.specs.Steps.{retargeted}
use Rattle.cells.proofs.Ruled.{Placed}
use Rattle.forecast.specs.declared.Forecast.{Forecast}
use Rattle.forecast.specs.Tidy.{Marker}
use Rattle.rules.specs.Shares.{Shares, sparse_below, cells_of}
use Rattle.rules.specs.Placing.{Room, Outcome, home, put_in, cut_from, chosen, insert_level, delete_level, sweep, settled, insert_key, delete_key, outcome}
use Rattle.demands.specs.History.{accepted}
use Rattle.rules.specs.Calls.{room_of}
use Rattle.demands.proofs.Sharing.Climb.{climb_is}
use Rattle.demands.proofs.Sharing.Weighing.{noted-good, dropped-good}
use Rattle.demands.proofs.Sweeping.Settled.{AtMost}
use Rattle.demands.proofs.Sweeping.Unswept.{noted-placed, dropped-placed, unswept-insert, unswept-delete}
use Rattle.demands.proofs.Requests.Accepted.{insert-accepted, delete-accepted}
use Rattle.demands.proofs.Requests.KeysKept.{settled-cells}
use Rattle.demands.proofs.Requests.StaysGood.{Good, good-next}
use Rattle.shares.specs.declared.Shape.{Shape}
use Rattle.shares.specs.Rows.{shares_at}
use Rattle.seats.proofs.Indexes.{counts-held}
use Rattle.aims.specs.declared.Aim.{Aim}
use Rattle.records.specs.Asked.{asked}
use Rattle.aims.specs.Aims.{seat_for, level_for, level_at}
use Rattle.aims.proofs.Standing.{lawful-stands, good-stands, shows-stands, segments-stand, long-stands}
use Rattle.aims.proofs.Places.{place_in}
use Rattle.aims.proofs.Answers.{level-some}
use Rattle.sweeps.specs.Acts.{cells_for, done_in, outcome_of, Acting}

-- OF EITHER KIND
module _ (S : Shares) (y : ℕ) (R : Room) where
  -- what is settled
  settles : (g : Bool) → T (accepted S (asked g y) R)
      → (n : ℕ) × (b : Bool) × (outcome S (asked g y) R ≡ settled S (seat_for g y R.segments) (cells_for S g y R) (done_in g y R.segments) n b (level_for S g y R.segments))
  unfolding insert_key delete_key
  settles true t = (length (above y (get_or R.segments (home y R.segments) [])) + 1, false, (insert-accepted S y R t).is)
  settles false t = (
    length (above y (get_or R.segments (segment_of R.segments y) [])),
    ltb (length (keys (cut_from y R.segments))) (sparse_below S),
    (delete-accepted S y R t).is,
  )

  -- a key that is put in is new, and one that is taken out is live
  lives : (g : Bool) → T (accepted S (asked g y) R) → not g ≡ member y (keys R.segments)
  lives true t = sym (is_false (member y (keys R.segments)) (insert-accepted S y R t).fresh)
  lives false t = sym (is_true (member y (keys R.segments)) (delete-accepted S y R t).present)

  -- a search for it ends in its segment
  sits : (g : Bool) → T (accepted S (asked g y) R) → seat_for g y R.segments ≡ seat y R.segments
  sits true t = sym (seat-free y R.segments (insert-accepted S y R t).fresh)
  sits false t = sym (seat-live y R.segments (delete-accepted S y R t).present)

  -- the level is one of the list's
  chosen-most : (s : ℕ) (ms : Segments) (o : Option ℕ) → chosen S s ms ≡ o → AtMost S.height o
  chosen-most s ms none e = tt
  chosen-most s ms (some l) e = (((climb_is S s ms).0 l).0 e).to

  level-most : (g : Bool) → AtMost S.height (level_for S g y R.segments)
  unfolding insert_level delete_level
  level-most true = go (ltb (length (get_or R.segments (home y R.segments) [])) (S.high 0))
    where
      go : (b : Bool) → AtMost S.height (if b then none else chosen S (home y R.segments) (put_in y R.segments))
      go true = tt
      go false = chosen-most _ _ (chosen S (home y R.segments) (put_in y R.segments)) refl
  level-most false = go (ltb (length (cut y (get_or R.segments (segment_of R.segments y) []))) (S.low 0))
    where
      go : (b : Bool) → AtMost S.height (if b then chosen S (segment_of R.segments y) (cut_from y R.segments) else none)
      go true = chosen-most _ _ (chosen S (segment_of R.segments y) (cut_from y R.segments)) refl
      go false = tt

  module _ (G : Good S R) where
    -- cells with the request noted name live keys, or the front, and their segments, also with the request done and nothing swept
    pub markers-noted : (g : Bool) → All (λ c. Marker R.segments c.marker) (cells_for S g y R)
    markers-noted true = (noted-good S y R G).live
    markers-noted false = λ c m. ((dropped-good S y R G).live c m).0

    pub placed-noted : (g : Bool) → Placed (segment_of R.segments) (cells_for S g y R)
    placed-noted true = noted-placed (segment_of R.segments) (cells_of S) (predecessor y R.segments) (home y R.segments) R.cells G.placed refl
    placed-noted false = dropped-placed (segment_of R.segments) y R.cells G.placed

    aims-stay : (g : Bool) → T (accepted S (asked g y) R) → retargeted (segment_of (done_in g y R.segments)) (cells_for S g y R) ≡ cells_for S g y R
    aims-stay true t = unswept-insert S y R G (insert-accepted S y R t).fresh
    aims-stay false t = unswept-delete S y R G

level-number : (h l : ℕ) → AtMost h (level_at l) → l ≤ h
level-number h zero p = omega arith
level-number h (suc l) p = p

-- OF AN ACCEPTED REQUEST
module _ {slots : List ℕ} {F : Forecast} {bounds table : List ℕ} {k : Shape} {r : Aim} (A : Acting slots F bounds table k r) where
  abbrev ss : Segments
  ss = segments_of slots

  abbrev S : Shares
  S = shares_at k

  abbrev R : Room
  R = room_of slots F

  abbrev cs : List Cell
  cs = cells_for S r.grows r.key R

  abbrev ms : Segments
  ms = done_in r.grows r.key ss

  pub taken : T (accepted (shares_at k) (asked r.grows r.key) (room_of slots F))
  taken = rw A.accepts.accepted tt

  -- ITS PLACE
  at-seat : r.segment ≡ seat r.key (segments_of slots)
  at-seat = A.accepts.segment ∙ sits S r.key R r.grows taken

  pub located : Located r.key (segments_of slots) (record { segment = r.segment; held = r.held; at = r.at; present = not r.grows })
  located = record {
    segment = at-seat;
    held = A.accepts.held ∙ ap (λ (j : ℕ). length (get_or ss j [])) at-seat;
    at = A.accepts.at ∙ ap (λ (j : ℕ). length (below r.key (get_or ss j []))) at-seat;
    present = lives S r.key R r.grows taken;
  }

  pub segment-in : r.segment < length (segments_of slots)
  segment-in = place_in A.stands located

  pub numbers : (64 * r.segment + 64 ≤ length slots) × (r.at ≤ r.held) × (r.held ≤ 64)
  numbers = (
    omega (arith, segment-in, long-stands A.stands, segments-stand A.stands),
    omega (arith, A.accepts.at, A.accepts.held, only-length (λ j. ltb j r.key) (get_or ss r.segment [])),
    omega (arith, A.accepts.held, (shows-stands A.stands).fits (get_or ss r.segment []) (at_mem ss r.segment [] segment-in)),
  )

  pub counted : get_or table r.segment 0 ≡ r.held
  counted = counts-held A.index r.segment segment-in ∙ sym A.accepts.held

  pub level-height : r.level ≤ k.height
  level-height = level-number S.height r.level (subst (AtMost S.height) A.accepts.level (level-most S r.key R r.grows))

  -- ITS OUTCOME
  outcome-is : (n : ℕ) × (b : Bool) × (outcome_of slots F k r ≡ settled (shares_at k) r.segment (cells_for (shares_at k) r.grows r.key (room_of slots F))
      (done_in r.grows r.key (segments_of slots)) n b (level_at r.level))
  outcome-is =
      let q = settles S r.key R r.grows taken in
      (q.0, q.1, q.2 ∙ ap₂ {C = Outcome} (λ (s : ℕ) (o : Option ℕ). settled S s cs ms q.0 q.1 o) (sym A.accepts.segment) A.accepts.level)

  pub cells-after : (outcome_of slots F k r).room.cells
      ≡ retargeted (segment_of (outcome_of slots F k r).room.segments) (cells_for (shares_at k) r.grows r.key (room_of slots F))
  cells-after =
      subst (λ (o : Outcome). o.room.cells ≡ retargeted (segment_of o.room.segments) cs) (sym outcome-is.2)
      (settled-cells S r.segment cs ms outcome-is.0 outcome-is.1 (level_at r.level))

  pub segments-stay : r.level ≡ 0 → (outcome_of slots F k r).room.segments ≡ done_in r.grows r.key (segments_of slots)
  unfolding settled
  segments-stay e =
      ap (λ (o : Outcome). o.room.segments) outcome-is.2
      ∙ ap (λ (l : ℕ). (settled S r.segment cs ms outcome-is.0 outcome-is.1 (level_at l)).room.segments) e

  pub segments-swept : 1 ≤ r.level → (outcome_of slots F k r).room.segments
      ≡ sweep (shares_at k) r.level r.segment (cells_for (shares_at k) r.grows r.key (room_of slots F)) (done_in r.grows r.key (segments_of slots))
  unfolding settled
  segments-swept h =
      ap (λ (o : Outcome). o.room.segments) outcome-is.2
      ∙ ap (λ (o : Option ℕ). (settled S r.segment cs ms outcome-is.0 outcome-is.1 o).room.segments) (sym (level-some r.level h))

  pub cells_stay : r.level ≡ 0 → (outcome_of slots F k r).room.cells ≡ cells_for (shares_at k) r.grows r.key (room_of slots F)
  cells_stay e =
      cells-after ∙ ap (λ (ts : Segments). retargeted (segment_of ts) cs) (segments-stay e)
      ∙ aims-stay S r.key R (good-stands A.stands) r.grows taken

  pub good-after : Good (shares_at k) (outcome_of slots F k r).room
  good-after = good-next S (lawful-stands A.stands) (asked r.grows r.key) R (good-stands A.stands)
