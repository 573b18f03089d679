-- The cells after a request that sweeps: those outside the window still name their segments, so that with the others aimed again they are the rules'.
use mathlib.Core.Path.{◌≡◌, sym, ap, ◌∙◌, subst}
use mathlib.Core.Bool.{Bool, true, false}
use mathlib.Core.Logic.{inl, inr}
use mathlib.Core.List.Memᴰ.{map as mem-map}
use mathlib.Core.List.{List, [], Memᴰ as Mem}
use Prim.Native.Nat.{ℕ, ◌+◌, ◌*◌, ◌/◌, ◌^◌, ◌≤◌, ◌<◌}
use native.Mathlib.Omega.{arith}
use lib.ListN.{length}
use Rattle.lists.specs.Lists.{splice}
use Rattle.lists.proofs.Maps.{length-splice}
use Rattle.slots.specs.Segments.{Segments, keys, segments_of}
use Rattle.slots.specs.Keys.{Listed, segment_of}
use Rattle.slots.specs.Windows.{start, window}
use Rattle.slots.proofs.Windows.{start-le, lt-end, start_fits}
use Rattle.slots.proofs.Keys.{segment-front, segment-mem}
use Rattle.slots.proofs.Within.{segment-own}
use Rattle.cells.specs.declared.Cell.{Cell}
use Rattle.cells.specs.Cells.{weight}
use Rattle.cells.specs.Steps.{aimed, retargeted}
use Rattle.forecast.specs.declared.Forecast.{Forecast}
use Rattle.forecast.specs.Cells.{used_cells, forecast_of}
use Rattle.forecast.specs.Tidy.{Became, Marker, Live, Outside, Elsewhere}
use Rattle.forecast.proofs.Became.{became-is}
use Rattle.rules.specs.Shares.{Shares}
use Rattle.rules.specs.Placing.{Room, front_weight, new_window, sweep}
use Rattle.rules.specs.Calls.{room_of}
use Rattle.demands.proofs.Sharing.SharingOut.{length-share_out}
use Rattle.demands.proofs.Sweeping.SweptWindow.{splice-set}
use Rattle.shares.specs.declared.Shape.{Shape}
use Rattle.shares.specs.Rows.{shares_at}
use Rattle.seats.specs.Bounds.{Bounded}
use Rattle.slots.proofs.Tables.{splice-beside}
use Rattle.seats.proofs.Indexes.{some-segments, few-segments}
use Rattle.aims.specs.declared.Aim.{Aim}
use Rattle.aims.specs.Aims.{seat_for}
use Rattle.aims.proofs.Standing.{good-stands, shows-stands, segments-stand}
use Rattle.sweeps.specs.Acts.{cells_for, done_in, outcome_of, Acting, Noted, Left}
use Rattle.acts.proofs.Acted.{markers-noted, placed-noted, segment-in, level-height, cells-after, segments-swept, cells_stay, good-after}

-- outside of what is replaced all is as it was, so a marker there keeps its segment
still : (i n : ℕ) (new ss : Segments) → length new ≡ n → i + n ≤ length ss → Listed ss → Listed (splice i n new ss)
    → (x : ℕ) → Marker ss x → Outside i n (segment_of ss x) → segment_of ss x ≡ segment_of (splice i n new ss) x
still i n new ss e h g g' x (inl z) o = ap (segment_of ss) z ∙ segment-front ss ∙ sym (ap (segment_of (splice i n new ss)) z ∙ segment-front (splice i n new ss))
still i n new ss e h g g' x (inr m) o =
    let p = segment-mem ss x (g.live x m) m in
    segment-own (splice i n new ss) g' (segment_of ss x) x (omega (arith, p.0, length-splice i n new ss e h))
    (subst (Mem x) (sym (splice-beside i n new ss [] e h (segment_of ss x) o)) p.1)

-- the segment of the request is in the window: the sweep is one of the segments before it
before-sweep : (g : Bool) (y : ℕ) (ss : Segments) (i n : ℕ) (new : Segments) → i ≤ seat_for g y ss → seat_for g y ss < i + n → splice i n new (done_in g y ss) ≡ splice i n new ss
before-sweep true y ss i n new p q = splice-set i n new ss _ _ p q
before-sweep false y ss i n new p q = splice-set i n new ss _ _ p q

-- the window is one of the list
window-in : {slots : List ℕ} {F : Forecast} {bounds table : List ℕ} {k : Shape} {r : Aim} → Acting slots F bounds table k r
    → start r.level r.segment + 2 ^ r.level ≤ length (segments_of slots)
window-in {k = k} {r = r} A =
    omega (arith, segments-stand A.stands, start_fits r.level k.height r.segment (level-height A) (omega (arith, segments-stand A.stands, segment-in A)))

pub window-fits : {slots : List ℕ} {F : Forecast} {bounds table : List ℕ} {k : Shape} {r : Aim} → Acting slots F bounds table k r
    → (n : ℕ) → n ≡ 2 ^ r.level → r.segment / n * n + n ≤ 64
window-fits {r = r} A n e =
    subst (λ (m : ℕ). r.segment / m * m + m ≤ 64) (sym e) (omega (arith, few-segments A.index, window-in A))

module _ {slots : List ℕ} {F : Forecast} {bounds table : List ℕ} {k : Shape} {r : Aim} (A : Acting slots F bounds table k r) {N : Forecast} (noted : Noted slots F k r N) where
  abbrev ss : Segments
  ss = segments_of slots

  abbrev S : Shares
  S = shares_at k

  abbrev R : Room
  R = room_of slots F

  abbrev cs : List Cell
  cs = cells_for S r.grows r.key R

  abbrev after : Segments
  after = (outcome_of slots F k r).room.segments

  -- NOTHING SWEPT
  pub forecast-stays : r.level ≡ 0 → N ≡ forecast_of (outcome_of slots F k r).room.cells
  forecast-stays e = became-is cs N noted ∙ ap forecast_of (sym (cells_stay A e))

  -- A WINDOW SWEPT
  live-after : Live (outcome_of slots F k r).room.segments N
  unfolding retargeted
  live-after c i =
      let i' : Mem c cs = subst (Mem c) noted.is i in
      (good-after A).ruled.live (aimed (segment_of after) c) (subst (Mem (aimed (segment_of after) c)) (sym (cells-after A)) (mem-map (aimed (segment_of after)) i'))

  abbrev new : Segments
  new = new_window S r.level r.segment cs (done_in r.grows r.key ss)

  swept-is : 1 ≤ r.level → (outcome_of slots F k r).room.segments ≡ splice (start r.level r.segment) (2 ^ r.level)
      (new_window (shares_at k) r.level r.segment (cells_for (shares_at k) r.grows r.key (room_of slots F)) (done_in r.grows r.key (segments_of slots))) (segments_of slots)
  unfolding sweep
  swept-is h =
      segments-swept A h
      ∙ before-sweep r.grows r.key ss (start r.level r.segment) (2 ^ r.level) new
      (omega (arith, A.accepts.segment, start-le r.level r.segment)) (omega (arith, A.accepts.segment, lt-end r.level r.segment))

  elsewhere : 1 ≤ r.level → Elsewhere (outcome_of slots F k r).room.segments (start r.level r.segment) (2 ^ r.level) N
  elsewhere h c i o =
      let i' : Mem c cs = subst (Mem c) noted.is i in
      let e : c.segment ≡ segment_of ss c.marker = placed-noted S r.key R (good-stands A.stands) r.grows c i' in
      e ∙ still (start r.level r.segment) (2 ^ r.level) new ss
      (length-share_out S (weight cs) (front_weight r.level r.segment cs) r.level (keys (window r.level r.segment (done_in r.grows r.key ss))))
      (window-in A)
      (shows-stands A.stands).listed (subst Listed (swept-is h) (good-after A).proper.listed) c.marker
      (markers-noted S r.key R (good-stands A.stands) r.grows c i') (subst (Outside (start r.level r.segment) (2 ^ r.level)) e o)
      ∙ ap (λ (ts : Segments). segment_of ts c.marker) (sym (swept-is h))

  pub forecast-swept : 1 ≤ r.level → {slots' bounds' table' : List ℕ} → Left (outcome_of slots F k r) slots' bounds' table' → (n : ℕ) → n ≡ 2 ^ r.level → {N' : Forecast}
      → ((ts : Segments) → Listed ts → 0 < length ts → length ts ≤ 64 → Bounded 1 ts bounds' → Live ts N → Elsewhere ts (r.segment / n * n) n N
      → Became (retargeted (segment_of ts) (used_cells N)) N')
      → N' ≡ forecast_of (outcome_of slots F k r).room.cells
  forecast-swept h L n e {N' = N'} aim =
      became-is (retargeted (segment_of after) (used_cells N)) N'
      (aim after L.index.shows.listed (some-segments L.index) (few-segments L.index) L.index.bound live-after
      (subst (λ (m : ℕ). Elsewhere after (r.segment / m * m) m N) (sym e) (elsewhere h)))
      ∙ ap forecast_of (ap (retargeted (segment_of after)) noted.is ∙ sym (cells-after A))
