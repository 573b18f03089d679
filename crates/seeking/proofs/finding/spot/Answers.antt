-- `spot` tells where a search ends, what the segment holds there, and the key before.
use Rattle.std.proofs.Common.{◌≡◌, ℕ, ◌≤◌, List, length, get_or, refl, arith}
use Rattle.slots.specs.Segments.{Segments, segments_of}
use Rattle.slots.specs.Keys.{Listed}
use Rattle.slots.specs.Shown.{seat}
use Rattle.seats.specs.Bounds.{Bounded, Indexed}
use Rattle.seats.proofs.Indexes.{few-segments}
use Rattle.seeking.proofs.Spots.{seat-room, seat-counted, spot_is}
use Rattle.seeking.proofs.finding.spot.Goals as goal

-- the segment that is found, for the list at hand
seated : (key : ℕ) {s : ℕ} {ss : Segments} {list bounds table : List ℕ} → Indexed ss list bounds table
    → ((ts : Segments) → Listed ts → length ts ≤ 64 → Bounded 1 ts bounds → s ≡ seat key ts) → s ≡ seat key ss
seated key {ss = ss} ix place = place ss ix.shows.listed (few-segments ix) ix.bound

pub bounds-table-segment : goal.bounds-table-segment
bounds-table-segment c = seat-counted _ _ _ _ _ c.requires.0 _ (seated _ c.requires.0 c.seat_of-segment.ensures.place)

pub place_in-rest-requires : goal.place_in-rest-requires
place_in-rest-requires c = seat-room _ _ _ _ _ c.requires.0 _ (seated _ c.requires.0 c.seat_of-segment.ensures.place)

pub bounds-list-rest : goal.bounds-list-rest
bounds-list-rest c =
    let room = seat-room _ _ _ _ _ c.requires.0 _ (seated _ c.requires.0 c.seat_of-segment.ensures.place) in
    omega arith

pub returns : goal.returns
returns c =
    let a = c.args in
    let seg = c.seat_of-segment in
    let q = c.place_in-rest in
    spot_is a.key (segments_of a.list.now) a.list.now a.bounds.now a.table.now c.requires.0 (omega arith) seg.result (get_or a.table.now seg.result 0) q.result
    (seated _ c.requires.0 seg.ensures.place) refl q.ensures.place c.place_at-at.result c.before_at-before.result c.requires.1 c.place_at-at.ensures c.before_at-before.ensures
