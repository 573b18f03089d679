-- `place_of` tells where a marker will stand, by the counts before its segment and its place there.
use Rattle.std.proofs.Common.{◌≡◌, ℕ, ◌+◌, ◌-◌, ◌*◌, ◌<◌, ◌≤◌, true, false, [], length, get_or, take, drop, arith, length-take}
use mathlib.Core.List.{Memᴰ as Mem}
use Rattle.slots.specs.Segments.{Segments}
use Rattle.slots.specs.Keys.{below}
use Rattle.marks.specs.Marking.{after, Asked}
use Rattle.marks.proofs.Standing.{place_same, place-more, place-less}
use Rattle.marks.proofs.place_of.Goals as goal
use Rattle.marks.proofs.place_of.Goals.{After-position}

-- what the keys before and the keys below come to, with the request done
module _ (P : After-position) where
  abbrev b : ℕ
  b = P.keys_in.result

  few : b + P.position.result ≤ 4160
  few =
      omega (
        arith,
        P.keys_in.ensures.range,
        P.position.ensures.range,
        length-take (get_or P.args.counts.now P.args.s 0) (take (64 * P.args.s + 64 - 64 * P.args.s) (drop (64 * P.args.s) P.args.list.now)),
        P.requires.n_in_bounds.2 P.args.s (omega arith),
      )

  module _ (ss : Segments) (q : Asked P.args.list.now P.args.counts.now P.args.w ss) (m : Mem P.args.marker (get_or ss P.args.s [])) where
    same : P.args.marker ≤ P.args.w.key → b + P.position.result ≡ length (below P.args.marker (after P.args.w ss))
    same =
        place_same P.args.list.now P.args.counts.now P.args.w ss q P.requires.n_in_bounds.0 P.requires.n_in_bounds.1 P.args.s P.args.marker b P.position.result P.requires.first_le_s.0 P.requires.first_le_s.1 m
        P.keys_in.ensures.sum P.position.ensures.place

    more : P.args.w.grows ≡ true → P.args.w.key < P.args.marker → b + P.position.result + 1 ≡ length (below P.args.marker (after P.args.w ss))
    more t =
        place-more P.args.list.now P.args.counts.now P.args.w ss q P.requires.n_in_bounds.0 P.requires.n_in_bounds.1 P.args.s P.args.marker b P.position.result P.requires.first_le_s.0 P.requires.first_le_s.1 m
        P.keys_in.ensures.sum P.position.ensures.place (rw t tt)

    less : P.args.w.grows ≡ false → P.args.w.key < P.args.marker → length (below P.args.marker (after P.args.w ss)) + 1 ≡ b + P.position.result
    less t =
        place-less P.args.list.now P.args.counts.now P.args.w ss q P.requires.n_in_bounds.0 P.requires.n_in_bounds.1 P.args.s P.args.marker b P.position.result P.requires.first_le_s.0 P.requires.first_le_s.1 m
        P.keys_in.ensures.sum P.position.ensures.place (rw t tt)

pub returns-then-marker-w : goal.returns-then-marker-w
returns-then-marker-w c = λ ss q m. same (goal.at.returns-then-marker-w c).After-position ss q m c.if-marker-w.true

pub returns-then-w : goal.returns-then-w
returns-then-w c = λ ss q m. more (goal.at.returns-then-w c).After-position ss q m c.if-w.true c.if-marker-w.false

pub returns : goal.returns
returns c = λ ss q m. omega (arith, few (goal.at.returns c).After-position, less (goal.at.returns c).After-position ss q m c.if-w.false c.if-marker-w.false)
