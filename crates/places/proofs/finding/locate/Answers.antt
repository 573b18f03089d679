-- `locate` tells where a search ends and what the segment holds there.
use Rattle.places.proofs.finding.locate.Answers.Lemmas.{located-slot, located-past}
use Rattle.places.proofs.finding.locate.Goals as goal
mod Lemmas

pub returns-then-at-held-clause-place : goal.returns-then-at-held-clause-place
returns-then-at-held-clause-place c ss sh =
    let a = c.args in
    let seg = c.find_segment-segment in
    let cnt = c.count_keys-held in
    let pos = c.position-at in
    located-slot a.list.now a.key seg.result cnt.result pos.result seg.ensures.range cnt.ensures.keys pos.ensures.place seg.ensures.place ss sh c.if-at-held.true

pub returns-else-at-held-clause-place : goal.returns-else-at-held-clause-place
returns-else-at-held-clause-place c ss sh =
    let a = c.args in
    let seg = c.find_segment-segment in
    let cnt = c.count_keys-held in
    let pos = c.position-at in
    located-past a.list.now a.key seg.result cnt.result pos.result seg.ensures.range cnt.ensures.keys pos.ensures.place seg.ensures.place ss sh c.if-at-held.false
