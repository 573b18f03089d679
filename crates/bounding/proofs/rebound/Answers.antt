-- `rebound` writes the bounds of a stretch of segments, then those of the empty ones before it.
use Rattle.bounding.proofs.Rewritten.{bound-after}
use Rattle.bounding.proofs.rebound.Goals as goal

pub returns : goal.returns
returns c m ss g sh few n =
    let a = c.args in
    let from = c.bound_from-later in
    let w = c.rebound_from-b.ensures m ss sh n (bound-after a.list.now ss sh m a.a a.e from.result a.bounds.now g few n from.ensures.0 from.ensures.1) in
    c.rebound_before.ensures m ss sh w.0 w.1
