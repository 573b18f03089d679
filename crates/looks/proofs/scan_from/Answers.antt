-- `scan_from` writes the keys above a key and their cards, from where a search for it ends.
use Rattle.looks.proofs.Passed.{can-seek, cards-long}
use Rattle.looks.proofs.ScannedFrom.{begins, can-write, writes}
use Rattle.looks.proofs.scan_from.Goals as goal

pub seek-segment-requires : goal.seek-segment-requires
seek-segment-requires c = can-seek c.requires.0 _ c.requires.1

pub write_keys-requires : goal.write_keys-requires
write_keys-requires c =
    let p = c.requires.0 in
    let begun = begins p _ c.requires.1 _ _ _ c.seek-segment.ensures.place c.past-at.ensures in
    record { first_in_bounds = can-write p _ c.requires.1 _ _ _ begun c.seek-segment.ensures.range; cards_len = cards-long p _ c.requires.1 }

pub returns : goal.returns
returns c profile e =
    let write = c.write_keys in
    let begun = begins profile _ e _ _ _ c.seek-segment.ensures.place c.past-at.ensures in
    writes profile _ e _ _ _ begun _ _ _ _ _ write.ensures.keys write.ensures.cards
