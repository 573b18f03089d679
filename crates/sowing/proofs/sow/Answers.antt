-- `sow` meets its contract: the keys packed, then dealt out with the key put in, or without it, each with its card.
use native.Mathlib.Omega.{arith}
use Rattle.gaps.proofs.Natural.{closed-kept}
use Rattle.sowing.proofs.Sown.{sized, counts-fit, room, keys-few, up_to, put_in, among, taken_out}
use Rattle.sowing.proofs.sow.Goals as goal

pub pack-m-requires-clause-window_len : goal.pack-m-requires-clause-window_len
pack-m-requires-clause-window_len c = sized c.requires.planted

pub pack-m-requires-clause-by_index : goal.pack-m-requires-clause-by_index
pack-m-requires-clause-by_index c = counts-fit c.requires.planted

pub overflow_add-m : goal.overflow_add-m
overflow_add-m c = omega (arith, keys-few c.requires.planted)

pub spread-requires-clause-window_len : goal.spread-requires-clause-window_len
spread-requires-clause-window_len c = omega (arith, sized c.requires.planted)

pub spread-requires-clause-counts_value : goal.spread-requires-clause-counts_value
spread-requires-clause-counts_value c =
    let d = c.requires.planted in (omega (arith, (d.grown c.if-grows.true).0), omega (arith, up_to d c.pack-m.ensures.keys))

pub returns-then-grows-clause-keys : goal.returns-then-grows-clause-keys
returns-then-grows-clause-keys c = put_in c.requires.planted c.pack-m.ensures.keys c.if-grows.true c.spread.ensures.keys

pub close_gap-requires-clause-at_lt_n : goal.close_gap-requires-clause-at_lt_n
close_gap-requires-clause-at_lt_n c =
    let d = c.requires.planted in (among d c.pack-m.ensures.keys c.if-grows.false, omega (arith, room d))

pub spread-requires-2-clause-window_len : goal.spread-requires-2-clause-window_len
spread-requires-2-clause-window_len c = omega (arith, sized c.requires.planted)

pub returns-clause-keys : goal.returns-clause-keys
returns-clause-keys c = taken_out c.requires.planted c.pack-m.ensures.keys c.if-grows.false c.close_gap.ensures.slots c.spread-2.ensures.keys

pub returns-clause-cards : goal.returns-clause-cards
returns-clause-cards c = λ f z y h.
    let closes = c.close_gap.ensures in
    c.spread-2.ensures.cards f z tt (closed-kept f _ (c.pack-m.ensures.cards f h) c.pack-m.result c.args.p 0 0 z closes.slots closes.cards)
