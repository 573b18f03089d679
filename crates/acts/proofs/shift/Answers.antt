-- `shift` puts a key in or takes it out where its place is, with its card.
use native.Mathlib.Omega.{arith}
use Rattle.seats.proofs.Indexes.{few-segments, table-length}
use Rattle.shifts.proofs.Shifted.{index-summed}
use Rattle.acts.proofs.Acted.{segment-in, numbers, counted}
use Rattle.acts.proofs.ActedShift.{room_in, under-out, shifted_in, shifted-out}
use Rattle.acts.proofs.shift.Goals as goal

pub put_in-requires : goal.put_in-requires
put_in-requires c =
    let A = c.requires.acting.2 in
    record {
      segment_in_bounds = ((numbers A).0, (numbers A).1, room_in A c.if-aim.true c.requires.level_value, omega (arith, segment-in A, table-length A.index), index-summed A.index);
      cards_len = c.requires.cards_len;
    }

pub returns-then-aim : goal.returns-then-aim
returns-then-aim c =
    let grows = c.if-aim.true in
    let puts = c.put_in.ensures in
    record {
      left = λ F shape A. shifted_in A grows c.requires.level_value puts.index;
      cards = λ f z y h. puts.cards f (y grows) h;
    }

pub cut_out-requires : goal.cut_out-requires
cut_out-requires c =
    let A = c.requires.acting.2 in
    record {
      segment_bound = (omega (arith, segment-in A, few-segments A.index), (numbers A).0, under-out A c.if-aim.false, (numbers A).2);
      bounds_len = (A.index.bound.long, omega (arith, segment-in A, table-length A.index), index-summed A.index, counted A);
      cards_len = c.requires.cards_len;
    }

pub returns : goal.returns
returns c =
    let cuts = c.cut_out.ensures in
    record {
      left = λ F shape A. shifted-out A c.if-aim.false c.requires.level_value cuts.index;
      cards = λ f z y h. cuts.cards f z h;
    }
