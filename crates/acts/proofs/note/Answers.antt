-- `note` writes the predecessor of a key that is put in, and drops the cell of one that is taken out.
use borrow.Author.Rules.{rules}
use Rattle.forecast.specs.Tidy.{Roomy}
use Rattle.acts.proofs.ActedShift.{note-asks, noted_in, noted-out}
use Rattle.acts.proofs.note.Goals as goal
use Rattle.acts.proofs.note.Goals.{Start}

roomy : (s : Start) → Roomy s.args.forecast
roomy s = record { markers = search rules; segments = search rules; counts = search rules }

pub note_insert-requires : goal.note_insert-requires
note_insert-requires c =
    let asks = note-asks c.requires.3 (roomy (goal.at.note_insert-requires c).Start) in
    record {
      tidy = asks.0;
      p_nonzero = asks.1;
      p_bound = asks.2;
      segment_bound = asks.3;
    }

pub returns-then-aim : goal.returns-then-aim
returns-then-aim c slots bounds table A = noted_in A c.if-aim.true c.note_insert.ensures

pub drop_marker-requires : goal.drop_marker-requires
drop_marker-requires c = (note-asks c.requires.3 (roomy (goal.at.drop_marker-requires c).Start)).0

pub returns : goal.returns
returns c slots bounds table A = noted-out A c.if-aim.false c.drop_marker.ensures
