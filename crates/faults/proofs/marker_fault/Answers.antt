-- `faults::marker_fault` meets its contract: each return is a case of `marker_fault`.
use mathlib.Core.Path.{sym}
use Rattle.faults.proofs.CellChecks.{front-sound, front-misplaced, stands-sound, live-sound, live-misplaced, not_live}
use Rattle.faults.proofs.marker_fault.Goals as goal

pub returns-then-cell-eq0-2 : goal.returns-then-cell-eq0-2
returns-then-cell-eq0-2 c ss sh = sym (front-sound ss c.args.cell _ c.if-cell-eq0.true c.if-cell-eq0-2.true)

pub returns-then-cell-eq0 : goal.returns-then-cell-eq0
returns-then-cell-eq0 c ss sh = sym (front-misplaced ss c.args.cell _ c.if-cell-eq0.true c.if-cell-eq0-2.false)

pub returns-then-stands_in : goal.returns-then-stands_in
returns-then-stands_in c ss sh =
    sym (stands-sound ss c.args.cell _ c.if-cell-eq0.false _ sh (c.stands_in.ensures (rw c.if-stands_in.true tt)))

pub returns-then-cell-place : goal.returns-then-cell-place
returns-then-cell-place c ss sh =
    sym (live-sound ss c.args.cell _ c.if-cell-eq0.false _ (c.locate-place.ensures.place ss sh) c.if-place.true c.if-cell-place.true)

pub returns-then-place : goal.returns-then-place
returns-then-place c ss sh =
    sym (live-misplaced ss c.args.cell _ c.if-cell-eq0.false _ (c.locate-place.ensures.place ss sh) c.if-place.true c.if-cell-place.false)

pub returns : goal.returns
returns c ss sh =
    sym (not_live ss c.args.cell _ c.if-cell-eq0.false _ (c.locate-place.ensures.place ss sh) c.if-place.false)
