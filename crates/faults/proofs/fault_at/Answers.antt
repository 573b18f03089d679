-- `faults::fault_at` meets its contract: each return is a case of `fault_at`.
use mathlib.Core.Path.{sym, ◌∙◌}
use borrow.Author.Rules.{rules}
use borrow.Author.Tests.{lt-ltb, le-ltb, le-leb, lt-leb}
use Rattle.forecast.specs.Tidy.{Roomy}
use Rattle.forecast.specs.Faults.{fault_at}
use Rattle.faults.proofs.CellChecks.{zero-is, before-is}
use Rattle.faults.proofs.fault_at.Goals as goal
use Rattle.faults.proofs.fault_at.Goals.{Start, then-cell-lt1-via-then-cell-lt1, then-cell-lt1-via-else-cell-lt1+then-p-cell}

-- the rows have room for 12
roomy : (c : Start) → Roomy c.args.forecast.now
roomy c = record { markers = search rules; segments = search rules; counts = search rules }

pub returns-then-eq : goal.returns-then-eq
unfolding fault_at
returns-then-eq c ss sh =
    rw (le-leb _ _ c.if-forecast-i.true, ← c.cell-cell.ensures, sym (zero-is c.cell-cell.result) ∙ sym c.eq.ensures ∙ c.if-eq.true)

pub returns-then-forecast-i : goal.returns-then-forecast-i
unfolding fault_at
returns-then-forecast-i c ss sh =
    rw (le-leb _ _ c.if-forecast-i.true, ← c.cell-cell.ensures, sym (zero-is c.cell-cell.result) ∙ sym c.eq.ensures ∙ c.if-eq.false)

pub returns-then-cell-lt1 : goal.returns-then-cell-lt1
unfolding fault_at
returns-then-cell-lt1 c ss sh =
    elim c.then-cell-lt1.branch [
      | then-cell-lt1-via-then-cell-lt1 w ↦ rw (lt-leb _ _ c.if-forecast-i.false, ← c.cell-cell.ensures, lt-ltb _ _ w.if-cell-lt1.true)
      | then-cell-lt1-via-else-cell-lt1+then-p-cell w ↦ rw (lt-leb _ _ c.if-forecast-i.false, ← c.cell-cell.ensures, le-ltb _ _ w.if-cell-lt1.false, lt-ltb _ _ w.if-p-cell.true)
    ]

pub returns-then-contains : goal.returns-then-contains
unfolding fault_at
returns-then-contains c ss sh =
    let r = roomy (goal.at.returns-then-contains c).Start in
    rw (lt-leb _ _ c.if-forecast-i.false, ← c.cell-cell.ensures, le-ltb _ _ c.if-cell-lt1.false, le-ltb _ _ c.if-p-cell.false, sym (before-is c.args.forecast.now r c.args.i c.cell-cell.result.marker) ∙ sym c.contains.ensures.value ∙ c.if-contains.true)

pub returns : goal.returns
unfolding fault_at
returns c ss sh =
    let r = roomy (goal.at.returns c).Start in
    rw (lt-leb _ _ c.if-forecast-i.false, ← c.cell-cell.ensures, le-ltb _ _ c.if-cell-lt1.false, le-ltb _ _ c.if-p-cell.false, sym (before-is c.args.forecast.now r c.args.i c.cell-cell.result.marker) ∙ sym c.contains.ensures.value ∙ c.if-contains.false)
    (c.marker_fault.ensures ss sh)
