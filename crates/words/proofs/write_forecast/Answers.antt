-- `words::write_forecast` meets its contract: the words before cell i are written.
use native.Mathlib.Omega.{arith}
use borrow.Author.Rules.{rules}
use lib.ListN.{length-set}
use Rattle.forecast.specs.Tidy.{Roomy}
use Rattle.words.proofs.ForecastLoops.{write-start, write-turn, write-end}
use Rattle.words.proofs.write_forecast.Goals as goal
use Rattle.words.proofs.write_forecast.Goals.{Start}

-- the rows have room for 12
roomy : (s : Start) → Roomy s.args.forecast
roomy s = record { markers = search rules; segments = search rules; counts = search rules }

pub loop-i-init : goal.loop-i-init
loop-i-init c =
    (rw length-set c.requires, rw length-set c.requires, write-start c.args.forecast c.args.words.now (omega (arith, c.requires)))

pub loop-i-preserved : goal.loop-i-preserved
loop-i-preserved c =
    let v = c.loop-i in
    (v.invariant.0, simp length-set v.invariant.1, write-turn c.args.forecast (roomy (goal.at.loop-i-preserved c).Start) _ v.invariant.0 v.words v.i (omega arith) v.invariant.2 _ _ c.from.ensures c.from-in-loop-i.ensures)

pub returns : goal.returns
returns c =
    let v = c.loop-i in
    write-end c.args.forecast (roomy (goal.at.returns c).Start) _ v.invariant.0 v.words v.i (omega arith) v.invariant.2
