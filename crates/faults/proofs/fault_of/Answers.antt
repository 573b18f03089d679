-- `faults::fault_of` meets its contract: no cell below i has a fault.
use mathlib.Core.Path.{◌≡◌, sym, ap, ◌∙◌}
use native.Mathlib.Omega.{arith}
use borrow.Author.Rules.{rules}
use Rattle.std.specs.Prelude.{Err}
use Rattle.std.proofs.lemmas.Result.{err_from_is_err_and}
use Rattle.forecast.specs.Tidy.{Roomy}
use Rattle.forecast.specs.Faults.{fault_at, is_sound}
use Rattle.forecast.proofs.Stepping.{roomy-12}
use Rattle.forecast.proofs.Checked.{fault-many, fault-first, fault-none}
use Rattle.faults.proofs.fault_of.Goals as goal
use Rattle.faults.proofs.fault_of.Goals.{Start}

-- the rows have room for 12
roomy : (c : Start) → Roomy c.args.forecast
roomy c = record { markers = search rules; segments = search rules; counts = search rules }

pub returns-then-p-forecast : goal.returns-then-p-forecast
returns-then-p-forecast c ss sh l = sym (fault-many _ ss _ c.if-p-forecast.true)

pub returns-in_err-fault_at : goal.returns-in_err-fault_at
returns-in_err-fault_at c ss sh l =
    let r = roomy (goal.at.returns-in_err-fault_at c).Start in
    let e : Err c.in_err-fault_at.field-0.0 ≡ fault_at c.args.p ss c.args.forecast c.loop-i.i = c.in_err-fault_at.ensures ss sh in
    let p = err_from_is_err_and c.from_residual.result c.from_residual.ensures.1 in
    rw (p.1, p.2) (e ∙ sym (fault-first _ ss _ c.if-p-forecast.false c.loop-i.i (omega (arith, roomy-12 c.args.forecast r)) (c.loop-i.invariant ss sh) (sym (ap is_sound e))))

pub returns : goal.returns
returns c ss sh l =
    sym (fault-none _ ss _ c.if-p-forecast.false (λ j h. c.loop-i.invariant ss sh j (omega (arith, roomy-12 c.args.forecast (roomy (goal.at.returns c).Start)))))
