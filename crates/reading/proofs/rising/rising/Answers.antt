-- `rising` finds the first slot that is not above the one before it.
use Rattle.std.proofs.Common.{length, sym, refl, arith}
use borrow.Author.Count.{below_more}
use Rattle.reading.proofs.Stretched.{before-first, before-next, up-all}
use Rattle.reading.proofs.rising.rising.Goals as goal

pub loop-i-init : goal.loop-i-init
loop-i-init c = (sym (before-first c.args.part.now 0 c.args.last 0 refl), λ k l h. absurd (omega arith))

pub returns-then-x-top : goal.returns-then-x-top
returns-then-x-top c =
    let l = c.loop-i in
    record { from = omega arith; to = omega arith; rises = λ k h m. l.invariant.1 k m h; stops = λ m. omega (arith, l.invariant.0) }

pub loop-i-preserved : goal.loop-i-preserved
loop-i-preserved c =
    let l = c.loop-i in
    (sym (before-next c.args.part.now 0 c.args.last l.i (omega arith)), below_more _ _ l.invariant.1 (λ h. omega (arith, l.invariant.0)))

pub returns : goal.returns
returns c = up-all c.args.part.now 0 c.args.last (length c.args.part.now) (omega arith) (λ k h l. c.loop-i.invariant.1 k (omega arith) l)
