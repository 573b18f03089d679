-- `check` tells why what is lent is refused, or that it passes.
use Rattle.list.proofs.Refused.{check-told}
use Rattle.list.proofs.calls.check.Goals as goal

pub returns-in_err-look_lent : goal.returns-in_err-look_lent
returns-in_err-look_lent c = record { answer = check-told _ _ c.in_err-look_lent.ensures _ c.from_residual.ensures.1 }

pub returns : goal.returns
returns c = record { answer = c.in_ok-look_lent.ensures.0 }
