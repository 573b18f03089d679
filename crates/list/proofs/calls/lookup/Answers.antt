-- `lookup` tells why what is lent is refused.
use mathlib.Core.Path.{sym}
use Rattle.list.proofs.Refused.{lookup-told}
use Rattle.list.proofs.calls.lookup.Goals as goal

pub returns-in_err-look_read : goal.returns-in_err-look_read
returns-in_err-look_read c = lookup-told _ _ _ c.in_err-look_read.ensures _ _ c.from_residual.ensures.1

pub look_up-requires : goal.look_up-requires
look_up-requires c = (_, sym c.in_ok-look_read.ensures.0)

pub returns : goal.returns
returns c = c.look_up.ensures _ (sym c.in_ok-look_read.ensures.0)
