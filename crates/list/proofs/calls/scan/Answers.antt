-- `scan` tells why what is lent is refused.
use mathlib.Core.Path.{sym}
use Rattle.list.proofs.Refused.{scan-told}
use Rattle.list.proofs.calls.scan.Goals as goal

pub returns-in_err-look_read : goal.returns-in_err-look_read
returns-in_err-look_read c = scan-told _ _ _ c.in_err-look_read.ensures _ _ _ _ c.from_residual.ensures.1

pub scan_from-requires : goal.scan_from-requires
scan_from-requires c = (_, sym c.in_ok-look_read.ensures.0)

pub returns : goal.returns
returns c = c.scan_from.ensures _ (sym c.in_ok-look_read.ensures.0)
