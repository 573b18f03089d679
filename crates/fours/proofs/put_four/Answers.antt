-- put_four meets its contract: four stores, one after the other.
use native.Mathlib.Omega.{arith}
use Rattle.fours.proofs.AtOnce.{four-put}
use Rattle.fours.proofs.put_four.Goals as goal

pub returns : goal.returns
returns g c = let a = c.args in four-put a.part.now a.to a.four.w a.four.x a.four.y a.four.z (omega arith)
