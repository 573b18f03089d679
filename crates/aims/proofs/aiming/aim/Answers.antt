-- `aim` decides the request that is asked; a bad record is refused by the rules.
use Rattle.aims.proofs.Answers.{aimed-bad}
use Rattle.aims.proofs.aiming.aim.Goals as goal

pub returns-in-Insert : goal.returns-in-Insert
returns-in-Insert c F s = rw c.in-Insert.is (c.aim_in.ensures F s)

pub returns-in-Delete : goal.returns-in-Delete
returns-in-Delete c F s = rw c.in-Delete.is (c.aim_out.ensures F s)

pub returns-in-Bad : goal.returns-in-Bad
returns-in-Bad c F s = rw c.in-Bad.is (aimed-bad _ _)
