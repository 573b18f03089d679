-- `levels` meets its contract: each profile's table has the rules' shares.
use Rattle.rules.specs.declared.Profile.TheVariants.{First, Second}
use Rattle.shares.proofs.Tables.{table-told}
use Rattle.shares.proofs.levels.Goals as goal

pub returns-in-First-clause-rows : goal.returns-in-First-clause-rows
returns-in-First-clause-rows c = rw c.in-First.is (table-told First c.args.h c.requires).0

pub returns-in-First-clause-small : goal.returns-in-First-clause-small
returns-in-First-clause-small c = let told = table-told First c.args.h c.requires in (told.1, told.2)

pub returns-in-Second-clause-rows : goal.returns-in-Second-clause-rows
returns-in-Second-clause-rows c = rw c.in-Second.is (table-told Second c.args.h c.requires).0

pub returns-in-Second-clause-small : goal.returns-in-Second-clause-small
returns-in-Second-clause-small c = let told = table-told Second c.args.h c.requires in (told.1, told.2)
