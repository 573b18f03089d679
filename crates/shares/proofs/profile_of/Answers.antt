-- `profile_of`: 2 names the second profile.
use mathlib.Core.Path.{refl}
use borrow.Author.Tests.{ne_eqb}
use Rattle.shares.proofs.profile_of.Goals as goal

pub returns-then-n-eq2 : goal.returns-then-n-eq2
returns-then-n-eq2 c = rw c.if-n-eq2.true refl

pub returns : goal.returns
returns c = rw (ne_eqb _ 2 c.if-n-eq2.false) refl
