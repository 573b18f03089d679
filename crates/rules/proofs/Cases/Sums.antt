-- Document 01's sums 1 to 9 follow from the rules, by computation over the list of cases.
use mathlib.Core.Bool.{Bool}
use Rattle.lists.specs.Lists.{without}
use Rattle.lists.proofs.Computed.{same, same→eq, all-at}
use Rattle.slots.specs.Keys.{predecessor, segment_of}
use Rattle.cells.specs.Cells.{weight}
use Rattle.cells.specs.Steps.{raised, tailed, noted, dropped, retargeted}
use Rattle.rules.specs.declared.Profile.TheVariants.{First}
use Rattle.rules.specs.SharingOut.{left_share, plan, share_out}
use Rattle.rules.specs.Placing.{sweep, chosen, settled, insert_level, insert_key, delete_level, delete_key, outcome}
use Rattle.rules.specs.Sums.{Case, gives, says, cases, Sums}

abbrev right : Case → Bool
right c = same (gives First c) (says c)

pub sums : Sums
unfolding without predecessor segment_of weight raised tailed noted dropped retargeted left_share plan share_out sweep chosen settled insert_level insert_key delete_level delete_key outcome
sums c m = same→eq (gives First c) (says c) (all-at right cases tt c m)
