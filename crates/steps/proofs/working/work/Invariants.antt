-- `work` works the records in order. The loop's invariant: list, cards and forecast stand, the counts keep within bounds, and the whole run
-- of the rules is the work on the records that are left.
use mathlib.Core.Path.{◌≡◌}
use Prim.Native.Nat.{◌-◌}
use lib.ListN.{length}
use Rattle.steps.proofs.MidWork.{Going}
use Rattle.steps.proofs.working.work.Given as goal

abbrev pub invariant-loop-tally : goal.invariant-loop-tally
invariant-loop-tally l =
    Going (record { slots = l.initial.list; cards = l.initial.cards; forecast = l.initial.forecast; bytes = l.requests; allowance = l.allowance; shape = l.shape })
    (record { slots = l.list; cards = l.cards; forecast = l.forecast; bounds = l.bounds; table = l.table; keys = l.keys; last = l.last; tally = l.tally })
    × (length l.list ≡ length l.initial.list) × (length l.cards ≡ length l.initial.cards) × (length l.table ≡ length l.initial.table) × (length l.bounds ≡ length l.initial.bounds) × (length l.plan ≡ length l.initial.plan)

abbrev pub decreases-loop-tally : goal.decreases-loop-tally
decreases-loop-tally l =
    length l.requests - l.tally.place
