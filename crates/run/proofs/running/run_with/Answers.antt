-- `run_with` works the records of what is lent, and adds what they came to to the totals.
use Rattle.std.proofs.Common.{rules}
use Rattle.rules.specs.Lent.{lend}
use Rattle.run.specs.Differences.{Reading}
use Rattle.run.proofs.Admitted.{run-opened}
use Rattle.run.proofs.running.run_with.Goals as goal
use Rattle.run.proofs.running.run_with.Goals.{Start}

-- the totals are of 32 bits each
reading : (s : Start) → Reading s.args.totals
reading s = record { worked = search rules; refused = search rules; moved = search rules; sweeps = search rules }

pub returns : goal.returns
returns c =
    rw c.add_tally.ensures
    (run-opened c.args.profile (lend c.args.list.now c.args.cards.now c.args.table.now) c.args.forecast c.args.requests.now c.args.allowance c.args.totals c.work_lent-worked.result (lend c.work_lent-worked.new.list c.work_lent-worked.new.cards c.work_lent-worked.new.table) (reading (goal.at.returns c).Start) c.work_lent-worked.ensures)
