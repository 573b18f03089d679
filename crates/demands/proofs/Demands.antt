-- All that the demands say, proved.
use Rattle.demands.specs.Demands.{Demands}
use Rattle.levels.proofs.Tables.{table-long, table-entry}
use Rattle.demands.proofs.Refusals.Numbers.{make_tells, check_tells, check_passes, lookup_tells, scan_tells, insert_tells, delete_tells}
use Rattle.demands.proofs.Refusals.Refused.{request_refused, lookup_refused, scan_refused, make_refused}
use Rattle.demands.proofs.Running.Runs.{run_refused, run_stops}
use Rattle.demands.proofs.Running.Singly.{run_tells, run_is_singly, run_keeps}
use Rattle.demands.proofs.Running.InTwo.{run_in_two}
use Rattle.demands.proofs.Requests.SingleCalls.{request_keeps}
use Rattle.demands.proofs.Sets.PlainSet.{is_set}
use Rattle.demands.proofs.Demand2.Mixed.{mixed_answered}
use Rattle.demands.proofs.Demand2.Answered.{sequence_answered}
use Rattle.demands.proofs.Demand2.Ruled.{request_ruled, sequence_ruled}
use Rattle.rules.proofs.Sharing.Table.{table, lawful}
use Rattle.demands.proofs.Sharing.Splits.{split_is, no_zero}
use Rattle.demands.proofs.Sharing.Climb.{climb_is}
use Rattle.demands.proofs.Sweeping.Sizes.{insert-always-finds, sizes_kept}
use Rattle.demands.proofs.Requests.KeysKept.{keys_kept, cells_aim}
use Rattle.demands.proofs.Demand3.Inside.{inside-kept}
use Rattle.demands.proofs.Demand3.Told.{sweeps_told}
use Rattle.demands.proofs.Demand3.Again.{swept-again}
use Rattle.demands.proofs.Demand3.Lent.{lent_inside, lent_again}
use Rattle.rules.proofs.Cases.Sums.{sums}

pub demands : Demands
demands = record {
  make_tells = make_tells;
  check_tells = check_tells;
  check_passes = check_passes;
  lookup_tells = lookup_tells;
  scan_tells = scan_tells;
  insert_tells = insert_tells;
  delete_tells = delete_tells;
  run_tells = run_tells;
  request_refused = request_refused;
  lookup_refused = lookup_refused;
  scan_refused = scan_refused;
  make_refused = make_refused;
  run_refused = run_refused;
  run_stops = run_stops;
  run_is_singly = run_is_singly;
  run_in_two = run_in_two;
  request_keeps = request_keeps;
  run_keeps = run_keeps;
  is_set = is_set;
  sequence_answered = sequence_answered;
  mixed_answered = mixed_answered;
  request_ruled = request_ruled;
  sequence_ruled = sequence_ruled;
  table = table;
  lawful = lawful;
  counts_are = λ h ss e. (table-long h ss e, table-entry h ss e);
  split_is = split_is;
  no_zero = no_zero;
  climb_is = climb_is;
  insert_finds = insert-always-finds;
  cells_aim = cells_aim;
  inside = inside-kept;
  lent_inside = lent_inside;
  keys_kept = keys_kept;
  sizes_kept = sizes_kept;
  sweeps_told = sweeps_told;
  again = swept-again;
  lent_again = lent_again;
  sums = sums;
}
