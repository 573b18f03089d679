-- The three demands, whole: a field for each statement, under the demand's own words. The value of this record is `demands` (proofs/Demands).
use Rattle.demands.specs.Demand1.{MakeTells, CheckTells, CheckPasses, LookupTells, ScanTells, InsertTells, DeleteTells, RunTells}
use Rattle.demands.specs.Demand1.{RequestRefused, LookupRefused, ScanRefused, MakeRefused, RunRefused, RunStops, RunIsSingly, RunInTwo}
use Rattle.demands.specs.Demand1.{RequestKeeps, RunKeeps}
use Rattle.demands.specs.Demand2.{IsSet, SequenceAnswered, RequestRuled, SequenceRuled}
use Rattle.demands.specs.Demand2Mixed.{MixedAnswered}
use Rattle.rules.specs.Readings.{Table, TableLawful, CountsAre, SplitIs, NoZero, ClimbIs, InsertFinds, CellsAim}
use Rattle.demands.specs.Demand3.{Inside, KeysKept, SizesKept, SweepsTold, Again}
use Rattle.demands.specs.Demand3Lent.{LentInside, LentAgain}
use Rattle.rules.specs.Sums.{Sums}

pub record Demands : Type 0 where
  -- DEMAND 1. "Every call takes any arrays, forecast, keys and request bytes and comes to an end." Each call of Calls is a function of whatever
  -- is lent, and no promise of a public call has a `requires`.
  -- "It checks what it is lent." Each number is given exactly when its row applies and none before it.
  pub make_tells : MakeTells
  pub check_tells : CheckTells
  pub check_passes : CheckPasses
  pub lookup_tells : LookupTells
  pub scan_tells : ScanTells
  pub insert_tells : InsertTells
  pub delete_tells : DeleteTells
  pub run_tells : RunTells
  -- "A refused request gives its number and zero moves and changes neither list nor forecast;
  pub request_refused : RequestRefused
  pub lookup_refused : LookupRefused
  pub scan_refused : ScanRefused
  pub make_refused : MakeRefused
  pub run_refused : RunRefused
  -- a run that stops keeps exactly the requests worked before the stop."
  pub run_stops : RunStops
  pub run_is_singly : RunIsSingly
  pub run_in_two : RunInTwo
  -- What passes the check passes it again after every call.
  pub request_keeps : RequestKeeps
  pub run_keeps : RunKeeps
  -- DEMAND 2. "Any sequence of inserts, deletes, lookups and scans on a list made empty is answered as a plain sorted set of at most half as
  -- many keys as slots would answer.
  pub is_set : IsSet
  pub sequence_answered : SequenceAnswered
  -- The same with a profile for each ask.
  pub mixed_answered : MixedAnswered
  -- After each request the slots, the forecast and the reported moves are those of the paper's rules
  pub request_ruled : RequestRuled
  pub sequence_ruled : SequenceRuled
  -- with our rounding and ties." What the rules choose, without the way they find it.
  pub table : Table
  pub lawful : TableLawful
  pub counts_are : CountsAre
  pub split_is : SplitIs
  pub no_zero : NoZero
  pub climb_is : ClimbIs
  pub insert_finds : InsertFinds
  pub cells_aim : CellsAim
  -- DEMAND 3. "After a sweep, every window strictly inside the swept one holds at least the low and at most the high share of its parent's
  -- level, times its segments, whatever the forecast said." Over any lawful shares, and of the public calls on what they are lent.
  pub inside : Inside
  pub lent_inside : LentInside
  -- A sweep loses no key and overfills no segment, and is told exactly where a window was chosen.
  pub keys_kept : KeysKept
  pub sizes_kept : SizesKept
  pub sweeps_told : SweepsTold
  -- "Suppose a request falling in one half of a window sets off a sweep of that window, and the window was swept before. Counting from its
  -- latest earlier sweep, with only inserts and deletes since, that half has taken more inserts than deletes by over the gap between the two
  -- levels' high shares times its segments, or more deletes than inserts by over the gap between the low shares times its segments. The
  -- request itself counts; the one that set off the earlier sweep doesn't." Again in both forms.
  pub again : Again
  pub lent_again : LentAgain
  -- Document 01, "Sums to check", 1 to 9.
  pub sums : Sums
