-- A run over bytes: what it counts, where it stops, and that it leaves what the run over the bytes before its stop leaves.
use mathlib.Core.Path.{◌≡◌, refl, ap, ◌∙◌}
use mathlib.Core.List.{List}
use Prim.Native.Nat.{ℕ, ◌≤◌, ◌<◌}
use native.Mathlib.Nat.{zero-add}
use native.Mathlib.Decide.{dec_lt}
use native.Mathlib.Omega.{arith}
use lib.ListN.{length, take}
use lib.Seq.{length-take-le}
use borrow.Author.Tests.{ne_eqb}
use Rattle.forecast.specs.declared.Forecast.{Forecast}
use Rattle.rules.specs.declared.Totals.{Totals}
use Rattle.rules.specs.Shares.{Shares}
use Rattle.rules.specs.Placing.{Room}
use Rattle.rules.specs.Lent.{Lent, cards_of}
use Rattle.rules.specs.Checks.{shares_of, check}
use Rattle.rules.specs.declared.Tally.{Tally}
use Rattle.rules.specs.declared.Record.{Record}
use Rattle.rules.specs.Runs.{records_of, nothing, Ran, stopped, work, ran}
use Rattle.rules.specs.Calls.{room_of, worked, run}
use Rattle.demands.specs.Demand1.{RunRefused, RunStops}
use Rattle.demands.proofs.Running.Records.{sizes, byte-of-record, record-of-byte, bytes-of-good, records-take}
use Rattle.demands.proofs.Running.RequestsWorked.{Works, works, tallies-worked, tallies-place}

-- refused by its check
pub run_refused : RunRefused
unfolding run
run_refused profile L F bytes allowance T n = rw (ne_eqb (check profile L F) 0 n)

-- or it works the records
pub run-checked : (profile : ℕ) (L : Lent) (F : Forecast) (bytes : List ℕ) (allowance : ℕ) (T : Totals) → check profile L F ≡ 0
    → run profile L F bytes allowance T ≡ worked T (ran (shares_of profile L.slots) allowance bytes (room_of L.slots F) (cards_of L))
unfolding run
run-checked profile L F bytes allowance T c = rw c

module _ (S : Shares) (allowance : ℕ) (bytes : List ℕ) (R : Room) (c : ℕ → ℕ) where
  pub ran-works : Works S allowance (records_of bytes) R c nothing (ran S allowance bytes R c)
  unfolding ran
  ran-works = works S allowance (records_of bytes) R c nothing (omega arith)

  -- the number of records worked
  abbrev pub done : ℕ
  done = ran-works.n

  pub length-done : length (take done (records_of bytes)) ≡ done
  length-done = length-take-le done (records_of bytes) ran-works.fits

  pub done-worked : (ran S allowance bytes R c).tally.worked ≡ done
  done-worked =
      ap (λ (t : Tally). t.worked) ran-works.tally ∙ tallies-worked S (take done (records_of bytes)) R nothing ∙ zero-add _ ∙ length-done

  pub done-place : (ran S allowance bytes R c).tally.place ≡ sizes (take done (records_of bytes))
  done-place = ap (λ (t : Tally). t.place) ran-works.tally ∙ tallies-place S (take done (records_of bytes)) R nothing ∙ zero-add _

  -- they stand in the bytes before its place
  pub done-bytes : sizes (take done (records_of bytes)) ≤ length bytes
  done-bytes = bytes-of-good done bytes ran-works.good

  -- a run that stops before the last record stops inside the bytes; one that works them all, at their end
  pub stops-inside : done < length (records_of bytes) → (ran S allowance bytes R c).tally.place < length bytes
  stops-inside h = omega (arith, done-place, byte-of-record done bytes h)

  pub ends-whole : done ≡ length (records_of bytes) → (ran S allowance bytes R c).tally.place ≡ length bytes
  ends-whole e = go (dec_lt (sizes (take done (records_of bytes))) (length bytes))
    where
      go : Dec (sizes (take done (records_of bytes)) < length bytes) → (ran S allowance bytes R c).tally.place ≡ length bytes
      go (yes h) = absurd (omega (arith, record-of-byte done bytes h))
      go (no h) = omega (arith, done-place, done-bytes)

  -- the run over just those bytes ends with 0 and leaves the same
  pub ran-again : ran S allowance (take (ran S allowance bytes R c).tally.place bytes) R c
      ≡ stopped 0 (ran S allowance bytes R c).room (ran S allowance bytes R c).cards (ran S allowance bytes R c).tally
  unfolding ran
  ran-again =
      ap (λ (p : ℕ). ran S allowance (take p bytes) R c) done-place
      ∙ ap (λ (rs : List Record). work S allowance rs R c nothing) (records-take done bytes ran-works.good) ∙ ran-works.again

-- a run that stops leaves all as the run over the bytes before its place, which ends with 0
pub run_stops : RunStops
run_stops profile L F bytes allowance T e =
    let r : Ran = ran (shares_of profile L.slots) allowance bytes (room_of L.slots F) (cards_of L) in
    rw (
      run-checked profile L F bytes allowance T e,
      run-checked profile L F (take r.tally.place bytes) allowance T e,
      ran-again (shares_of profile L.slots) allowance bytes (room_of L.slots F) (cards_of L),
    )
    (record { stop = refl; lent = refl; forecast = refl; totals = refl; tally = refl })
