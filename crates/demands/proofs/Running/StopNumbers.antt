-- The stop number of a run: 9 at a bad record, 10 before a record whose moves would pass the allowance, 0 at the end of the bytes.
use mathlib.Core.Path.{◌≡◌, sym, ap, ◌∙◌, subst}
use mathlib.Core.Bool.{not}
use mathlib.Core.Logic.{inl, inr}
use mathlib.Core.List.{List}
use Prim.Native.Nat.{ℕ, ◌+◌, ◌<◌}
use native.Mathlib.Omega.{arith}
use lib.Dec.{T}
use lib.ListN.{length, take, drop, get_or}
use lib.Seq.{take-length}
use Rattle.slots.specs.Segments.{render}
use Rattle.forecast.specs.Cells.{forecast_of}
use Rattle.rules.specs.declared.Request.{Request}
use Rattle.rules.specs.declared.Request.TheVariants.{Bad}
use Rattle.rules.specs.declared.Totals.{Totals}
use Rattle.rules.specs.Shares.{Shares}
use Rattle.rules.specs.Placing.{Room, outcome}
use Rattle.rules.specs.Lent.{laid}
use Rattle.rules.specs.declared.Record.{Record}
use Rattle.rules.specs.Runs.{asking, record_of, records_of, is_bad, Ran, ran}
use Rattle.rules.specs.Calls.{worked, request}
use Rattle.demands.specs.Rows.{Tells, stop_rows}
use Rattle.demands.proofs.Running.Records.{AllGood, record-at}
use Rattle.demands.proofs.Running.BadRecords.{bad-at, good-at}
use Rattle.demands.proofs.Running.RequestsWorked.{Stops, ends, at-bad, over}
use Rattle.demands.proofs.Running.Runs.{ran-works, done, done-place, stops-inside, ends-whole}

-- Where a single request on what the run leaves moves what the rules say, the stop number is as the rows tell.
module _ (S : Shares) (allowance : ℕ) (bytes : List ℕ) (R : Room) (c : ℕ → ℕ) where
  abbrev r : Ran
  r = ran S allowance bytes R c

  abbrev p : ℕ
  p = r.tally.place

  abbrev n : ℕ
  n = done S allowance bytes R c

  next : get_or (records_of bytes) n (asking Bad 0 11) ≡ record_of (drop p bytes)
  next = record-at n bytes ∙ ap (λ (k : ℕ). record_of (drop k bytes)) (sym (done-place S allowance bytes R c))

  pub ran-tells : (profile : ℕ) (totals : Totals)
      → ((q : Request) (v : ℕ) → (request profile q v (laid r.cards (render 0 r.room.segments)) (forecast_of r.room.cells)).answer.moves ≡ (outcome S q r.room).answer.moves)
      → Tells (stop_rows profile bytes allowance (worked totals r)) r.stop
  ran-tells profile totals single = go (ran-works S allowance bytes R c).stops
    where
      outside : n ≡ length (records_of bytes) → ¬ (p < length bytes)
      outside h = omega (arith, ends-whole S allowance bytes R c h)

      go : Stops S allowance (records_of bytes) n r → Tells (stop_rows profile bytes allowance (worked totals r)) r.stop
      go (ends e h) = inr ((λ x. outside h x.0), inr ((λ x. outside h x.0), e))
      go (at-bad e h b) = inl ((stops-inside S allowance bytes R c h, bad-at bytes p (subst (λ (z : Record). T (is_bad z.request)) next b)), e)
      go (over e h g o) =
          let m : allowance < r.tally.moves + (outcome S (record_of (drop p bytes)).request r.room).answer.moves = rw next at o in
          inr (
            (λ x. good-at bytes p (subst (λ (z : Record). T (not (is_bad z.request))) next g) x.1),
            inl ((stops-inside S allowance bytes R c h, omega (arith, single (record_of (drop p bytes)).request (record_of (drop p bytes)).card)), e),
          )

  pub ran_ends : r.stop ≡ 0 → p ≡ length bytes
  ran_ends = go (ran-works S allowance bytes R c).stops
    where
      go : Stops S allowance (records_of bytes) n r → r.stop ≡ 0 → p ≡ length bytes
      go (ends e h) z = ends-whole S allowance bytes R c h
      go (at-bad e h b) z = absurd (omega arith)
      go (over e h g o) z = absurd (omega arith)

  -- a run that ends with 0 has worked all the records, none of them bad
  pub all-good : r.stop ≡ 0 → AllGood (records_of bytes)
  all-good = go (ran-works S allowance bytes R c).stops
    where
      go : Stops S allowance (records_of bytes) n r → r.stop ≡ 0 → AllGood (records_of bytes)
      go (ends e h) z = subst AllGood (ap (λ (k : ℕ). take k (records_of bytes)) h ∙ take-length (records_of bytes)) (ran-works S allowance bytes R c).good
      go (at-bad e h b) z = absurd (omega arith)
      go (over e h g o) z = absurd (omega arith)
