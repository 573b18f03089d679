-- What a refused call of a C program leaves.
use Prim.Native.Nat.{ℕ, ◌≤◌}
use mathlib.Core.Path.{◌≡◌, refl, ap, ◌∙◌}
use mathlib.Core.Bool.{Bool, true, false, not, ◌&&◌, ◌||◌}
use mathlib.Core.Logic.{◌≢◌, inl, inr}
use mathlib.Core.List.{List, [], ◌∷◌}
use native.Mathlib.Omega.{arith}
use lib.Dec.{T, leb, leb→le}
use lib.ListN.{length}
use Rattle.lists.specs.Lists.{padded}
use Rattle.lists.proofs.Tests.{neither, and_left, and_right}
use Rattle.forecast.specs.declared.Forecast.{Forecast}
use Rattle.forecast.specs.Cells.{cells, forecast_of}
use Rattle.rules.specs.declared.Request.TheVariants.{Insert, Delete}
use Rattle.rules.specs.declared.Totals.{Totals}
use Rattle.rules.specs.Looking.{Found, Scanned}
use Rattle.rules.specs.Runs.{one}
use Rattle.rules.specs.Checks as checks
use Rattle.rules.specs.Lent.{Lent, lend}
use Rattle.rules.specs.Calls as rules
use Rattle.demands.specs.Rows.{Row, Tells, make_rows, read_rows, lookup_rows, insert_rows, delete_rows}
use Rattle.demands.proofs.Refusals.Numbers as below
use Rattle.demands.proofs.Refusals.Refused.{request_refused, lookup_refused, scan_refused, make_refused}
use Rattle.demands.proofs.Running.Runs.{run_refused}
use Rattle.demands.proofs.Running.Singly as singly
use Rattle.words.specs.Words.{cell_words, forecast_in, forecast_words}
use Rattle.words.specs.Totals.{totals_in, totals_words}
use Rattle.given.specs.Calls.{Given, sized, not_forecast, not_totals, short, over, left_by, reply_words, make, lookup, insert, delete, scan, run}
use Rattle.given.specs.Refused.{Leaves, MakeLeaves, LookupLeaves, ScanLeaves, InsertLeaves, DeleteLeaves, RunLeaves}
use Rattle.words.proofs.WordLaws.{words-again}
use Rattle.given.proofs.Sizes.{forecast-fits, totals-fit}
use Rattle.given.proofs.Numbers.{roomy, all_rows, below-tells}

-- THE NUMBERS OF THE ROWS BELOW: what holds of each, and of 0, holds of the number told
abbrev pub each : (ℕ → Bool) → List Row → Bool
each p [] = p 0
each p (r ∷ rs) = p r.no && each p rs

pub told-each : (p : ℕ → Bool) (rs : List Row) (n : ℕ) → T (each p rs) → Tells rs n → T (p n)
told-each p [] n k t = rw t k
told-each p (r ∷ rs) n k (inl (w, e)) = rw e (and_left (p r.no) (each p rs) k)
told-each p (r ∷ rs) n k (inr (w, t)) = told-each p rs n (and_right (p r.no) (each p rs) k) t

-- they are far from 100
small : (rs : List Row) (n : ℕ) → T (each (λ k. leb k 15) rs) → Tells rs n → n ≤ 15
small rs n k t = leb→le n 15 (told-each (λ k. leb k 15) rs n k t)

-- where the sizes fit, what the call below leaves where it is refused
leaves : (wrong : Bool) (lent zeroed : List (List ℕ)) (o : Given) → o.number ≤ 15 → (T (not wrong) → o.number ≢ 0 → o.number ≢ 9 → o.number ≢ 10 → o.left ≡ zeroed)
    → Leaves (sized wrong lent o) lent zeroed
leaves true lent zeroed o s r = record { misfit = λ e. refl; refused = λ a b c d. absurd (d refl) }
leaves false lent zeroed o s r = record { misfit = λ e. absurd (omega arith); refused = λ a b c d. r tt a b c }

-- four words that were read as totals and written again are the same words
totals-again : (ws : List ℕ) → length ws ≡ 4 → totals_words (totals_in ws) ≡ ws
totals-again [] h = absurd (omega arith)
totals-again (a ∷ []) h = absurd (omega arith)
totals-again (a ∷ b ∷ []) h = absurd (omega arith)
totals-again (a ∷ b ∷ c ∷ []) h = absurd (omega arith)
totals-again (a ∷ b ∷ c ∷ d ∷ []) h = refl
totals-again (a ∷ b ∷ c ∷ d ∷ e ∷ ws) h = absurd (omega arith)

-- THE CALLS
pub make-leaves : MakeLeaves
unfolding make forecast_of padded cell_words cells
make-leaves profile list cards table forecast =
    leaves (not_forecast forecast) _ _ _ (small (make_rows profile (lend list cards table)) _ tt (below.make_tells profile (lend list cards table))) λ t n _ _.
    ap (λ (m : rules.Made). m.lent.slots ∷ m.lent.cards ∷ m.lent.table ∷ forecast_words m.forecast ∷ []) (make_refused profile (lend list cards table) n)

pub lookup-leaves : LookupLeaves
unfolding lookup
lookup-leaves profile list cards table key reply =
    leaves (short reply 3) _ _ _ (small (lookup_rows profile (lend list cards table) key) _ tt (below.lookup_tells profile (lend list cards table) key)) λ t n _ _.
    ap (λ (f : Found). over (one f.present ∷ f.segment ∷ f.card ∷ []) reply ∷ []) (lookup_refused profile (lend list cards table) key n)

pub scan-leaves : ScanLeaves
unfolding scan
scan-leaves profile list cards table from output output-cards reply =
    leaves (short reply 2) _ _ _ (small (read_rows profile (lend list cards table)) _ tt (below.scan_tells profile (lend list cards table) from output output-cards)) λ t n _ _.
    ap (λ (c : Scanned). c.output ∷ c.cards ∷ over (c.written ∷ one c.more ∷ []) reply ∷ []) (scan_refused profile (lend list cards table) from output output-cards n)

pub insert-leaves : InsertLeaves
unfolding insert
insert-leaves profile list cards table forecast key card reply =
    leaves (not_forecast forecast || short reply 1) _ _ _
    (small (insert_rows profile (lend list cards table) (forecast_in forecast) key) _ tt (below.insert_tells profile (lend list cards table) (forecast_in forecast) key card (roomy forecast))) λ t n _ _.
    ap (λ (c : rules.Called). left_by c (over (c.answer.moves ∷ []) reply)) (request_refused profile (Insert key) card (lend list cards table) (forecast_in forecast) n)
    ∙ ap (λ (ws : List ℕ). list ∷ cards ∷ table ∷ ws ∷ over (0 ∷ []) reply ∷ []) (words-again forecast (forecast-fits forecast (neither (not_forecast forecast) _ t).0))

pub delete-leaves : DeleteLeaves
unfolding delete
delete-leaves profile list cards table forecast key reply =
    leaves (not_forecast forecast || short reply 2) _ _ _
    (small (delete_rows profile (lend list cards table) (forecast_in forecast) key) _ tt (below.delete_tells profile (lend list cards table) (forecast_in forecast) key (roomy forecast))) λ t n _ _.
    ap (λ (c : rules.Called). left_by c (over (c.answer.moves ∷ one c.answer.sparse ∷ []) reply))
    (request_refused profile (Delete key) 0 (lend list cards table) (forecast_in forecast) n)
    ∙ ap (λ (ws : List ℕ). list ∷ cards ∷ table ∷ ws ∷ over (0 ∷ 0 ∷ []) reply ∷ []) (words-again forecast (forecast-fits forecast (neither (not_forecast forecast) _ t).0))

-- A RUN whose stop is none of 0, 9 and 10 was refused by its check
unchecked : (profile : ℕ) (L : Lent) (F : Forecast) (requests : List ℕ) (allowance : ℕ) (S : Totals) → (rules.run profile L F requests allowance S).reply.stop ≢ 0
    → (rules.run profile L F requests allowance S).reply.stop ≢ 9 → (rules.run profile L F requests allowance S).reply.stop ≢ 10 → checks.check profile L F ≢ 0
unchecked profile L F requests allowance S n m k z =
    elim (singly.run_tells profile L F requests allowance S z).0 [
      | inl x ↦ m x.1
      | inr x ↦ elim x.1 [ inl y ↦ k y.1 | inr y ↦ n y.1 ]
    ]

pub run-leaves : RunLeaves
unfolding run
run-leaves profile list cards table forecast requests allowance totals reply =
    leaves (not_forecast forecast || (not_totals totals || short reply 4)) _ _ _
    (small (all_rows profile (lend list cards table) forecast requests allowance totals reply) _ tt (below-tells profile (lend list cards table) forecast requests allowance totals reply)) λ t n m k.
    let F = forecast_in forecast in
    let S = totals_in totals in
    let f = forecast-fits forecast (neither (not_forecast forecast) _ t).0 in
    let g = totals-fit totals (neither (not_totals totals) _ (neither (not_forecast forecast) _ t).1).0 in
    ap (λ (w : rules.Worked). w.lent.slots ∷ w.lent.cards ∷ w.lent.table ∷ forecast_words w.forecast ∷ totals_words w.totals ∷ over (reply_words w.reply.tally) reply ∷ [])
    (run_refused profile (lend list cards table) F requests allowance S (unchecked profile (lend list cards table) F requests allowance S n m k))
    ∙ (λ i. list ∷ cards ∷ table ∷ words-again forecast f i ∷ totals-again totals g i ∷ over (0 ∷ 0 ∷ 0 ∷ 0 ∷ []) reply ∷ [])
