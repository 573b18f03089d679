-- Where a size does not fit, each call gives 100 and leaves what was lent. r is what the test of sizes told.
use Prim.Native.Nat.{ℕ, ◌<◌}
use mathlib.Core.Path.{◌≡◌, sym, ◌∙◌}
use mathlib.Core.Bool.{Bool, true, ◌||◌}
use mathlib.Core.List.{List, [], ◌∷◌}
use borrow.Author.Tests.{lt-ltb}
use lib.ListN.{length}
use Rattle.given.specs.Calls.{Given, sized, make, check, lookup, insert, delete, scan, run, not_forecast, not_totals, short, Gives}
use Rattle.given.proofs.Sizes.{misfit}

module _ (profile : ℕ) (list cards table forecast : List ℕ) (r : Bool) (e : r ≡ not_forecast forecast) (t : r ≡ true) where
  pub make-misfit : Gives (make profile list cards table forecast) 100 (list ∷ cards ∷ table ∷ forecast ∷ [])
  unfolding make
  make-misfit = misfit _ _ _ (sym e ∙ t)

  pub check-misfit : Gives (check profile list cards table forecast) 100 []
  unfolding check
  check-misfit = misfit _ _ _ (sym e ∙ t)

module _ (profile : ℕ) (list cards table : List ℕ) (key : ℕ) (reply : List ℕ) where
  pub lookup-misfit : length reply < 3 → Gives (lookup profile list cards table key reply) 100 (reply ∷ [])
  unfolding lookup
  lookup-misfit l = misfit _ _ _ (lt-ltb (length reply) 3 l)

  pub scan-misfit : (output output-cards : List ℕ) → length reply < 2 → Gives (scan profile list cards table key output output-cards reply) 100 (output ∷ output-cards ∷ reply ∷ [])
  unfolding scan
  scan-misfit output output-cards l = misfit _ _ _ (lt-ltb (length reply) 2 l)

module _ (profile : ℕ) (list cards table forecast : List ℕ) (key : ℕ) (reply : List ℕ) (r : Bool) where
  pub insert-misfit : (card : ℕ) → r ≡ (not_forecast forecast || short reply 1) → r ≡ true → Gives (insert profile list cards table forecast key card reply) 100 (list ∷ cards ∷ table ∷ forecast ∷ reply ∷ [])
  unfolding insert
  insert-misfit card e t = misfit _ _ _ (sym e ∙ t)

  pub delete-misfit : r ≡ (not_forecast forecast || short reply 2) → r ≡ true → Gives (delete profile list cards table forecast key reply) 100 (list ∷ cards ∷ table ∷ forecast ∷ reply ∷ [])
  unfolding delete
  delete-misfit e t = misfit _ _ _ (sym e ∙ t)

pub run-misfit : (profile : ℕ) (list cards table forecast requests : List ℕ) (allowance : ℕ) (totals reply : List ℕ) (r : Bool)
    → r ≡ (not_forecast forecast || (not_totals totals || short reply 4)) → r ≡ true
    → Gives (run profile list cards table forecast requests allowance totals reply) 100 (list ∷ cards ∷ table ∷ forecast ∷ totals ∷ reply ∷ [])
unfolding run
run-misfit profile list cards table forecast requests allowance totals reply r e t = misfit _ _ _ (sym e ∙ t)

-- the same of a number that is shown to be the one for a size that does not fit
pub numbered : {o : Given} {left : List (List ℕ)} (n : ℕ) → ((lent : List (List ℕ)) (o : Given) → n ≡ (sized true lent o).number) → Gives o 100 left → Gives o n left
numbered {o} {left} n is g = record { number = is left o ∙ g.number; slices = g.slices }
