-- The answer of a single insert or delete by its verdict.
use mathlib.Core.Path.{◌≡◌, refl, sym, ap, ◌∙◌}
use mathlib.Core.Bool.{Bool, false, not}
use Prim.Native.Nat.{ℕ}
use native.Mathlib.Omega.{arith}
use lib.Dec.{eqb}
use Rattle.std.specs.Prelude.{Ok, Err}
use Rattle.std.specs.Result.{result_and}
use Rattle.lists.proofs.Tests.{either}
use Rattle.forecast.specs.declared.Forecast.{Forecast}
use Rattle.rules.specs.declared.Refusal.{Refusal}
use Rattle.rules.specs.declared.Request.{Request}
use Rattle.rules.specs.declared.Request.TheVariants.{Insert}
use Rattle.rules.specs.Refusals.{refusal_number, Verdict, verdict_number}
use Rattle.rules.specs.Placing.{Answer, refused}
use Rattle.rules.specs.Lent.{Lent}
use Rattle.rules.specs.Checks.{shares_of, check}
use Rattle.rules.specs.Calls.{room_of, Called, request}
use Rattle.demands.proofs.Refusals.Refused.{request_refused}
use Rattle.demands.proofs.Refusals.Told.{refusal-some}
use Rattle.demands.proofs.Requests.SingleCalls.{lent_outcome}
use Rattle.asking.proofs.OneRecord.{outcome-dense}
use Rattle.answers.specs.Answers.{insert_paper, delete_paper}

-- AN INSERT never tells sparse
insert-dense : (profile : ℕ) (L : Lent) (F : Forecast) (y v : ℕ) → (request profile (Insert y) v L F).answer.sparse ≡ false
unfolding request
insert-dense profile L F y v =
    either (λ (d : Called). d.answer.sparse ≡ false) (not (eqb (check profile L F) 0)) refl
    (either (λ (d : Called). d.answer.sparse ≡ false) (not (eqb (lent_outcome profile (Insert y) L.slots F).answer.number 0)) refl (outcome-dense (shares_of profile L.slots) y (room_of L.slots F)))

-- THE ANSWER, whatever the card that comes with the request: where it refuses, the number alone
module _ (profile : ℕ) (q : Request) (card : ℕ) (L : Lent) (F : Forecast) where
  abbrev D : Answer
  D = (request profile q card L F).answer

  refused-told : (x : Refusal) → refusal_number x ≡ D.number → refused (refusal_number x) ≡ D
  refused-told x n = ap refused n ∙ sym (ap (λ (d : Called). d.answer) (request_refused profile q card L F (omega (arith, n, refusal-some x))))

  -- where it accepts, of a delete the moves, and whether the list is sparse
  pub delete-told : (v : Verdict) (n : ℕ) (s : Bool) → record { number = verdict_number v; moves = n; sparse = s } ≡ (request profile q card L F).answer
      → delete_paper (result_and v (Ok (record { moves = n; sparse = s }))) ≡ (request profile q card L F).answer
  delete-told (Err x) n s a = refused-told x (ap (λ (d : Answer). d.number) a)
  delete-told (Ok u) n s a = a

-- and of an insert the moves
pub insert-told : (profile y card : ℕ) (L : Lent) (F : Forecast) (v : Verdict) (n : ℕ) (s : Bool)
    → record { number = verdict_number v; moves = n; sparse = s } ≡ (request profile (Insert y) card L F).answer
    → insert_paper (result_and v (Ok n)) ≡ (request profile (Insert y) card L F).answer
insert-told profile y card L F (Err x) n s a = refused-told profile (Insert y) card L F x (ap (λ (d : Answer). d.number) a)
insert-told profile y card L F (Ok u) n s a = (λ i. record { number = 0; moves = n; sparse = sym (ap (λ (d : Answer). d.sparse) a ∙ insert-dense profile L F y card) i }) ∙ a
