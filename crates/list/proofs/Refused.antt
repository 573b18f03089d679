-- Where the check refuses what is lent, check, lookup and scan tell the number, and leave the outputs as they were.
use mathlib.Core.Path.{◌≡◌, sym, ap, ◌∙◌, subst}
use Prim.Native.Nat.{ℕ}
use mathlib.Core.List.{List}
use native.Mathlib.Omega.{arith}
use Rattle.std.specs.Prelude.{Err, IsErrAnd}
use Rattle.std.proofs.lemmas.Result.{err_from_is_err_and}
use Rattle.rules.specs.declared.Refusal.{Refusal}
use Rattle.rules.specs.Refusals.{refusal_number}
use Rattle.rules.specs.Lent.{Lent}
use Rattle.rules.specs.Checks.{check_read}
use Rattle.rules.specs.Looking.{not_found}
use Rattle.demands.proofs.Refusals.CheckCases.{lookup_refused}
use Rattle.demands.proofs.Refusals.Told.{refusal-some}
use Rattle.answers.specs.Answers.{CheckAnswer, check_number, LookupAnswer, ScanAnswer}
use Rattle.answers.specs.Admits.{LookupAdmits, ScanAdmits}
use Rattle.answers.proofs.Replies.{refused-admits}

-- x is the refusal that `?` hands on as r
pub check-told : (n : ℕ) (x : Refusal) (number : refusal_number x ≡ n) (r : CheckAnswer) → IsErrAnd r (λ (z : Refusal). z ≡ x) → check_number r ≡ n
check-told n x number r k =
    let told = err_from_is_err_and r k in
    ap check_number (told.1 ∙ ap (λ (z : Refusal). Err z) told.2) ∙ number

module _ (profile : ℕ) (L : Lent) (x : Refusal) (number : refusal_number x ≡ check_read profile L) where
  read : check_read profile L ≡ refusal_number x
  read = sym number

  pub lookup-told : (y : ℕ) (r : LookupAnswer) → IsErrAnd r (λ (z : Refusal). z ≡ x) → LookupAdmits profile L y r
  lookup-told y r k =
      let told = err_from_is_err_and r k in
      subst (LookupAdmits profile L y) (sym (told.1 ∙ ap (λ (z : Refusal). Err z) told.2))
      (record { answer = sym (lookup_refused profile L y (omega (arith, read, refusal-some x)) ∙ ap not_found read) })

  pub scan-told : (a : ℕ) (out cards : List ℕ) (r : ScanAnswer) → IsErrAnd r (λ (z : Refusal). z ≡ x) → ScanAdmits profile L a out cards r out cards
  scan-told a out cards r k =
      let told = err_from_is_err_and r k in
      subst (λ (s : ScanAnswer). ScanAdmits profile L a out cards s out cards) (sym (told.1 ∙ ap (λ (z : Refusal). Err z) told.2)) (refused-admits profile L a out cards x read)
