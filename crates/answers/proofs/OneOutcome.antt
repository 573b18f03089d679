-- ONE OUTCOME: any two outcomes that a call's promise admits are equal, the answer and all that is left.
use mathlib.Core.Path.{◌≡◌, sym, ◌∙◌}
use mathlib.Core.List.{List}
use Prim.Native.Nat.{ℕ}
use Rattle.forecast.specs.declared.Forecast.{Forecast}
use Rattle.rules.specs.Lent.{Lent}
use Rattle.answers.specs.Answers.{MakeReply, CheckAnswer, LookupAnswer, ScanAnswer, InsertReply, DeleteReply}
use Rattle.answers.specs.Admits.{MakeAdmits, CheckAdmits, LookupAdmits, ScanAdmits, InsertAdmits, DeleteAdmits}
use Rattle.answers.proofs.Papers.{make-told, check-told, lookup-told, scan-told, insert-told, delete-told}

-- make: the reply and what is left of what was lent
pub make-one : (profile : ℕ) (L : Lent) (r r' : MakeReply) (left left' : Lent) → MakeAdmits profile L r left → MakeAdmits profile L r' left' → (r ≡ r') × (left ≡ left')
make-one profile L r r' left left' a b = (
  λ i. record { forecast = (a.forecast ∙ sym b.forecast) i; answer = make-told r.answer r'.answer (a.answer ∙ sym b.answer) i },
  a.lent_left ∙ sym b.lent_left,
)

-- check: the answer
pub check-one : (profile : ℕ) (L : Lent) (F : Forecast) (r r' : CheckAnswer) → CheckAdmits profile L F r → CheckAdmits profile L F r' → r ≡ r'
check-one profile L F r r' a b = check-told r r' (a.answer ∙ sym b.answer)

-- lookup: the answer
pub lookup-one : (profile : ℕ) (L : Lent) (y : ℕ) (r r' : LookupAnswer) → LookupAdmits profile L y r → LookupAdmits profile L y r' → r ≡ r'
lookup-one profile L y r r' a b = lookup-told r r' (a.answer ∙ sym b.answer)

-- scan: the answer and the two outputs left
pub scan-one : (profile : ℕ) (L : Lent) (a : ℕ) (out cards : List ℕ) (r r' : ScanAnswer) (left left' left-cards left-cards' : List ℕ)
    → ScanAdmits profile L a out cards r left left-cards → ScanAdmits profile L a out cards r' left' left-cards' → (r ≡ r') × (left ≡ left') × (left-cards ≡ left-cards')
scan-one profile L a out cards r r' left left' left-cards left-cards' p q = (
  scan-told r r'
      (λ i. record { number = (p.number ∙ sym q.number) i; written = (p.written ∙ sym q.written) i; more = (p.more ∙ sym q.more) i }),
  p.output ∙ sym q.output,
  p.cards_output ∙ sym q.cards_output,
)

-- insert: the reply and what is left of what was lent
pub insert-one : (profile : ℕ) (L : Lent) (F : Forecast) (y v : ℕ) (r r' : InsertReply) (left left' : Lent) → InsertAdmits profile L F y v r left → InsertAdmits profile L F y v r' left'
    → (r ≡ r') × (left ≡ left')
insert-one profile L F y v r r' left left' a b = (
  λ i. record { forecast = (a.forecast ∙ sym b.forecast) i; answer = insert-told r.answer r'.answer (a.answer ∙ sym b.answer) i },
  a.lent_left ∙ sym b.lent_left,
)

-- delete: the reply and what is left of what was lent
pub delete-one : (profile : ℕ) (L : Lent) (F : Forecast) (y : ℕ) (r r' : DeleteReply) (left left' : Lent) → DeleteAdmits profile L F y r left → DeleteAdmits profile L F y r' left'
    → (r ≡ r') × (left ≡ left')
delete-one profile L F y r r' left left' a b = (
  λ i. record { forecast = (a.forecast ∙ sym b.forecast) i; answer = delete-told r.answer r'.answer (a.answer ∙ sym b.answer) i },
  a.lent_left ∙ sym b.lent_left,
)
