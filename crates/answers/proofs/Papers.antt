-- No two answers have the same paper values: each answer is read back from them.
use mathlib.Core.Path.{◌≡◌, refl, sym, ap, ◌∙◌}
use Prim.Native.Nat.{ℕ}
use native.Mathlib.Omega.{arith}
use Rattle.std.proofs.Common.{if◌then◌else◌}
use Rattle.std.specs.Prelude.{Option, Some, None, Result, Ok, Err}
use Rattle.rules.specs.declared.Refusal.{Refusal}
use Rattle.rules.specs.Refusals.{refusal_number}
use Rattle.rules.specs.Looking.{Found}
use Rattle.demands.proofs.Refusals.Told.{refusal-some, refusal-told, verdict-told}
use Rattle.answers.specs.declared.Entry.{Entry}
use Rattle.answers.specs.Answers.{MakeAnswer, make_number, CheckAnswer, check_number, LookupAnswer, lookup_paper, ScanAnswer, scan_paper, InsertAnswer, insert_paper, DeleteAnswer, delete_paper}

-- ANY KIND OF ANSWER: its values have the number of its refusal, or 0 and what it accepts with, which they give back; so they tell it
module _
    {A P : Type 0} (paper : Result A Refusal → P) (number : P → ℕ) (value : P → A) (refuses : (x : Refusal) → number (paper (Err x)) ≡ refusal_number x)
    (accepts : (a : A) → number (paper (Ok a)) ≡ 0) (back : (a : A) → value (paper (Ok a)) ≡ a)
  where
    told : (r s : Result A Refusal) → paper r ≡ paper s → r ≡ s
    told (Err x) (Err y) e = ap Err (refusal-told x y (sym (refuses x) ∙ ap number e ∙ refuses y))
    told (Err x) (Ok b) e = absurd (omega (arith, refusal-some x, refuses x, ap number e, accepts b))
    told (Ok a) (Err y) e = absurd (omega (arith, refusal-some y, refuses y, ap number e, accepts a))
    told (Ok a) (Ok b) e = ap Ok (sym (back a) ∙ ap value e ∙ back b)

-- MAKE AND CHECK: the number alone
pub make-told : (a b : MakeAnswer) → make_number a ≡ make_number b → a ≡ b
make-told = verdict-told

pub check-told : (a b : CheckAnswer) → check_number a ≡ check_number b → a ≡ b
check-told = verdict-told

-- LOOKUP
abbrev found : Found → Option Entry
found f = if f.present then Some (record { segment = f.segment; card = f.card }) else None

found-back : (o : Option Entry) → found (lookup_paper (Ok o)) ≡ o
found-back (Some e) = refl
found-back None = refl

lookup-accepts : (o : Option Entry) → (lookup_paper (Ok o)).number ≡ 0
lookup-accepts (Some e) = refl
lookup-accepts None = refl

pub lookup-told : (a b : LookupAnswer) → lookup_paper a ≡ lookup_paper b → a ≡ b
lookup-told = told lookup_paper (λ f. f.number) found (λ x. refl) lookup-accepts found-back

-- SCAN
pub scan-told : (a b : ScanAnswer) → scan_paper a ≡ scan_paper b → a ≡ b
scan-told = told scan_paper (λ p. p.number) (λ p. record { keys = p.written; more = p.more }) (λ x. refl) (λ w. refl) (λ w. refl)

-- INSERT AND DELETE
pub insert-told : (a b : InsertAnswer) → insert_paper a ≡ insert_paper b → a ≡ b
insert-told = told insert_paper (λ d. d.number) (λ d. d.moves) (λ x. refl) (λ n. refl) (λ n. refl)

pub delete-told : (a b : DeleteAnswer) → delete_paper a ≡ delete_paper b → a ≡ b
delete-told = told delete_paper (λ d. d.number) (λ d. record { moves = d.moves; sparse = d.sparse }) (λ x. refl) (λ d. refl) (λ d. refl)
