-- `clear` empties a list of any height, its cards and its table, and refuses an unknown profile, other slots, and cards and a table of another
-- length.
use mathlib.Core.Path.{◌≡◌, sym, ap, ◌∙◌}
use mathlib.Core.Logic.{◌≢◌, inl, inr}
use mathlib.Core.List.{[]}
use Prim.Native.Nat.{ℕ, ◌-◌, ◌/◌, ◌≤◌}
use native.Mathlib.Nat.{pow-succ'}
use native.Mathlib.Omega.{arith}
use Rattle.std.specs.Prelude.{Err}
use Rattle.std.proofs.lemmas.Result.{err_from_is_err_and}
use Rattle.slots.specs.Segments.{height_of}
use Rattle.slots.proofs.HeightLaws.{height-cases}
use Rattle.slots.proofs.Windows.{pow_pos}
use Rattle.gaps.specs.Gaps.{cleared}
use Rattle.levels.specs.Tables.{table_size}
use Rattle.tables.proofs.Cleared.{all-cleared}
use Rattle.forecast.specs.Cells.{forecast_of}
use Rattle.rules.specs.declared.Refusal.{Refusal}
use Rattle.rules.specs.Lent.{Lent, lend}
use Rattle.rules.specs.Calls.{Made, make}
use Rattle.answers.specs.Answers.{MakeAnswer, make_number}
use Rattle.answers.specs.Admits.{MakeAdmits}
use Rattle.answers.proofs.Replies.{make-unknown, make_refused, make-wrong-cards, make-wrong-table, make-done}
use Rattle.making.proofs.clear.Goals as goal

-- what is told and left is what the rules make of it
admits : (profile : ℕ) (L : Lent) (a : MakeAnswer) (left : Lent) → make profile L ≡ record { lent = left; forecast = forecast_of []; number = make_number a }
    → MakeAdmits profile L (record { forecast = forecast_of []; answer = a }) left
admits profile L a left e = record {
  answer = sym (ap (λ (m : Made). m.number) e);
  forecast = sym (ap (λ (m : Made). m.forecast) e);
  lent_left = sym (ap (λ (m : Made). m.lent) e);
}

-- the entries of its table by the slots of a list
size : (n : ℕ) → height_of n ≢ 0 → (1 ≤ n / 32) × (n / 32 - 1 ≡ table_size (height_of n))
size n h =
    elim (height-cases n) [
      | inl z ↦ absurd (h z.0)
      | inr z ↦ (omega (arith, z.2, pow_pos (height_of n)), omega (arith, z.2, pow-succ' 2 (height_of n)))
    ]

pub returns-in_err-try_from : goal.returns-in_err-try_from
returns-in_err-try_from c =
    let a = c.args in
    let L : Lent = lend a.list.now a.cards.now a.table.now in
    let unknown = c.in_err-try_from.ensures in
    let told = err_from_is_err_and _ c.from_residual.ensures.1 in
    admits _ L _ _
    (make-unknown _ _ unknown.0
    ∙ ap (λ (v : MakeAnswer). record { lent = L; forecast = forecast_of []; number = make_number v }) (sym (told.1 ∙ ap (λ (x : Refusal). Err x) (told.2 ∙ unknown.1))))

pub returns-in_default : goal.returns-in_default
returns-in_default c = admits _ _ _ _ (make_refused _ _ c.in_ok-try_from.ensures.0 c.in_default.ensures)

-- a list of a height that is told
high : (h n : ℕ) → h ≡ height_of n → 1 ≤ h → height_of n ≢ 0
high h n e k z = omega arith

pub returns-then-cards-n : goal.returns-then-cards-n
returns-then-cards-n c = admits _ _ _ _ (make-wrong-cards _ _ c.in_ok-try_from.ensures.0 (high _ _ c.in-Some.ensures.0 c.in-Some.ensures.1) c.if-cards-n.true)

pub overflow_sub-n : goal.overflow_sub-n
overflow_sub-n c = (size _ (high _ _ c.in-Some.ensures.0 c.in-Some.ensures.1)).0

pub returns-then-entries-n : goal.returns-then-entries-n
returns-then-entries-n c =
    let tall = high _ _ c.in-Some.ensures.0 c.in-Some.ensures.1 in
    admits _ _ _ _ (make-wrong-table _ _ c.in_ok-try_from.ensures.0 tall c.if-cards-n.false (λ e. c.if-entries-n.true (e ∙ sym (size _ tall).1)))

pub returns : goal.returns
returns c =
    let a = c.args in
    let L : Lent = lend a.list.now a.cards.now a.table.now in
    let tall = high _ _ c.in-Some.ensures.0 c.in-Some.ensures.1 in
    let both = c.clear.ensures in
    let slots = both.slots ∙ all-cleared L.slots in
    let cards = both.cards ∙ ap (λ (n : ℕ). cleared 0 n 0 L.cards) (sym c.if-cards-n.false) ∙ all-cleared L.cards in
    let table = c.clear-2.ensures in
    admits _ L _ _
    (make-done _ L c.in_ok-try_from.ensures.0 tall c.if-cards-n.false (c.if-entries-n.false ∙ (size _ tall).1)
    ∙ λ i. record { lent = lend (sym slots i) (sym cards i) (sym table i); forecast = forecast_of []; number = 0 })
