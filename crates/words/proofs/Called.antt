-- The calls on what bytes hold of a forecast: the same numbers, answers, slots, cards and table; the same forecast where the call is done;
-- and where it is refused, the forecast lent is left, so that its words need not be written.
use Prim.Native.Nat.{ℕ, ◌^◌, ◌≤◌}
use mathlib.Core.Path.{◌≡◌, refl, sym, ap, ◌∙◌}
use mathlib.Core.Bool.{Bool, true, false, not}
use mathlib.Core.Logic.{inl, inr, ◌≢◌}
use mathlib.Core.List.{List}
use native.Mathlib.Nat.{pow-le-pow_right}
use native.Mathlib.Omega.{arith}
use lib.Dec.{T, eqb, eqb→eq}
use lib.ListN.{length}
use Rattle.std.proofs.Common.{if◌then◌else◌}
use Rattle.lists.proofs.Tests.{tested, neqb→ne}
use Rattle.slots.specs.Segments.{Segments, height_of, segments_of}
use Rattle.slots.proofs.Render.{length-segments}
use Rattle.forecast.specs.declared.Forecast.{Forecast}
use Rattle.std.specs.Prelude.{Result, ⊤}
use Rattle.forecast.specs.declared.Fault.{Fault}
use Rattle.forecast.specs.Faults.{fault_of, is_sound}
use Rattle.forecast.specs.Tidy.{Roomy}
use Rattle.rules.specs.declared.Request.{Request}
use Rattle.rules.specs.declared.Totals.{Totals}
use Rattle.rules.specs.Shares.{cells_of}
use Rattle.rules.specs.Placing.{refused}
use Rattle.rules.specs.Lent.{Lent}
use Rattle.rules.specs.Checks.{shares_of, check_cards, then_forecast, then_table, check, check_list, check_both}
use Rattle.rules.specs.Calls.{Called, request, Worked, stopped_at_once, run}
use Rattle.demands.proofs.Requests.Checked.{passed, both-pass}
use Rattle.demands.proofs.Requests.CardsChecked.{cards-tested}
use Rattle.demands.proofs.Requests.Tabled.{room-passes}
use Rattle.demands.proofs.Requests.SingleCalls.{request-unchecked}
use Rattle.demands.proofs.Refusals.Refused.{request_refused}
use Rattle.demands.proofs.Running.Runs.{run_refused}
use Rattle.words.specs.Words.{saturated}
use Rattle.words.proofs.Saturated.{fault-same, sound-same}

module _ (profile : ℕ) (slots : List ℕ) (F : Forecast) where
  abbrev P : ℕ
  P = cells_of (shares_of profile slots)

  abbrev ss : Segments
  ss = segments_of slots

  -- a list that passes 1 to 3 has at most 64 segments, and room for at most 12 cells
  few-cells : check_list profile slots ≡ 0 → P ≤ 12
  few-cells e = omega (arith, (passed profile slots e).to)

  few-segments : check_list profile slots ≡ 0 → length ss ≤ 64
  few-segments e =
      omega (arith, length-segments slots (2 ^ height_of (length slots)) (passed profile slots e).number, pow-le-pow_right {n = 2} (omega arith) {i = height_of (length slots)} {j = 6} (passed profile slots e).to)

  -- list and forecast get the same number; n is the number by the tests before, 0 only where the list passes
  forecast-same : (n : ℕ) → (n ≡ 0 → check_list profile slots ≡ 0) → then_forecast n profile slots (saturated F) ≡ then_forecast n profile slots F
  unfolding then_forecast
  forecast-same n l = go (eqb n 0) (λ t. l (eqb→eq n 0 t))
    where
      go : (b : Bool) → (T b → check_list profile slots ≡ 0)
          → ◌≡◌ {A = ℕ} (if not b then n else if not (is_sound (fault_of P ss (saturated F))) then 4 else 0) (if not b then n else if not (is_sound (fault_of P ss F)) then 4 else 0)
      go true p = ap {B = ℕ} (λ (r : Result ⊤ Fault). if not (is_sound r) then 4 else 0) (fault-same P (omega (arith, few-cells (p tt))) ss (omega (arith, few-segments (p tt))) F)
      go false p = refl

  -- and one that passes is held whole
  held_whole : check_both profile slots F ≡ 0 → Roomy F → saturated F ≡ F
  held_whole e r =
      let l = (both-pass profile slots F e).0 in
      sound-same P (omega (arith, few-cells l)) ss (omega (arith, few-segments l)) F (few-cells l) r (both-pass profile slots F e).1

-- CHECK gives the same number, cards and table being the same; a forecast that passes is held whole
module _ (profile : ℕ) (L : Lent) (F : Forecast) where
  pub check-same : check profile L (saturated F) ≡ check profile L F
  unfolding check
  check-same = ap (λ (n : ℕ). then_table n L) (forecast-same profile L.slots F (check_cards profile L) (λ z. (cards-tested profile L z).0))

  pub checked-same : check profile L F ≡ 0 → Roomy F → saturated F ≡ F
  checked-same e r = held_whole profile L.slots F (room-passes profile L F e) r

-- A REQUEST: how a request on the saturated forecast c' stands to that on the forecast lent
pub record SameCall (F : Forecast) (c' c : Called) : Type 0 where
  pub answer : c'.answer ≡ c.answer
  pub lent : c'.lent ≡ c.lent
  pub done : c.answer.number ≡ 0 → c'.forecast ≡ c.forecast
  pub left : c.answer.number ≢ 0 → c.forecast ≡ F

-- v is the card that comes with it
pub request-same : (profile : ℕ) (q : Request) (v : ℕ) (L : Lent) (F : Forecast) → Roomy F → SameCall F (request profile q v L (saturated F)) (request profile q v L F)
request-same profile q v L F r =
    elim (tested (eqb (check profile L F) 0)) [
      | inl t ↦
          (let e : request profile q v L (saturated F) ≡ request profile q v L F = ap (request profile q v L) (checked-same profile L F (eqb→eq _ _ t) r) in
          record {
            answer = ap (λ (c : Called). c.answer) e;
            lent = ap (λ (c : Called). c.lent) e;
            done = λ z. ap (λ (c : Called). c.forecast) e;
            left = λ z. ap (λ (c : Called). c.forecast) (request_refused profile q v L F z);
          })
      | inr t ↦
          (let n : check profile L F ≢ 0 = neqb→ne _ _ t in
          let e = request-unchecked profile q v L F n in
          let e' = request-unchecked profile q v L (saturated F) (λ z. n (sym (check-same profile L F) ∙ z)) in
          record {
            answer = ap (λ (c : Called). c.answer) e' ∙ ap refused (check-same profile L F) ∙ sym (ap (λ (c : Called). c.answer) e);
            lent = ap (λ (c : Called). c.lent) e' ∙ sym (ap (λ (c : Called). c.lent) e);
            done = λ z. absurd (n (sym (ap (λ (c : Called). c.answer.number) e) ∙ z));
            left = λ z. ap (λ (c : Called). c.forecast) (request_refused profile q v L F z);
          })
    ]

-- A RUN
pub record SameRun (profile : ℕ) (L : Lent) (F : Forecast) (w' w : Worked) : Type 0 where
  pub lent : w'.lent ≡ w.lent
  pub totals : w'.totals ≡ w.totals
  pub reply : w'.reply ≡ w.reply
  pub done : check profile L F ≡ 0 → w'.forecast ≡ w.forecast
  pub left : check profile L F ≢ 0 → (w.forecast ≡ F) × (w.reply.stop ≡ check profile L F)

pub run-same : (profile : ℕ) (L : Lent) (F : Forecast) (bytes : List ℕ) (allowance : ℕ) (S : Totals) → Roomy F
    → SameRun profile L F (run profile L (saturated F) bytes allowance S) (run profile L F bytes allowance S)
run-same profile L F bytes allowance S r =
    elim (tested (eqb (check profile L F) 0)) [
      | inl t ↦
          (let z : check profile L F ≡ 0 = eqb→eq _ _ t in
          let e : run profile L (saturated F) bytes allowance S ≡ run profile L F bytes allowance S = ap (λ (G : Forecast). run profile L G bytes allowance S) (checked-same profile L F z r) in
          record {
            lent = ap (λ (w : Worked). w.lent) e;
            totals = ap (λ (w : Worked). w.totals) e;
            reply = ap (λ (w : Worked). w.reply) e;
            done = λ z. ap (λ (w : Worked). w.forecast) e;
            left = λ n. absurd (n z);
          })
      | inr t ↦
          (let n : check profile L F ≢ 0 = neqb→ne _ _ t in
          let e : run profile L F bytes allowance S ≡ stopped_at_once L F S (check profile L F) = run_refused profile L F bytes allowance S n in
          let e' : run profile L (saturated F) bytes allowance S ≡ stopped_at_once L (saturated F) S (check profile L (saturated F)) =
          run_refused profile L (saturated F) bytes allowance S (λ z. n (sym (check-same profile L F) ∙ z)) in
          record {
            lent = ap (λ (w : Worked). w.lent) e' ∙ sym (ap (λ (w : Worked). w.lent) e);
            totals = ap (λ (w : Worked). w.totals) e' ∙ sym (ap (λ (w : Worked). w.totals) e);
            reply = ap (λ (w : Worked). w.reply) e' ∙ ap (λ (k : ℕ). (stopped_at_once L F S k).reply) (check-same profile L F) ∙ sym (ap (λ (w : Worked). w.reply) e);
            done = λ z. absurd (n z);
            left = λ m. (ap (λ (w : Worked). w.forecast) e, ap (λ (w : Worked). w.reply.stop) e);
          })
    ]
