-- Demand 2 with a profile for each ask: what passes in the second profile is refused in another, or passes there and is answered by its limits.
use mathlib.Core.Path.{◌≡◌, refl, sym, ap, ap₂, ◌∙◌}
use mathlib.Core.Bool.{Bool, false}
use mathlib.Core.Logic.{inl, inr, ◌≢◌}
use mathlib.Core.List.{List, [], ◌∷◌}
use Prim.Native.Nat.{ℕ, ◌*◌, ◌^◌, ◌≤◌}
use native.Mathlib.Nat.{mul-le-mul_right}
use native.Mathlib.Omega.{arith}
use lib.Dec.{ltb, eqb, eqb→eq}
use borrow.Author.Tests.{le-ltb}
use lib.ListN.{length}
use Rattle.std.proofs.Common.{if◌then◌else◌}
use Rattle.lists.proofs.Tests.{tested, neqb→ne, is_true, is_false}
use Rattle.rules.specs.declared.Profile.{Profile}
use Rattle.rules.specs.declared.Profile.TheVariants.{First, Second}
use Rattle.rules.specs.Profiles.{number_of, is_profile, profile_of, most}
use Rattle.rules.specs.Looking.{Found, Scanned}
use Rattle.rules.specs.Lent.{Lent, right_table}
use Rattle.rules.specs.Checks.{check_cards, then_forecast, then_table, check_read, check, check_both}
use Rattle.rules.specs.Calls.{Called, request, unchanged}
use Rattle.rules.specs.declared.Request.{Request}
use Rattle.rules.specs.declared.Request.TheVariants.{Insert, Delete}
use Rattle.demands.specs.PlainSet as set
use Rattle.demands.specs.Demand2.{Held, told, after, made}
use Rattle.demands.specs.Demand2Mixed.{Asked, refusal, refused_told, set_told, set_after, all_set_told, set_after_all, all_told, after_all, MixedAnswered}
use Rattle.rules.proofs.Sharing.Profiles.{number-known}
use Rattle.demands.proofs.Requests.Checked.{passed, both-pass, list-passes}
use Rattle.demands.proofs.Requests.CardsChecked.{cards-pass}
use Rattle.demands.proofs.Requests.Tabled.{number-stays, table-passes, check-passed, room-passes}
use Rattle.demands.proofs.Refusals.Rows.{most-keys}
use Rattle.demands.proofs.Requests.SingleCalls.{request-unchecked}
use Rattle.demands.proofs.Refusals.CheckCases.{unknown-profile, cards-in, forecast-sound, lookup_refused, scan_refused}
use Rattle.demands.proofs.Demand2.Answered.{Stands, same-told, same_after, made-stands}

-- REFUSED by number k: what is told, and nothing is changed
module _ (n : ℕ) (H : Held) (k : ℕ) (some : k ≢ 0) (read : check_read n H.lent ≡ k) (all : check n H.lent H.forecast ≡ k) where
  unread : check_read n H.lent ≢ 0
  unread z = some (sym read ∙ z)

  left : (q : Request) (v : ℕ) → request n q v H.lent H.forecast ≡ unchanged H.lent H.forecast (check n H.lent H.forecast)
  left q v = request-unchecked n q v H.lent H.forecast (λ z. some (sym all ∙ z))

  refused-told : (a : set.Ask) → told n a H ≡ refused_told k a
  refused-told (set.Insert y v) = ap (λ (c : Called). set.Inserted c.answer.number) (left (Insert y) v) ∙ ap set.Inserted all
  refused-told (set.Delete y) = ap (λ (c : Called). set.Deleted c.answer.number c.answer.sparse) (left (Delete y) 0) ∙ ap (λ (x : ℕ). set.Deleted x false) all
  refused-told (set.Lookup y) = ap (λ (f : Found). set.Found f.number f.present f.card) (lookup_refused n H.lent y unread) ∙ ap (λ (x : ℕ). set.Found x false 0) read
  refused-told (set.Scan a out cards) =
      ap (λ (r : Scanned). set.Scanned r.number r.written r.more r.output r.cards) (scan_refused n H.lent a out cards unread)
      ∙ ap (λ (x : ℕ). set.Scanned x 0 false out cards) read

  refused-after : (a : set.Ask) → after n a H ≡ H
  refused-after (set.Insert y v) = ap (λ (c : Called). record { lent = c.lent; forecast = c.forecast }) (left (Insert y) v)
  refused-after (set.Delete y) = ap (λ (c : Called). record { lent = c.lent; forecast = c.forecast }) (left (Delete y) 0)
  refused-after (set.Lookup y) = refl
  refused-after (set.Scan a out cards) = refl

-- with the right table the number is that by the tests before
right-stays : (x : ℕ) (L : Lent) → L.table ≡ right_table L.slots → then_table x L ≡ x
right-stays x L r =
    elim (tested (eqb x 0)) [
      | inl t ↦ (let e : x ≡ 0 = eqb→eq x 0 t in table-passes x L e r ∙ sym e)
      | inr t ↦ number-stays x L (neqb→ne x 0 t)
    ]

module _ (h : ℕ) (from : 1 ≤ h) (to : h ≤ 6) where
  -- THE CHECK IN ANOTHER PROFILE n, of what passes in profile m
  module _ (m n : ℕ) (H : Held) (E : set.Events) (I : Stands m h H E) where
    abbrev slots : List ℕ
    slots = H.lent.slots

    room : check_both m slots H.forecast ≡ 0
    room = room-passes m H.lent H.forecast I.passes

    right : H.lent.table ≡ right_table slots
    right = (check-passed m H.lent H.forecast I.passes).2

    cards-number : check_cards n H.lent ≡ refusal h n E.keys
    cards-number =
        elim (tested (is_profile n)) [
          | inl t ↦
              rw (is_true (is_profile n) t)
              (cards-in m n H.lent t (cards-pass m H.lent E.card (list-passes m slots H.forecast room) I.holds.cards)
              ∙ ap₂ {C = ℕ} (λ (x : ℕ) (xs : List ℕ). if ltb x (length xs) then 3 else 0) (most-keys n slots h from to I.height) I.holds.keys)
          | inr t ↦ rw (is_false (is_profile n) t) (unknown-profile n H.lent (is_false (is_profile n) t))
        ]

    forecast-number : then_forecast (check_cards n H.lent) n slots H.forecast ≡ refusal h n E.keys
    forecast-number = forecast-sound (check_cards n H.lent) n slots H.forecast (is_true _ (both-pass m slots H.forecast room).1) ∙ cards-number

    read_number : check_read n H.lent ≡ refusal h n E.keys
    unfolding check_read
    read_number = right-stays (check_cards n H.lent) H.lent right ∙ cards-number

    all-number : check n H.lent H.forecast ≡ refusal h n E.keys
    unfolding check
    all-number = right-stays (then_forecast (check_cards n H.lent) n slots H.forecast) H.lent right ∙ forecast-number

    -- where that is 0 it passes there
    stands-in : refusal h n E.keys ≡ 0 → Stands n h H E
    stands-in e = record { passes = all-number ∙ e; height = I.height; holds = I.holds }

  -- the second profile takes what any other takes
  most-second : (p : Profile) → most p * 2 ^ h ≤ 44 * 2 ^ h
  most-second First = mul-le-mul_right (2 ^ h) (omega arith)
  most-second Second = omega arith

  widened : (n : ℕ) (H : Held) (E : set.Events) → Stands n h H E → Stands 2 h H E
  widened n H E I =
      stands-in n 2 H E I (ap (λ (b : Bool). if b then 3 else 0) (le-ltb (44 * 2 ^ h) (length E.keys) (omega (arith, most-second (profile_of n), few))))
    where
      few : length E.keys ≤ most (profile_of n) * 2 ^ h
      few = rw (sym I.holds.keys, sym (most-keys n H.lent.slots h from to I.height))
          (passed n H.lent.slots (list-passes n H.lent.slots H.forecast (room-passes n H.lent H.forecast I.passes))).room

  -- EACH ASK
  module _ (H : Held) (E : set.Events) (I : Stands 2 h H E) (a : Asked) where
    abbrev n : ℕ
    n = a.profile

    abbrev p : Profile
    p = profile_of a.profile

    abbrev no : ℕ
    no = refusal h a.profile E.keys

    mixed-told : told a.profile a.ask H ≡ set_told h a E
    mixed-told =
        elim (tested (eqb no 0)) [
          | inl t ↦ rw (is_true (eqb no 0) t) (same-told n h from to H E (stands-in 2 n H E I (eqb→eq _ _ t)) a.ask)
          | inr t ↦ rw (is_false (eqb no 0) t) (refused-told n H no (neqb→ne _ _ t) (read_number 2 n H E I) (all-number 2 n H E I) a.ask)
        ]

    mixed-after : Stands 2 h (after a.profile a.ask H) (set_after h a E)
    mixed-after =
        elim (tested (eqb no 0)) [
          | inl t ↦
              rw (is_true (eqb no 0) t)
              (widened n (after n a.ask H) (set.after (most p * 2 ^ h) a.ask E) (same_after n h from to H E (stands-in 2 n H E I (eqb→eq _ _ t)) a.ask))
          | inr t ↦
              rw (
                is_false (eqb no 0) t,
                refused-after n H no (neqb→ne _ _ t) (read_number 2 n H E I) (all-number 2 n H E I) a.ask,
              ) I
        ]

  -- ANY SEQUENCE
  from-mixed : (asks : List Asked) (H : Held) (E : set.Events) → Stands 2 h H E
      → (all_told asks H ≡ all_set_told h asks E) × Stands 2 h (after_all asks H) (set_after_all h asks E)
  from-mixed [] H E I = (refl, I)
  from-mixed (a ∷ asks) H E I =
      let rest : (all_told asks (after a.profile a.ask H) ≡ all_set_told h asks (set_after h a E)) × Stands 2 h (after_all asks (after a.profile a.ask H)) (set_after_all h asks (set_after h a E))
      = from-mixed asks (after a.profile a.ask H) (set_after h a E) (mixed-after H E I a) in
      (ap₂ {C = List set.Told} ◌∷◌ (mixed-told H E I a) rest.0, rest.1)

pub mixed_answered : MixedAnswered
mixed_answered p h from to L e c t asks =
    let n : ℕ = number_of p in
    let r = from-mixed h from to asks (made n L) set.empty (widened h from to n (made n L) set.empty (made-stands n (number-known p) h from to L e c t)) in
    (r.0, r.1.holds, r.1.passes)
