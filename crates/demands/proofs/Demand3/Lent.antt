-- Demand 3 of the public calls: an accepted call is an accepted request of the rules, on what the slots and the forecast show.
use mathlib.Core.Path.{◌≡◌, refl, sym, ap, ap₂, ◌∙◌, subst}
use mathlib.Core.Bool.{Bool, true, false, not}
use mathlib.Core.Logic.{◌≢◌}
use mathlib.Core.List.Memᴰ.{head as here}
use mathlib.Core.List.Memᴰ.{tail as there}
use mathlib.Core.List.{List, [], ◌∷◌, ◌++◌}
use Prim.Native.Nat.{ℕ}
use native.Mathlib.Omega.{arith}
use lib.Dec.{T, eqb, eqb→eq}
use lib.ListN.{length}
use Rattle.std.proofs.Common.{if◌then◌else◌}
use Rattle.lists.specs.Lists.{All}
use Rattle.lists.proofs.Tests.{neqb→ne, eq→eqb, is_true}
use Rattle.slots.specs.Segments.{Segments, height_of, segments_of}
use Rattle.forecast.specs.declared.Forecast.{Forecast}
use Rattle.forecast.specs.Cells.{used_cells}
use Rattle.rules.specs.declared.Request.{Request}
use Rattle.rules.specs.Profiles.{profile_of}
use Rattle.rules.specs.Shares.{Shares, Lawful, shares}
use Rattle.rules.specs.Placing.{Room, Answer}
use Rattle.rules.specs.Lent.{Lent, lend}
use Rattle.rules.specs.Checks.{shares_of, check_both, check}
use Rattle.rules.specs.Calls.{room_of, Called, request}
use Rattle.rules.specs.Readings.{Proper}
use Rattle.demands.specs.History.{Event, accepted, Turn, events}
use Rattle.demands.specs.Demand3Lent.{event_of, LentInside, LentAsk, Change, Lookup, Scan, lent_events, lent_profiles, LentAgain}
use Rattle.rules.proofs.Sharing.Table.{lawful}
use Rattle.demands.proofs.Refusals.Refused.{request_refused}
use Rattle.demands.proofs.Requests.Checked.{checked, checked-known, room-render}
use Rattle.demands.proofs.Requests.Tabled.{room-passes}
use Rattle.demands.proofs.Requests.SingleCalls.{lent_outcome, request-unchecked, lent-accepted, request-answer, request_keeps, good-lent}
use Rattle.demands.proofs.Demand3.Inside.{inside-kept}
use Rattle.demands.proofs.Demand3.Again.{swept-again}

-- ONE CALL
module _ (profile : ℕ) (q : Request) (v : ℕ) (L : Lent) (F : Forecast) where
  stays_lent : (request profile q v L F).answer.number ≢ 0 → (request profile q v L F).lent.slots ≡ L.slots
  stays_lent n = ap (λ (c : Called). c.lent.slots) (request_refused profile q v L F n)

  module _ (e : (request profile q v L F).answer.number ≡ 0) where
    -- what is accepted has passed the check, and the rules accept it
    passes : check profile L F ≡ 0
    passes = go (eqb (check profile L F) 0) (eqb→eq _ _) (neqb→ne _ _)
      where
        go : (b : Bool) → (T b → check profile L F ≡ 0) → (T (not b) → check profile L F ≢ 0) → check profile L F ≡ 0
        go true p n = p tt
        go false p n = sym (ap (λ (c : Called). c.answer.number) (request-unchecked profile q v L F (n tt))) ∙ e

    sound : check_both profile L.slots F ≡ 0
    sound = room-passes profile L F passes

    accepts : (lent_outcome profile q L.slots F).answer.number ≡ 0
    accepts = sym (ap (λ (a : Answer). a.number) (request-answer profile q v L F passes)) ∙ e

    accepted-lent : T (accepted (shares_of profile L.slots) q (room_of L.slots F))
    accepted-lent = eq→eqb _ 0 accepts

    lawful-lent : Lawful (shares_of profile L.slots)
    lawful-lent = lawful (profile_of profile) (height_of (length L.slots)) (checked profile L.slots F sound).0 (checked profile L.slots F sound).1

    proper-lent : Proper (shares_of profile L.slots) (segments_of L.slots)
    proper-lent = (checked profile L.slots F sound).2.proper

    -- the slots that it leaves show the segments that the rules leave, at the same height
    segments-left : segments_of (request profile q v L F).lent.slots ≡ (lent_outcome profile q L.slots F).room.segments
    segments-left =
        ap (λ (c : Called). segments_of c.lent.slots) (lent-accepted profile q v L F passes accepts)
        ∙ ap (λ (R : Room). R.segments)
        (room-render profile (checked-known profile L.slots F sound) (height_of (length L.slots)) (checked profile L.slots F sound).0 (checked profile L.slots F sound).1 (lent_outcome profile q L.slots F).room (good-lent profile q L.slots F sound))

    shares_left : shares_of profile (request profile q v L F).lent.slots ≡ shares_of profile L.slots
    shares_left = ap (λ (n : ℕ). shares (profile_of profile) (height_of n)) (request_keeps profile q v L F passes).1

-- FIRST PART
pub lent_inside : LentInside
lent_inside profile q v L F e k u j t h w =
    rw (segments-left profile q v L F e)
    (inside-kept (shares_of profile L.slots) (lawful-lent profile q v L F e) q (room_of L.slots F) (proper-lent profile q v L F e) (accepted-lent profile q v L F e) k u j t h w)

-- SECOND PART. The accepted requests as turns
abbrev turns_of : List LentAsk → List ℕ → List Turn
turns_of [] slots = []
turns_of (Change m q v cards table F ∷ asks) slots =
    let rest : List Turn = turns_of asks (request m q v (lend slots cards table) F).lent.slots in
    if eqb (request m q v (lend slots cards table) F).answer.number 0 then record { request = q; cells = used_cells F } ∷ rest else rest
turns_of (Lookup m y ∷ asks) slots = turns_of asks slots
turns_of (Scan m a out cards ∷ asks) slots = turns_of asks slots

-- all that was accepted was asked in this profile
abbrev In : ℕ → List LentAsk → List ℕ → Type 0
In profile asks slots = All (λ m. m ≡ profile) (lent_profiles asks slots)

-- one more request, and what follows it
module _ (profile m : ℕ) (q : Request) (v : ℕ) (cards table : List ℕ) (F : Forecast) (asks : List LentAsk) (slots : List ℕ) where
  abbrev left : List ℕ
  left = (request m q v (lend slots cards table) F).lent.slots

  -- by whether it is accepted: the turns, the events, and that all were asked in this profile
  abbrev turns_by : Bool → List Turn
  turns_by b = if b then record { request = q; cells = used_cells F } ∷ turns_of asks left else turns_of asks left

  abbrev events_by : Bool → List Event
  events_by b = if b then event_of m q slots F ∷ lent_events asks left else lent_events asks left

  abbrev InBy : Bool → Type 0
  InBy b = All (λ k. k ≡ profile) (if b then m ∷ lent_profiles asks left else lent_profiles asks left)

  -- whatever holds in the profile of an accepted one
  by-profile : (P : ℕ → Type 0) → InBy true → P m → P profile
  by-profile P i = subst P (i m (here refl))

  abbrev Same : ℕ → Type 0
  Same k = events (shares_of k left) (turns_of asks left) (segments_of left) ≡ lent_events asks left

  same-events : (b : Bool) → (T b → (request m q v (lend slots cards table) F).answer.number ≡ 0) → (T (not b) → (request m q v (lend slots cards table) F).answer.number ≢ 0) → InBy b
      → (In profile asks left → Same profile) → events (shares_of profile slots) (turns_by b) (segments_of slots) ≡ events_by b
  same-events true y n i rest =
      by-profile (λ k. Same k → events (shares_of k slots) (turns_by true) (segments_of slots) ≡ events_by true) i
      (λ r.
      rw (is_true (accepted (shares_of m slots) q (room_of slots F)) (accepted-lent m q v (lend slots cards table) F (y tt)))
      (ap (λ (es : List Event). event_of m q slots F ∷ es)
      (ap₂ (λ (S : Shares) (ss : Segments). events S (turns_of asks left) ss) (sym (shares_left m q v (lend slots cards table) F (y tt))) (sym (segments-left m q v (lend slots cards table) F (y tt))) ∙ r)))
      (rest (λ k j. i k (there j)))
  same-events false y n i rest =
      ap (λ (xs : List ℕ). events (shares_of profile xs) (turns_of asks left) (segments_of xs)) (sym (stays_lent m q v (lend slots cards table) F (n tt))) ∙ rest i

  -- where one is accepted, the slots show a list
  abbrev Shown : ℕ → List ℕ → Type 0
  Shown k xs = Lawful (shares_of k xs) × Proper (shares_of k xs) (segments_of xs)

  same-shown : (e : Event) (es : List Event) (b : Bool) → (T b → (request m q v (lend slots cards table) F).answer.number ≡ 0) → (T (not b) → (request m q v (lend slots cards table) F).answer.number ≢ 0) → InBy b
      → events_by b ≡ e ∷ es → (In profile asks left → lent_events asks left ≡ e ∷ es → Shown profile left) → Shown profile slots
  same-shown e es true y n i p rest = by-profile (λ k. Shown k slots) i (lawful-lent m q v (lend slots cards table) F (y tt), proper-lent m q v (lend slots cards table) F (y tt))
  same-shown e es false y n i p rest = subst (Shown profile) (stays_lent m q v (lend slots cards table) F (n tt)) (rest i p)

-- ANY ASKS
events-lent : (profile : ℕ) (asks : List LentAsk) (slots : List ℕ) → In profile asks slots
    → events (shares_of profile slots) (turns_of asks slots) (segments_of slots) ≡ lent_events asks slots
events-lent profile [] slots i = refl
events-lent profile (Lookup m y ∷ asks) slots i = events-lent profile asks slots i
events-lent profile (Scan m a out cards ∷ asks) slots i = events-lent profile asks slots i
events-lent profile (Change m q v cards table F ∷ asks) slots i =
    same-events profile m q v cards table F asks slots (eqb (request m q v (lend slots cards table) F).answer.number 0) (eqb→eq _ _) (neqb→ne _ _) i (events-lent profile asks (request m q v (lend slots cards table) F).lent.slots)

shown : (profile : ℕ) (asks : List LentAsk) (slots : List ℕ) (e : Event) (es : List Event) → In profile asks slots → lent_events asks slots ≡ e ∷ es
    → Lawful (shares_of profile slots) × Proper (shares_of profile slots) (segments_of slots)
shown profile [] slots e es i p = absurd (omega (arith, ap length p))
shown profile (Lookup m y ∷ asks) slots e es i p = shown profile asks slots e es i p
shown profile (Scan m a out cards ∷ asks) slots e es i p = shown profile asks slots e es i p
shown profile (Change m q v cards table F ∷ asks) slots e es i p =
    same-shown profile m q v cards table F asks slots e es (eqb (request m q v (lend slots cards table) F).answer.number 0) (eqb→eq _ _) (neqb→ne _ _) i p (shown profile asks (request m q v (lend slots cards table) F).lent.slots e es)

pub lent_again : LentAgain
lent_again profile slots asks l s e₀ es e i A =
    let k = shown profile asks slots e₀ (es ++ (e ∷ [])) i A.history in
    swept-again (shares_of profile slots) k.0 (segments_of slots) k.1 (turns_of asks slots) l s e₀ es e (rw (events-lent profile asks slots i) A)
