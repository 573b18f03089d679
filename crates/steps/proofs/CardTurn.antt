-- The cards after one turn of a run: each stands beside its key again, and beside a key put in the card that came with it.
use Rattle.std.proofs.Common.{Result, Ok}
use mathlib.Core.Path.{◌≡◌, sym, ◌∙◌, subst}
use mathlib.Core.Bool.{Bool, true, false}
use mathlib.Core.List.{List, map}
use Prim.Native.Nat.{ℕ}
use lib.Dec.{T}
use Rattle.lists.proofs.Tests.{eq→eqb}
use Rattle.forecast.specs.declared.Forecast.{Forecast}
use Rattle.rules.specs.declared.Refusal.{Refusal}
use Rattle.rules.specs.declared.Request.{Request}
use Rattle.rules.specs.declared.Request.TheVariants.{Insert}
use Rattle.rules.specs.Shares.{Shares}
use Rattle.rules.specs.Placing.{Room, outcome}
use Rattle.rules.specs.Calls.{room_of}
use Rattle.rules.specs.Cards.{card_in, cards_beside, cards_after}
use Rattle.demands.proofs.Cards.Beside.{in-gap, beside-map}
use Rattle.demands.proofs.Requests.CardsKept.{beside-before, in_after}
use Rattle.shares.specs.declared.Shape.{Shape}
use Rattle.shares.specs.Rows.{shares_at}
use Rattle.aims.specs.declared.Aim.{Aim}
use Rattle.aims.specs.Aims.{Aiming, Aimed}
use Rattle.aims.proofs.Standing.{good-stands, shows-stands}
use Rattle.records.specs.Asked.{asked}
use Rattle.steps.specs.Works.{Turning}

-- whatever stood beside the keys stands beside them again, with v beside a key put in
abbrev pub Carries : Aim → ℕ → List ℕ → List ℕ → List ℕ → List ℕ → Type 0
Carries r v slots cards slots' cards' =
    (f : ℕ → ℕ) → f 0 ≡ 0 → (r.grows ≡ true → f r.key ≡ v) → cards ≡ map f slots → cards' ≡ map f slots'

-- beside a key that is put in stands its card
put-beside : (S : Shares) (b : Bool) (y v : ℕ) (own : ℕ → ℕ) (R : Room) → (outcome S (asked b y) R).answer.number ≡ 0
    → b ≡ true → card_in (cards_after (outcome S (asked b y) R) (asked b y) v own) y ≡ v
put-beside S true y v own R z g = in_after S R v own y (eq→eqb (outcome S (Insert y) R).answer.number 0 z)
put-beside S false y v own R z g = absurd (subst T (sym g) tt)

module _ {slots : List ℕ} {F : Forecast} {bounds table : List ℕ} {k : Shape} {q : Request} {n : ℕ} {r : Result Aim Refusal} (t : Turning slots F bounds table k q n r)
    (own : ℕ → ℕ) (v : ℕ) {cards : List ℕ} (b : cards ≡ cards_beside own slots) where
  -- the card of each key then
  abbrev then : ℕ → ℕ
  then = cards_after (outcome (shares_at k) q (room_of slots F)) q v own

  -- it is that of each key before; so of a request that is refused
  pub cards-refused : cards ≡ cards_beside then slots
  cards-refused =
      b
      ∙ sym (subst (λ (l : List ℕ). cards_beside then l ≡ cards_beside own l) (sym (shows-stands t.stands).whole)
      (beside-before (shares_at k) (room_of slots F) v own q (good-stands t.stands).proper))

  pub cards-accepted : {a : Aim} → r ≡ Ok a → (slots' cards' : List ℕ) → Carries a v slots cards slots' cards' → cards' ≡ cards_beside then slots'
  cards-accepted {a = a} e slots' cards' carries = carries (card_in then) (in-gap then) put (cards-refused ∙ beside-map then slots) ∙ sym (beside-map then slots')
    where
      aimed : Aiming (shares_at k) q (room_of slots F) a
      aimed = subst (Aimed (shares_at k) q (room_of slots F)) e t.aimed

      put : a.grows ≡ true → card_in then a.key ≡ v
      put = rw aimed.request (put-beside (shares_at k) a.grows a.key v own (room_of slots F) aimed.work.accepted)
