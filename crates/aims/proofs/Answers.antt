-- What a request comes to, by the rules' outcome of it: refused, or accepted.
use Rattle.std.proofs.Common.{Err, Ok}
use mathlib.Core.Path.{◌≡◌, refl, sym, ap, ◌∙◌}
use mathlib.Core.Bool.{Bool, true}
use mathlib.Core.Option.{none, some}
use mathlib.Core.List.{List}
use Prim.Native.Nat.{ℕ, zero, suc, ◌≤◌}
use native.Mathlib.Omega.{arith}
use Rattle.slots.specs.Segments.{segments_of}
use Rattle.slots.specs.Keys.{predecessor}
use Rattle.forecast.specs.declared.Forecast.{Forecast}
use Rattle.rules.specs.declared.Refusal.{Refusal}
use Rattle.rules.specs.declared.Refusal.TheVariants.{BadRecord}
use Rattle.rules.specs.declared.Request.{Request}
use Rattle.rules.specs.declared.Request.TheVariants.{Bad}
use Rattle.rules.specs.Refusals.{refusal_number}
use Rattle.rules.specs.Shares.{Shares}
use Rattle.rules.specs.Placing.{Room, Outcome, refused_by, outcome}
use Rattle.rules.specs.Calls.{room_of}
use Rattle.shares.specs.declared.Shape.{Shape}
use Rattle.shares.specs.Rows.{shares_at}
use Rattle.seeking.specs.declared.Spot.{Spot}
use Rattle.seeking.specs.Spots.{Spotted}
use Rattle.aims.specs.declared.Aim.{Aim}
use Rattle.records.specs.Asked.{asked}
use Rattle.aims.specs.Aims.{Stands, seat_for, level_for, level_at, Aimed}
use Rattle.aims.proofs.Places.{place-held, place_at}

-- a level that stands for one
pub level-some : (l : ℕ) → 1 ≤ l → some l ≡ level_at l
level-some zero h = absurd (omega arith)
level-some (suc l) h = refl

-- none is not some
pub none-some : {l : ℕ} → none ≡ some l → ⊥
none-some e = cc

-- refused
pub aimed-refused : (S : Shares) (q : Request) (R : Room) (x : Refusal) → outcome S q R ≡ refused_by (refusal_number x) R → Aimed S q R (Err x)
aimed-refused S q R x e = (sym (ap (λ (o : Outcome). o.answer.number) e), sym (ap (λ (o : Outcome). o.answer.moves) e))

-- a bad record
pub aimed-bad : (S : Shares) (R : Room) → Aimed S Bad R (Err BadRecord)
unfolding outcome
aimed-bad S R = aimed-refused S Bad R BadRecord refl

-- accepted: a key put in, or taken out, where a search for it ended
abbrev pub key_aim : Bool → ℕ → ℕ → Spot → ℕ → ℕ → Aim
key_aim grows y before p level moves = record {
  grows = grows;
  key = y;
  before = before;
  segment = p.place.segment;
  at = p.place.at;
  held = p.place.held;
  level = level;
  moves = moves;
}

module _ {slots : List ℕ} {F : Forecast} {k : Shape} {n : ℕ} (s : Stands slots F k n) {y : ℕ} {p : Spot} (found : Spotted y (segments_of slots) slots p) where
  pub aimed-accepted : (grows : Bool) (before l m : ℕ) {o : Outcome} → outcome (shares_at k) (asked grows y) (room_of slots F) ≡ o
      → o.answer.number ≡ 0 → m ≡ o.answer.moves → p.place.segment ≡ seat_for grows y (segments_of slots)
      → (grows ≡ true → before ≡ predecessor y (segments_of slots)) → level_for (shares_at k) grows y (segments_of slots) ≡ level_at l
      → Aimed (shares_at k) (asked grows y) (room_of slots F) (Ok (key_aim grows y before p l m))
  aimed-accepted grows before l m e number moves segment before-is level = record {
    number = sym (ap (λ (o : Outcome). o.answer.number) e ∙ number);
    moves = moves ∙ sym (ap (λ (o : Outcome). o.answer.moves) e);
    request = refl;
    work = record {
      accepted = ap (λ (o : Outcome). o.answer.number) e ∙ number;
      segment = segment;
      held = place-held s found.place;
      at = place_at s found.place;
      before = before-is;
      level = level;
    };
  }
