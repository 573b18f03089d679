-- One turn of a run: a request that has been decided, and acted on where it is accepted. List, forecast, bounds and table then stand again.
use mathlib.Core.Path.{◌≡◌, refl, sym, ap, ap₂, ◌∙◌, subst}
use mathlib.Core.Bool.{Bool, true, false, not}
use mathlib.Core.Option.{Option}
use mathlib.Core.List.{List}
use Prim.Native.Nat.{ℕ, zero, suc, ◌+◌, ◌-◌, ◌≤◌}
use native.Mathlib.Omega.{arith}
use lib.Dec.{T, ltb, leb, eqb}
use lib.ListN.{length}
use borrow.Author.Tests.{lt-ltb}
use Rattle.std.proofs.Common.{if◌then◌else◌, Result, Ok, Err}
use Rattle.std.specs.Prelude.{IfOk}
use Rattle.lists.proofs.Tests.{either, eq→eqb}
use Rattle.slots.specs.Segments.{Segments, keys, live, height_of}
use Rattle.slots.specs.Keys.{member}
use Rattle.slots.proofs.Render.{live-render}
use Rattle.cells.specs.declared.Cell.{Cell}
use Rattle.forecast.specs.declared.Forecast.{Forecast}
use Rattle.forecast.specs.Cells.{used_cells, forecast_of}
use Rattle.forecast.proofs.Laws.{used-forecast_of}
use Rattle.rules.specs.declared.Refusal.{Refusal}
use Rattle.rules.specs.declared.Request.{Request}
use Rattle.rules.specs.declared.Request.TheVariants.{Insert, Delete, Bad}
use Rattle.rules.specs.declared.Profile.{Profile}
use Rattle.rules.specs.Profiles.{number_of, profile_of}
use Rattle.rules.specs.Shares.{Shares, shares, capacity}
use Rattle.rules.specs.Placing.{Room, Outcome, refused_by, settled, insert_key, delete_key, outcome}
use Rattle.rules.specs.Checks.{check_both}
use Rattle.rules.specs.Calls.{room_of}
use Rattle.rules.specs.Runs.{is_bad}
use Rattle.rules.proofs.Sharing.Profiles.{profile-named, number-known}
use Rattle.demands.proofs.Requests.Accepted.{refused-is, insert-accepts, delete-accepts, insert-accepted, delete-accepted}
use Rattle.demands.proofs.Requests.Checked.{check-render, room-render, height-render}
use Rattle.demands.proofs.Requests.StaysGood.{Good, good-next}
use Rattle.demands.proofs.Requests.MoveBound.{length-insert, length-delete}
use Rattle.shares.specs.declared.Shape.{Shape}
use Rattle.shares.specs.Rows.{shares_at}
use Rattle.seats.specs.Bounds.{Indexed}
use Rattle.aims.specs.declared.Aim.{Aim}
use Rattle.records.specs.Asked.{asked}
use Rattle.aims.specs.Aims.{Stands, level_for, level_at, Aiming, Aimed}
use Rattle.aims.proofs.Standing.{height-stands, lawful-stands, good-stands, keys-stand}
use Rattle.sweeps.specs.Acts.{outcome_of, Acting, Acted}
use Rattle.tallies.specs.Counted.{is_swept, keys_of}
use Rattle.demands.proofs.Refusals.Told.{refusal-some}
use Rattle.steps.specs.Works.{Turning, Turned}

-- a room that is good in a profile is good in the profile of its number
good-named : (p : Profile) (h : ℕ) (R : Room) → Good (shares p h) R → Good (shares (profile_of (number_of p)) h) R
good-named p h R = subst (λ (x : Profile). Good (shares x h) R) (sym (profile-named p))

-- THE NUMBER of a request: 9 of a bad one, with no moves, and at most 8 of any other
abbrev Low : Outcome → Type 0
Low o = o.answer.number ≤ 8

pub low : (S : Shares) (q : Request) (R : Room) → T (not (is_bad q)) → Low (outcome S q R)
unfolding outcome
low S (Insert y) R g =
    either Low (eqb y 0) {x = refused_by 5 R} (omega arith)
    (either Low (member y (keys R.segments)) {x = refused_by 6 R} (omega arith)
    (either Low (leb (capacity S) (length (keys R.segments))) {x = refused_by 8 R} (omega arith) (omega (arith, insert-accepts S y R))))
low S (Delete y) R g =
    either Low (eqb y 0) {x = refused_by 5 R} (omega arith)
    (either Low (not (member y (keys R.segments))) {x = refused_by 7 R} (omega arith) (omega (arith, delete-accepts S y R)))
low S Bad R g = absurd g

pub bad-is : (S : Shares) (q : Request) (R : Room) → T (is_bad q) → outcome S q R ≡ refused_by 9 R
unfolding outcome
bad-is S (Insert y) R b = absurd b
bad-is S (Delete y) R b = absurd b
bad-is S Bad R b = refl

-- WHETHER IT SWEEPS, by its level
swept-settled : (S : Shares) (s : ℕ) (cs : List Cell) (ss : Segments) (n : ℕ) (b : Bool) (l : ℕ) → (settled S s cs ss n b (level_at l)).swept ≡ ltb 0 l
unfolding settled
swept-settled S s cs ss n b zero = refl
swept-settled S s cs ss n b (suc l) = sym (lt-ltb 0 (suc l) (omega arith))

swept-by : (S : Shares) (s : ℕ) (cs : List Cell) (ss : Segments) (n : ℕ) (b : Bool) (m : Option ℕ) (l : ℕ) → m ≡ level_at l → (settled S s cs ss n b m).swept ≡ ltb 0 l
swept-by S s cs ss n b m l e = ap (λ (k : Option ℕ). (settled S s cs ss n b k).swept) e ∙ swept-settled S s cs ss n b l

swept-insert : (S : Shares) (y : ℕ) (R : Room) (l : ℕ) → level_for S true y R.segments ≡ level_at l → (insert_key S y R).swept ≡ ltb 0 l
unfolding insert_key
swept-insert S y R l e = swept-by S _ _ _ _ _ _ l e

swept-delete : (S : Shares) (y : ℕ) (R : Room) (l : ℕ) → level_for S false y R.segments ≡ level_at l → (delete_key S y R).swept ≡ ltb 0 l
unfolding delete_key
swept-delete S y R l e = swept-by S _ _ _ _ _ _ l e

swept-level : (S : Shares) (b : Bool) (y : ℕ) (R : Room) (l : ℕ) → (outcome S (asked b y) R).answer.number ≡ 0 → level_for S b y R.segments ≡ level_at l
    → (outcome S (asked b y) R).swept ≡ ltb 0 l
swept-level S true y R l z e =
    ap (λ (o : Outcome). o.swept) (insert-accepted S y R (eq→eqb (outcome S (Insert y) R).answer.number 0 z)).is ∙ swept-insert S y R l e
swept-level S false y R l z e =
    ap (λ (o : Outcome). o.swept) (delete-accepted S y R (eq→eqb (outcome S (Delete y) R).answer.number 0 z)).is ∙ swept-delete S y R l e

-- THE KEYS THEN
keys-then : (S : Shares) (b : Bool) (y : ℕ) (R : Room) (n : ℕ) → Good S R → length (keys R.segments) ≡ n → (outcome S (asked b y) R).answer.number ≡ 0
    → length (keys (outcome S (asked b y) R).room.segments) ≡ (if b then n + 1 else n - 1)
keys-then S true y R n G e z = omega (arith, length-insert S y R G z, e)
keys-then S false y R n G e z = omega (arith, length-delete S y R G z, e)

pub some_key : (S : Shares) (b : Bool) (y : ℕ) (R : Room) (n : ℕ) → Good S R → length (keys R.segments) ≡ n → (outcome S (asked b y) R).answer.number ≡ 0
    → b ≡ false → 1 ≤ n
some_key S true y R n G e z f = absurd (subst T f tt)
some_key S false y R n G e z f = omega (arith, length-delete S y R G z, e)

module _ {slots : List ℕ} {F : Forecast} {bounds table : List ℕ} {k : Shape} {q : Request} {n : ℕ} {r : Result Aim Refusal} (t : Turning slots F bounds table k q n r) where
  abbrev S : Shares
  S = shares_at k

  abbrev R : Room
  R = room_of slots F

  -- REFUSED: nothing moves, and all is as it was
  module _ {x : Refusal} (e : r ≡ Err x) where
    refused-turn : outcome S q R ≡ refused_by (outcome S q R).answer.number R
    refused-turn = refused-is S q R (λ z. absurd (omega (arith, z, (subst (Aimed S q R) e t.aimed).0, refusal-some x)))

    pub turned-refused : Turned (outcome S q R) slots F bounds table k (keys_of n r)
    turned-refused = record {
      stands = subst (Stands slots F k) (sym (ap (keys_of n) e)) t.stands;
      shown = t.shown;
      index = t.index;
      room = sym (ap (λ (o : Outcome). o.room) refused-turn);
    }

    swept-refused : is_swept r ≡ (outcome S q R).swept
    swept-refused = ap is_swept e ∙ sym (ap (λ (o : Outcome). o.swept) refused-turn)

  -- ACCEPTED: what acting asks for, and what it leaves
  module _ {a : Aim} (e : r ≡ Ok a) where
    aimed : Aiming S q R a
    aimed = subst (Aimed S q R) e t.aimed

    same : outcome S q R ≡ outcome_of slots F k a
    same = ap (λ (p : Request). outcome S p R) aimed.request

    pub acting : Acting slots F bounds table k a
    acting = record {
      keys = n;
      stands = t.stands;
      index = t.index;
      accepts = aimed.work;
      moves = aimed.moves ∙ ap (λ (o : Outcome). o.answer.moves) same;
    }

    key-there : a.grows ≡ false → 1 ≤ n
    key-there = some_key S a.grows a.key R n (good-stands t.stands) (keys-stand t.stands) acting.accepts.accepted

    swept-accepted : is_swept r ≡ (outcome S q R).swept
    swept-accepted =
        ap is_swept e ∙ sym (ap (λ (o : Outcome). o.swept) same ∙ swept-level S a.grows a.key R a.level acting.accepts.accepted acting.accepts.level)

    good : Good S (outcome_of slots F k a).room
    good = good-next S (lawful-stands t.stands) (asked a.grows a.key) R (good-stands t.stands)

    many : length (keys (outcome_of slots F k a).room.segments) ≡ keys_of n r
    many =
        keys-then S a.grows a.key R n (good-stands t.stands) (keys-stand t.stands) acting.accepts.accepted ∙ sym (ap (keys_of n) e)

    pub turned-accepted : {slots' bounds' table' : List ℕ} {F' : Forecast} → Acted (outcome_of slots F k a) slots' bounds' table' F'
        → Turned (outcome S q R) slots' F' bounds' table' k (keys_of n r)
    turned-accepted {slots' = slots'} {bounds' = bounds'} {table' = table'} {F' = F'} d =
        let O : Room = (outcome_of slots F k a).room in
        let h = height-stands t.stands in
        let P : Profile = k.profile in
        let made = good-named P k.height O good in
        let room : room_of slots' F' ≡ O = ap₂ room_of d.left.slots_left d.forecast ∙ room-render (number_of P) (number-known P) k.height h.0 h.1 O made in
        record {
          stands = record {
            passes = ap₂ (check_both (number_of P)) d.left.slots_left d.forecast ∙ check-render (number_of P) (number-known P) k.height h.0 h.1 O made;
            height = ap (λ (l : List ℕ). height_of (length l)) d.left.slots_left ∙ height-render (number_of P) (number-known P) k.height h.0 h.1 O made;
            shape = t.stands.shape;
            many = ap (λ (l : List ℕ). length (live l)) d.left.slots_left
                ∙ ap (λ (l : List ℕ). length l) (live-render O.segments good.proper.listed.live) ∙ many;
          };
          shown = ap (λ (f : Forecast). forecast_of (used_cells f)) d.forecast ∙ ap forecast_of (used-forecast_of O.cells) ∙ sym d.forecast;
          index = subst (λ (ss : Segments). Indexed ss slots' bounds' table') (sym (ap (λ (z : Room). z.segments) room)) d.left.index;
          room = room ∙ sym (ap (λ (o : Outcome). o.room) same);
        }

  -- EITHER WAY it counts as a sweep where the rules sweep, and a key to take out is there
  pub swept-turn : is_swept r ≡ (outcome S q R).swept
  swept-turn = go r refl
    where
      go : (z : Result Aim Refusal) → r ≡ z → is_swept r ≡ (outcome S q R).swept
      go (Err x) e = swept-refused e
      go (Ok a) e = swept-accepted e

  pub keys-asked : IfOk r (λ (a : Aim). a.grows ≡ false → 1 ≤ n)
  keys-asked = go r refl
    where
      go : (z : Result Aim Refusal) → r ≡ z → IfOk z (λ (a : Aim). a.grows ≡ false → 1 ≤ n)
      go (Err x) e = tt
      go (Ok a) e = key-there e
