-- Which requests are accepted, and that a refused one leaves all as it was, with zero moves.
use mathlib.Core.Path.{◌≡◌, refl}
use mathlib.Core.Bool.{Bool, true, false, not}
use mathlib.Core.Option.{Option, none, some}
use mathlib.Core.List.{List}
use Prim.Native.Nat.{ℕ, ◌<◌}
use mathlib.Core.Logic.{◌≢◌}
use native.Mathlib.Nat.{pos_of_ne-zero}
use lib.Dec.{T, leb, eqb, nleb→lt}
use lib.ListN.{length}
use Rattle.std.proofs.Common.{if◌then◌else◌}
use Rattle.lists.proofs.Tests.{neqb→ne}
use Rattle.slots.specs.Segments.{Segments, keys}
use Rattle.slots.specs.Keys.{member}
use Rattle.cells.specs.declared.Cell.{Cell}
use Rattle.rules.specs.declared.Request.{Request}
use Rattle.rules.specs.declared.Request.TheVariants.{Insert, Delete, Bad}
use Rattle.rules.specs.Shares.{Shares, capacity}
use Rattle.rules.specs.Placing.{Room, Outcome, refused_by, settled, insert_key, delete_key, outcome}
use Rattle.demands.specs.History.{accepted}

-- what is settled is accepted
pub settled-number : (S : Shares) (s : ℕ) (cs : List Cell) (ss : Segments) (n : ℕ) (b : Bool) (r : Option ℕ) → (settled S s cs ss n b r).answer.number ≡ 0
unfolding settled
settled-number S s cs ss n b none = refl
settled-number S s cs ss n b (some l) = refl

pub insert-accepts : (S : Shares) (y : ℕ) (R : Room) → (insert_key S y R).answer.number ≡ 0
unfolding insert_key
insert-accepts S y R = settled-number S _ _ _ _ _ _

pub delete-accepts : (S : Shares) (y : ℕ) (R : Room) → (delete_key S y R).answer.number ≡ 0
unfolding delete_key
delete-accepts S y R = settled-number S _ _ _ _ _ _

-- and is sparse as was said
pub settled-sparse : (S : Shares) (s : ℕ) (cs : List Cell) (ss : Segments) (n : ℕ) (b : Bool) (r : Option ℕ) → (settled S s cs ss n b r).answer.sparse ≡ b
unfolding settled
settled-sparse S s cs ss n b none = refl
settled-sparse S s cs ss n b (some l) = refl

-- the tests of an insert and of a delete, by their results
abbrev insert_by : Bool → Bool → Bool → Shares → ℕ → Room → Outcome
insert_by a b c S y R = if a then refused_by 5 R else if b then refused_by 6 R else if c then refused_by 8 R else insert_key S y R

abbrev delete_by : Bool → Bool → Shares → ℕ → Room → Outcome
delete_by a b S y R = if a then refused_by 5 R else if not b then refused_by 7 R else delete_key S y R

module _ (S : Shares) (y : ℕ) (R : Room) where
  -- what an accepted insert has passed
  pub record Inserts : Type 0 where
    pub key : 0 < y
    pub fresh : T (not (member y (keys R.segments)))
    pub room : length (keys R.segments) < capacity S
    pub is : outcome S (Insert y) R ≡ insert_key S y R

  pub insert-accepted : T (accepted S (Insert y) R) → Inserts
  unfolding outcome
  insert-accepted t = go (eqb y 0) (neqb→ne y 0) (member y (keys R.segments)) refl (leb (capacity S) (length (keys R.segments))) (nleb→lt _ _) refl t
    where
      go : (a : Bool) → (T (not a) → y ≢ 0) → (b : Bool) → member y (keys R.segments) ≡ b → (c : Bool) → (T (not c) → length (keys R.segments) < capacity S)
          → outcome S (Insert y) R ≡ insert_by a b c S y R → T (eqb (insert_by a b c S y R).answer.number 0) → Inserts
      go true n b m c k e t = absurd t
      go false n true m c k e t = absurd t
      go false n false m true k e t = absurd t
      go false n false m false k e t = record { key = pos_of_ne-zero (n tt); fresh = rw m tt; room = k tt; is = e }

  -- what an accepted delete has passed
  pub record Deletes : Type 0 where
    pub present : T (member y (keys R.segments))
    pub is : outcome S (Delete y) R ≡ delete_key S y R

  pub delete-accepted : T (accepted S (Delete y) R) → Deletes
  unfolding outcome
  delete-accepted t = go (eqb y 0) (member y (keys R.segments)) refl refl t
    where
      go : (a b : Bool) → member y (keys R.segments) ≡ b → outcome S (Delete y) R ≡ delete_by a b S y R → T (eqb (delete_by a b S y R).answer.number 0) → Deletes
      go true b m e t = absurd t
      go false true m e t = record { present = rw m tt; is = e }
      go false false m e t = absurd t

pub bad-refused : (S : Shares) (R : Room) → T (accepted S Bad R) → ⊥
unfolding outcome
bad-refused S R t = t

-- REFUSED: all as it was
pub refused-is : (S : Shares) (q : Request) (R : Room) → (outcome S q R).answer.number ≢ 0 → outcome S q R ≡ refused_by (outcome S q R).answer.number R
unfolding outcome insert_key delete_key
refused-is S (Insert y) R n = go (eqb y 0) (member y (keys R.segments)) (leb (capacity S) (length (keys R.segments))) n
  where
    go : (a b c : Bool) → (insert_by a b c S y R).answer.number ≢ 0 → insert_by a b c S y R ≡ refused_by (insert_by a b c S y R).answer.number R
    go true b c n = refl
    go false true c n = refl
    go false false true n = refl
    go false false false n = absurd (n (settled-number S _ _ _ _ _ _))
refused-is S (Delete y) R n = go (eqb y 0) (member y (keys R.segments)) n
  where
    go : (a b : Bool) → (delete_by a b S y R).answer.number ≢ 0 → delete_by a b S y R ≡ refused_by (delete_by a b S y R).answer.number R
    go true b n = refl
    go false false n = refl
    go false true n = absurd (n (settled-number S _ _ _ _ _ _))
refused-is S Bad R n = refl
