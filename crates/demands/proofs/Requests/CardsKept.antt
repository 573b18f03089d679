-- The cards of keys through a request: cards that agree on the keys before it agree on the keys that it leaves, and stand the same beside them.
use mathlib.Core.Path.{◌≡◌, refl, ap, subst, ◌∙◌}
use mathlib.Core.Bool.{Bool, true, false, not}
use mathlib.Core.Logic.{◌⊎◌, inl, inr, ◌≢◌}
use mathlib.Core.List.{Memᴰ as Mem}
use Prim.Native.Nat.{ℕ}
use native.Mathlib.Omega.{arith}
use lib.Dec.{T, eqb}
use Rattle.std.proofs.Common.{if◌then◌else◌}
use Rattle.lists.specs.Lists.{All}
use Rattle.lists.proofs.Tests.{neqb→ne}
use Rattle.slots.specs.Segments.{Segments, keys, render}
use Rattle.slots.proofs.Windows.{pow_pos}
use Rattle.slots.specs.Keys.{put, cut}
use Rattle.slots.proofs.Rising.{put-mem, cut-mem}
use Rattle.slots.proofs.Keys.{member→mem, not-member}
use Rattle.rules.specs.declared.Request.{Request}
use Rattle.rules.specs.declared.Request.TheVariants.{Insert, Delete, Bad}
use Rattle.rules.specs.Shares.{Shares}
use Rattle.rules.specs.Placing.{Room, Outcome, outcome}
use Rattle.rules.specs.Cards.{card_in, cards_beside, carded, cards_after}
use Rattle.rules.specs.Readings.{Proper}
use Rattle.demands.specs.History.{accepted}
use Rattle.demands.proofs.Cards.Beside.{beside-keys, carded-other, in-carded}
use Rattle.demands.proofs.Requests.Accepted.{insert-accepted, delete-accepted, bad-refused, refused-is}
use Rattle.demands.proofs.Requests.Moved.{keys-insert, keys-delete}

-- the same cards for these keys
abbrev pub Agree : (ℕ → ℕ) → (ℕ → ℕ) → Segments → Type 0
Agree c d ss = All (λ k. c k ≡ d k) (keys ss)

module _ (S : Shares) (R : Room) (K : Proper S R.segments) where
  -- a key that an insert or a delete leaves was there, or is the one put in
  insert-left : (y : ℕ) → T (accepted S (Insert y) R) → (k : ℕ) → Mem k (keys (outcome S (Insert y) R).room.segments) → (k ≡ y) ⊎ Mem k (keys R.segments)
  insert-left y t k m = put-mem y (keys R.segments) k (subst (Mem k) is m)
    where
      is : keys (outcome S (Insert y) R).room.segments ≡ put y (keys R.segments)
      is =
          ap (λ (o : Outcome). keys o.room.segments) (insert-accepted S y R t).is
          ∙ keys-insert S y R K.listed (omega (arith, K.size, pow_pos S.height)) (insert-accepted S y R t).fresh

  delete-left : (y : ℕ) → T (accepted S (Delete y) R) → (k : ℕ) → Mem k (keys (outcome S (Delete y) R).room.segments) → Mem k (keys R.segments)
  delete-left y t k m = cut-mem y (keys R.segments) k (subst (Mem k) is m)
    where
      is : keys (outcome S (Delete y) R).room.segments ≡ cut y (keys R.segments)
      is =
          ap (λ (o : Outcome). keys o.room.segments) (delete-accepted S y R t).is
          ∙ keys-delete S y R K.listed (member→mem y (keys R.segments) (delete-accepted S y R t).present)

  module _ (v : ℕ) (c d : ℕ → ℕ) (h : Agree c d R.segments) where
    -- accepted
    pub agree-carded : (q : Request) → T (accepted S q R) → Agree (carded q v c) (carded q v d) (outcome S q R).room.segments
    agree-carded (Insert y) t k m = go (eqb k y) (neqb→ne k y) (insert-left y t k m)
      where
        go : (b : Bool) → (T (not b) → k ≢ y) → (k ≡ y) ⊎ Mem k (keys R.segments) → (if b then v else c k) ≡ (if b then v else d k)
        go true p n = refl
        go false p (inl e) = absurd (p tt e)
        go false p (inr n) = h k n
    agree-carded (Delete y) t k m = h k (delete-left y t k m)
    agree-carded Bad t k m = absurd (bad-refused S R t)

    -- accepted or refused
    pub agree_after : (q : Request) → Agree (cards_after (outcome S q R) q v c) (cards_after (outcome S q R) q v d) (outcome S q R).room.segments
    agree_after q = go (accepted S q R) refl
      where
        go : (b : Bool) → accepted S q R ≡ b → Agree (if b then carded q v c else c) (if b then carded q v d else d) (outcome S q R).room.segments
        go true e = agree-carded q (rw e tt)
        go false e = rw (ap (λ (o : Outcome). o.room) (refused-is S q R (neqb→ne (outcome S q R).answer.number 0 (rw e tt)))) h

-- BEFORE IT: a key put in was not there, so the cards after a request stand beside the list before it as those before it did
module _ (S : Shares) (R : Room) (v : ℕ) (c : ℕ → ℕ) where
  carded-before : (q : Request) → T (accepted S q R) → Agree (carded q v c) c R.segments
  carded-before (Insert y) t k m = carded-other y v c k (not-member y (keys R.segments) (insert-accepted S y R t).fresh k m)
  carded-before (Delete y) t k m = refl
  carded-before Bad t k m = refl

  pub agree-before : (q : Request) → Agree (cards_after (outcome S q R) q v c) c R.segments
  agree-before q = go (accepted S q R) refl
    where
      go : (b : Bool) → accepted S q R ≡ b → Agree (if b then carded q v c else c) c R.segments
      go true e = carded-before q (rw e tt)
      go false e = λ k m. refl

  pub beside-before : (q : Request) → Proper S R.segments → cards_beside (cards_after (outcome S q R) q v c) (render 0 R.segments) ≡ cards_beside c (render 0 R.segments)
  beside-before q K = beside-keys _ c R.segments K.listed.live (agree-before q)

  -- beside the key put in stands its card
  pub in_after : (y : ℕ) → T (accepted S (Insert y) R) → card_in (cards_after (outcome S (Insert y) R) (Insert y) v c) y ≡ v
  in_after y t = go (accepted S (Insert y) R) t
    where
      go : (b : Bool) → T b → card_in (if b then carded (Insert y) v c else c) y ≡ v
      go true u = in-carded y v c (λ e. omega (arith, e, (insert-accepted S y R t).key))
      go false u = absurd u
