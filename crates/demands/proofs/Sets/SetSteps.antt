-- One request on a list that has passed its check, beside the plain set of its keys: the number, sparse, and the keys then.
use mathlib.Core.Path.{◌≡◌, refl, ap, ◌∙◌}
use mathlib.Core.Bool.{Bool, true, false, not, ◌&&◌}
use mathlib.Core.List.{List, Memᴰ as Mem}
use Prim.Native.Nat.{ℕ}
use lib.Dec.{T, leb, ltb, eqb}
use lib.ListN.{length}
use Rattle.std.proofs.Common.{if◌then◌else◌}
use Rattle.slots.specs.Segments.{keys}
use Rattle.slots.specs.Keys.{Listed, member, segment_of}
use Rattle.slots.proofs.Keys.{member→mem, live-between, keys-cut}
use Rattle.rules.specs.declared.Request.TheVariants.{Insert, Delete}
use Rattle.rules.specs.Shares.{Shares, capacity, sparse_below}
use Rattle.rules.specs.Placing.{Room, refused_by, cut_from, insert_key, delete_key, outcome}
use Rattle.demands.specs.PlainSet as set
use Rattle.demands.proofs.Requests.Accepted.{settled-number, settled-sparse}
use Rattle.demands.proofs.Sets.SetLaws.{has-member, cut-remove}

module _ (S : Shares) (y : ℕ) (R : Room) where
  pub insert-number : (outcome S (Insert y) R).answer.number ≡ set.insert_number (capacity S) y (keys R.segments)
  unfolding outcome insert_key
  insert-number =
      rw (has-member y (keys R.segments)) (go (eqb y 0) (member y (keys R.segments)) (leb (capacity S) (length (keys R.segments))))
    where
      go : (a b c : Bool) → (if a then refused_by 5 R else if b then refused_by 6 R else if c then refused_by 8 R else insert_key S y R).answer.number
          ≡ (if a then 5 else if b then 6 else if c then 8 else 0)
      go true b c = refl
      go false true c = refl
      go false false true = refl
      go false false false = settled-number S _ _ _ _ _ _

  pub delete-number : (outcome S (Delete y) R).answer.number ≡ set.delete_number y (keys R.segments)
  unfolding outcome delete_key
  delete-number = rw (has-member y (keys R.segments)) (go (eqb y 0) (member y (keys R.segments)))
    where
      go : (a b : Bool) → (if a then refused_by 5 R else if not b then refused_by 7 R else delete_key S y R).answer.number ≡ (if a then 5 else if b then 0 else 7)
      go true b = refl
      go false true = settled-number S _ _ _ _ _ _
      go false false = refl

  keys-then : Listed R.segments → T (member y (keys R.segments)) → keys (cut_from y R.segments) ≡ set.remove y (keys R.segments)
  keys-then g t =
      keys-cut y R.segments (segment_of R.segments y) (live-between y R.segments g m)
      ∙ cut-remove y (keys R.segments) g.rising
    where
      m : Mem y (keys R.segments)
      m = member→mem y (keys R.segments) t

  pub delete-sparse : Listed R.segments
      → (outcome S (Delete y) R).answer.sparse ≡ eqb (set.delete_number y (keys R.segments)) 0 && ltb (length (set.remove y (keys R.segments))) (sparse_below S)
  unfolding outcome delete_key
  delete-sparse g = rw (has-member y (keys R.segments)) (go (eqb y 0) (member y (keys R.segments)) (keys-then g))
    where
      go : (a b : Bool) → (T b → keys (cut_from y R.segments) ≡ set.remove y (keys R.segments))
          → (if a then refused_by 5 R else if not b then refused_by 7 R else delete_key S y R).answer.sparse
          ≡ eqb (if a then 5 else if b then 0 else 7) 0 && ltb (length (set.remove y (keys R.segments))) (sparse_below S)
      go true b e = refl
      go false false e = refl
      go false true e = settled-sparse S _ _ _ _ _ _ ∙ ap (λ (ks : List ℕ). ltb (length ks) (sparse_below S)) (e tt)
