-- A good list with its forecast, and that every request leaves it good.
use mathlib.Core.Path.{◌≡◌, refl, ap}
use mathlib.Core.Bool.{Bool, true, false}
use mathlib.Core.Logic.{inl, inr, ◌≢◌}
use mathlib.Core.List.{List, Memᴰ as Mem}
use Prim.Native.Nat.{ℕ, ◌≤◌}
use native.Mathlib.Omega.{arith}
use lib.Dec.{T}
use lib.ListN.{length}
use Rattle.lists.specs.Lists.{All}
use Rattle.lists.proofs.Tests.{neqb→ne}
use Rattle.slots.specs.Segments.{Segments, keys}
use Rattle.slots.specs.Keys.{predecessor, segment_of}
use Rattle.slots.proofs.Windows.{pow_pos}
use Rattle.slots.proofs.Rising.{mem-put, mem-cut}
use Rattle.slots.proofs.Keys.{pred-mem, member→mem}
use Rattle.cells.specs.declared.Cell.{Cell}
use Rattle.cells.specs.Steps.{noted, dropped}
use Rattle.cells.proofs.Ruled.{Ruled, Placed, wider}
use Rattle.cells.proofs.Kept.{noted-ruled, dropped-ruled, retargeted-ruled}
use Rattle.forecast.specs.Tidy.{Marker}
use Rattle.rules.specs.declared.Request.{Request}
use Rattle.rules.specs.declared.Request.TheVariants.{Insert, Delete, Bad}
use Rattle.rules.specs.Shares.{Shares, Lawful, capacity, cells_of}
use Rattle.rules.specs.Placing.{Room, Outcome, home, insert_key, delete_key, outcome}
use Rattle.rules.specs.Readings.{Proper}
use Rattle.demands.specs.History.{accepted}
use Rattle.demands.proofs.Requests.Accepted.{Inserts, insert-accepted, Deletes, delete-accepted, bad-refused, refused-is}
use Rattle.demands.proofs.Requests.Moved.{moved, keys-insert, keys-delete}
use Rattle.demands.proofs.Sweeping.Sizes.{sizes_kept}
use Rattle.demands.proofs.Requests.KeysKept.{cells-insert, cells-delete}

pub record Good (S : Shares) (R : Room) : Type 0 where
  pub proper : Proper S R.segments
  pub sizes : All (λ x. length x ≤ 64) R.segments
  pub room : length (keys R.segments) ≤ capacity S
  pub ruled : Ruled (cells_of S) (Marker R.segments) R.cells
  pub placed : Placed (segment_of R.segments) R.cells

-- the forecast after a request: the rule is kept, for the markers of the list then
abbrev Kept : Shares → Room → Type 0
Kept S R = Ruled (cells_of S) (Marker R.segments) R.cells × Placed (segment_of R.segments) R.cells

module _ (S : Shares) (y : ℕ) (R : Room) (P : Proper S R.segments) (C : Ruled (cells_of S) (Marker R.segments) R.cells) where
  kept-insert : Inserts S y R → Kept S (insert_key S y R).room
  kept-insert a =
      rw (cells-insert S y R)
      (retargeted-ruled (segment_of ss) (cells_of S) (Marker ss) cs
      (noted-ruled (cells_of S) (Marker ss) (predecessor y R.segments) (home y R.segments) R.cells
      (wider (cells_of S) (Marker R.segments) (Marker ss) R.cells C still) marker (omega arith)))
    where
      ss : Segments
      ss = (insert_key S y R).room.segments

      cs : List Cell
      cs = noted (cells_of S) (predecessor y R.segments) (home y R.segments) R.cells

      there : (k : ℕ) → Mem k (keys R.segments) → Mem k (keys (insert_key S y R).room.segments)
      there k m = rw (keys-insert S y R P.listed (omega (arith, P.size, pow_pos S.height)) a.fresh) (mem-put y (keys R.segments) k m)

      still : (k : ℕ) → Marker R.segments k → Marker (insert_key S y R).room.segments k
      still k (inl e) = inl e
      still k (inr m) = inr (there k m)

      marker : Marker (insert_key S y R).room.segments (predecessor y R.segments)
      marker = elim (pred-mem y R.segments) [ inl e ↦ inl e | inr q ↦ inr (there _ q.1) ]

  kept-delete : Deletes S y R → Kept S (delete_key S y R).room
  kept-delete a =
      rw (cells-delete S y R)
      (retargeted-ruled (segment_of ss) (cells_of S) (Marker ss) (dropped y R.cells)
      (dropped-ruled (cells_of S) (Marker R.segments) (Marker ss) y R.cells C still))
    where
      ss : Segments
      ss = (delete_key S y R).room.segments

      still : (k : ℕ) → Marker R.segments k → k ≢ y → Marker (delete_key S y R).room.segments k
      still k (inl e) n = inl e
      still k (inr m) n =
          inr (rw (keys-delete S y R P.listed (member→mem y (keys R.segments) a.present)) (mem-cut y (keys R.segments) k m n))

kept-accepted : (S : Shares) (q : Request) (R : Room) → Proper S R.segments → Ruled (cells_of S) (Marker R.segments) R.cells → T (accepted S q R)
    → Kept S (outcome S q R).room
kept-accepted S (Insert y) R P C t = rw (insert-accepted S y R t).is (kept-insert S y R P C (insert-accepted S y R t))
kept-accepted S (Delete y) R P C t = rw (delete-accepted S y R t).is (kept-delete S y R P C (delete-accepted S y R t))
kept-accepted S Bad R P C t = absurd (bad-refused S R t)

good-accepted : (S : Shares) → Lawful S → (q : Request) (R : Room) → Good S R → T (accepted S q R) → Good S (outcome S q R).room
good-accepted S L q R G t = record {
  proper = (moved S q R G.proper t).1;
  sizes = z.0;
  room = z.1;
  ruled = c.0;
  placed = c.1;
}
  where
    z : All (λ x. length x ≤ 64) (outcome S q R).room.segments × (length (keys (outcome S q R).room.segments) ≤ capacity S)
    z = sizes_kept S L q R G.proper t 64 L.fits G.sizes G.room

    c : Kept S (outcome S q R).room
    c = kept-accepted S q R G.proper G.ruled t

-- A request leaves a good list good, refused or not.
pub good-next : (S : Shares) → Lawful S → (q : Request) (R : Room) → Good S R → Good S (outcome S q R).room
good-next S L q R G = go (accepted S q R) refl
  where
    go : (b : Bool) → accepted S q R ≡ b → Good S (outcome S q R).room
    go true e = good-accepted S L q R G (rw e tt)
    go false e = rw (ap (λ (o : Outcome). o.room) (refused-is S q R (neqb→ne (outcome S q R).answer.number 0 (rw e tt)))) G
