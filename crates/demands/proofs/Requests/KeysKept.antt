-- An accepted request keeps the keys, in order, and every cell then names its marker's segment.
use mathlib.Core.Path.{◌≡◌, refl, ◌∙◌}
use mathlib.Core.Bool.{Bool}
use mathlib.Core.Option.{Option, none, some}
use mathlib.Core.List.{List}
use Prim.Native.Nat.{ℕ}
use native.Mathlib.Omega.{arith}
use Rattle.lists.specs.Lists.{All}
use Rattle.lists.proofs.Tests.{eq→eqb}
use Rattle.lists.proofs.Members.{map-all}
use Rattle.slots.specs.Segments.{Segments, keys}
use Rattle.slots.specs.Keys.{segment_of}
use Rattle.slots.proofs.Windows.{pow_pos}
use Rattle.slots.proofs.Keys.{member→mem}
use Rattle.cells.specs.declared.Cell.{Cell}
use Rattle.cells.specs.Steps.{aimed, retargeted, noted, dropped}
use Rattle.rules.specs.declared.Request.TheVariants.{Insert, Delete, Bad}
use Rattle.rules.specs.Shares.{Shares, cells_of}
use Rattle.slots.specs.Keys.{predecessor}
use Rattle.rules.specs.Placing.{Room, home, settled, insert_key, delete_key, outcome}
use Rattle.rules.specs.Readings.{CellsAim}
use Rattle.demands.specs.Demand3.{KeysKept}
use Rattle.demands.proofs.Requests.Accepted.{insert-accepted, delete-accepted, bad-refused}
use Rattle.demands.proofs.Requests.Moved.{keys-insert, keys-delete}
use Rattle.demands.proofs.Sets.SetLaws.{put-add, cut-remove}

-- KEYS
pub keys_kept : KeysKept
keys_kept S (Insert y) R K t =
    rw (insert-accepted S y R t).is
    (keys-insert S y R K.listed (omega (arith, K.size, pow_pos S.height)) (insert-accepted S y R t).fresh
    ∙ put-add y (keys R.segments) K.listed.rising (insert-accepted S y R t).fresh)
keys_kept S (Delete y) R K t =
    rw (delete-accepted S y R t).is
    (keys-delete S y R K.listed (member→mem y (keys R.segments) (delete-accepted S y R t).present)
    ∙ cut-remove y (keys R.segments) K.listed.rising)
keys_kept S Bad R K t = absurd (bad-refused S R t)

-- CELLS of what is settled are retargeted to it
pub settled-cells : (S : Shares) (s : ℕ) (cs : List Cell) (ss : Segments) (n : ℕ) (b : Bool) (r : Option ℕ)
    → (settled S s cs ss n b r).room.cells ≡ retargeted (segment_of (settled S s cs ss n b r).room.segments) cs
unfolding settled
settled-cells S s cs ss n b none = refl
settled-cells S s cs ss n b (some l) = refl

pub cells-insert : (S : Shares) (y : ℕ) (R : Room)
    → (insert_key S y R).room.cells ≡ retargeted (segment_of (insert_key S y R).room.segments) (noted (cells_of S) (predecessor y R.segments) (home y R.segments) R.cells)
unfolding insert_key
cells-insert S y R = settled-cells S _ _ _ _ _ _

pub cells-delete : (S : Shares) (y : ℕ) (R : Room) → (delete_key S y R).room.cells ≡ retargeted (segment_of (delete_key S y R).room.segments) (dropped y R.cells)
unfolding delete_key
cells-delete S y R = settled-cells S _ _ _ _ _ _

aims : (place : ℕ → ℕ) (cs : List Cell) → All (λ c. c.segment ≡ place c.marker) (retargeted place cs)
unfolding retargeted
aims place cs = map-all (λ c. c.segment ≡ place c.marker) (aimed place) cs (λ c m. refl)

pub cells_aim : CellsAim
cells_aim S (Insert y) R e =
    rw (insert-accepted S y R (eq→eqb (outcome S (Insert y) R).answer.number 0 e)).is (rw (cells-insert S y R) (aims (segment_of (insert_key S y R).room.segments) _))
cells_aim S (Delete y) R e =
    rw (delete-accepted S y R (eq→eqb (outcome S (Delete y) R).answer.number 0 e)).is (rw (cells-delete S y R) (aims (segment_of (delete_key S y R).room.segments) _))
cells_aim S Bad R e = absurd (bad-refused S R (eq→eqb (outcome S Bad R).answer.number 0 e))
