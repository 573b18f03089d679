-- `forecast::aim` meets its contract: a search for a marker ends in its segment.
use Prim.Native.Nat.{ℕ}
use mathlib.Core.Path.{◌≡◌, sym, ap, ◌∙◌}
use mathlib.Core.Logic.{inl, inr}
use native.Mathlib.Omega.{arith}
use Rattle.lists.proofs.Tests.{tested}
use Rattle.slots.specs.Segments.{Segments, keys}
use Rattle.slots.specs.Keys.{member, segment_of}
use Rattle.slots.specs.Shown.{seat}
use Rattle.slots.proofs.Keys.{mem→member, pred-mem}
use Rattle.slots.proofs.Seats.{seat-live, seat-free}
use Rattle.forecast.specs.Tidy.{Marker}
use Rattle.forecast.proofs.aim.Goals as goal

seat-marker : (ss : Segments) (k : ℕ) → Marker ss k → seat k ss ≡ segment_of ss k
seat-marker ss k (inl e) =
    elim (tested (member k (keys ss))) [
      | inl t ↦ seat-live k ss t
      | inr t ↦ seat-free k ss t ∙ elim (pred-mem k ss) [ inl z ↦ ap (segment_of ss) (z ∙ sym e) | inr q ↦ absurd (omega (arith, q.0)) ]
    ]
seat-marker ss k (inr m) = seat-live k ss (mem→member k (keys ss) m)

pub returns-then-contains : goal.returns-then-contains
returns-then-contains c ss ls few bs mk out = c.seat_of.ensures.place ss ls few bs ∙ seat-marker ss _ mk
