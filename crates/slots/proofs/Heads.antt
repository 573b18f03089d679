-- The first slots of the segments.
use mathlib.Core.Path.{◌≡◌, ap, ◌∙◌}
use mathlib.Core.List.{List}
use Prim.Native.Nat.{ℕ, ◌+◌, ◌*◌}
use native.Mathlib.Omega.{arith}
use Rattle.slots.specs.Segments.{Segments, render}
use Rattle.slots.specs.Shown.{Shows}
use Rattle.slots.specs.Orders.{slot_at}
use Rattle.slots.proofs.Render.{slot-render}
use Rattle.slots.proofs.Seats.{head}

-- a segment's first slot is its first key
pub head-slot : (list : List ℕ) (ss : Segments) → Shows ss list → (k : ℕ) → slot_at list (64 * k) ≡ head ss k
head-slot list ss sh k =
    let e : 64 * k ≡ 64 * k + 0 = omega arith in
    ap (λ (l : List ℕ). slot_at l (64 * k)) sh.whole ∙ ap (slot_at (render 0 ss)) e ∙ slot-render 0 ss sh.fits k 0 (omega arith)
