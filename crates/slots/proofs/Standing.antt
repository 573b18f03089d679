-- A key that stands in a slot of a segment is live, and the segment is its own.
use mathlib.Core.Path.{◌≡◌, sym, ◌∙◌, subst}
use mathlib.Core.Logic.{◌≢◌}
use mathlib.Core.List.{List, Memᴰ as Mem}
use Prim.Native.Nat.{ℕ, ◌/◌}
use native.Mathlib.Omega.{arith}
use lib.Dec.{T}
use Rattle.slots.specs.Segments.{Segments, keys, render}
use Rattle.slots.specs.Keys.{member, segment_of}
use Rattle.slots.specs.Orders.{slot_at}
use Rattle.slots.specs.Shown.{Shows}
use Rattle.slots.specs.Stretches.{Stands}
use Rattle.slots.proofs.Keys.{mem→member}
use Rattle.slots.proofs.Marks.{present, segment-at}
use Rattle.slots.proofs.Render.{length-render, live-render, segments-render, ordered-render}

module _ (ss : Segments) (slots : List ℕ) (sh : Shows ss slots) (s y : ℕ) (n : y ≢ 0) (st : Stands slots s y) where
  -- the same of the slots of the segments
  stands : Stands (render 0 ss) s y
  stands = subst (λ (l : List ℕ). Stands l s y) sh.whole st

  pub stands_live : T (member y (keys ss))
  stands_live = mem→member y (keys ss) (subst (Mem y) (live-render ss sh.listed.live) ((present (render 0 ss) y n).0 (stands.at, stands.inside, stands.there)))

  pub stands-home : segment_of ss y ≡ s
  stands-home =
      let e : stands.at / 64 ≡ s = omega (arith, stands.from, stands.to) in
      let h : slot_at (render 0 ss) stands.at ≢ 0 = λ z. n (sym stands.there ∙ z) in
      let at = segment-at (render 0 ss) _ (length-render 0 ss sh.fits) (ordered-render ss sh.listed) stands.at stands.inside h in
      rw (segments-render ss sh.fits sh.listed.live, stands.there) at at ∙ e
