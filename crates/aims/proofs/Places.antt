-- A place that a search has found in a list that passes the check: its segment is one of the list, with the keys that the place tells.
use mathlib.Core.Path.{◌≡◌, sym, ap, ◌∙◌}
use mathlib.Core.List.{List, []}
use Prim.Native.Nat.{ℕ, ◌<◌}
use native.Mathlib.Omega.{arith}
use lib.ListN.{length, get_or}
use Rattle.slots.specs.declared.Place.{Place}
use Rattle.slots.specs.Segments.{segments_of}
use Rattle.slots.specs.Keys.{Rising, below}
use Rattle.slots.specs.Shown.{Located}
use Rattle.slots.proofs.Keys.{rising_part}
use Rattle.slots.proofs.Windows.{pow_pos}
use Rattle.slots.proofs.Seats.{seat-between}
use Rattle.forecast.specs.declared.Forecast.{Forecast}
use Rattle.shares.specs.declared.Shape.{Shape}
use Rattle.aims.specs.Aims.{Stands}
use Rattle.aims.proofs.Standing.{shows-stands, segments-stand}

pub some-segments : {slots : List ℕ} {F : Forecast} {k : Shape} {n : ℕ} → Stands slots F k n → 0 < length (segments_of slots)
some-segments {k = k} s = omega (arith, segments-stand s, pow_pos k.height)

module _ {slots : List ℕ} {F : Forecast} {k : Shape} {n : ℕ} (s : Stands slots F k n) {y : ℕ} {p : Place} (at : Located y (segments_of slots) p) where
  pub place_in : p.segment < length (segments_of slots)
  place_in = omega (arith, at.segment, (seat-between y (segments_of slots) (shows-stands s).listed (some-segments s)).0)

  pub place-held : p.held ≡ length (get_or (segments_of slots) p.segment [])
  place-held = at.held ∙ ap (λ (j : ℕ). length (get_or (segments_of slots) j [])) (sym at.segment)

  pub place_at : p.at ≡ length (below y (get_or (segments_of slots) p.segment []))
  place_at = at.at ∙ ap (λ (j : ℕ). length (below y (get_or (segments_of slots) j []))) (sym at.segment)

  pub place-rising : Rising (get_or (segments_of slots) p.segment [])
  place-rising = rising_part (segments_of slots) p.segment place_in (shows-stands s).listed.rising
