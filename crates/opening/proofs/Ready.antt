-- What a check that accepts makes ready for work: list and forecast stand, each card is beside its key, and the table and the bounds are
-- those of the segments.
use Rattle.std.proofs.Common.{Ok}
use mathlib.Core.Path.{◌≡◌, sym, ap, ◌∙◌, subst}
use mathlib.Core.List.{List}
use Prim.Native.Nat.{ℕ}
use lib.ListN.{length}
use Rattle.slots.specs.Segments.{Segments, height_of, segments_of}
use Rattle.slots.specs.Shown.{Shows}
use Rattle.seats.specs.Bounds.{bounds_of, Indexed}
use Rattle.seats.proofs.Indexes.{indexed-start}
use Rattle.forecast.specs.declared.Forecast.{Forecast}
use Rattle.rules.specs.Profiles.{number_of}
use Rattle.rules.specs.Cards.{cards_beside}
use Rattle.rules.specs.Lent.{Lent, cards_of}
use Rattle.rules.specs.Checks.{check_both, check}
use Rattle.demands.proofs.Requests.Checked.{checked}
use Rattle.demands.proofs.Requests.Tabled.{check-passed, room-passes}
use Rattle.checks.specs.declared.Listing.{Listing}
use Rattle.checks.specs.Listings.{LentLooked}
use Rattle.aims.specs.Aims.{Stands}
use Rattle.steps.specs.declared.Worked.{Worked}
use Rattle.steps.specs.Works.{Ends}
use Rattle.aims.proofs.Standing.{shows-stands}

module _ (profile : ℕ) (L : Lent) (F : Forecast) (r : Listing) (look : LentLooked profile L F (Ok r)) where
  pub ready-passes : check profile L F ≡ 0
  ready-passes = sym look.0

  pub ready-stands : Stands L.slots F r.shape r.keys
  ready-stands = record {
    passes = ap (λ (n : ℕ). check_both n L.slots F) look.1.named ∙ room-passes profile L F ready-passes;
    height = sym look.1.height;
    shape = look.1.shape;
    many = sym look.1.keys;
  }

  -- what the records come to in the profile of the shape, they come to in the one that is named
  pub ready-ends : {bytes : List ℕ} {allowance : ℕ} {w : Worked} {left : Lent} → Ends (number_of r.shape.profile) L.slots (cards_of L) F bytes allowance w left
      → Ends profile L.slots (cards_of L) F bytes allowance w left
  ready-ends {bytes = bytes} {allowance = allowance} {w = w} {left = left} =
      subst (λ (n : ℕ). Ends n L.slots (cards_of L) F bytes allowance w left) look.1.named

  -- with what `bound` leaves
  pub ready-index : (bounds : List ℕ) → ((ss : Segments) → Shows ss L.slots → bounds ≡ bounds_of ss) → Indexed (segments_of L.slots) L.slots bounds L.table
  ready-index bounds b =
      let sh = shows-stands ready-stands in
      let c = checked profile L.slots F (room-passes profile L F ready-passes) in
      indexed-start (segments_of L.slots) L.slots bounds L.table (height_of (length L.slots)) c.1 sh c.2.proper.size (b (segments_of L.slots) sh)
      (check-passed profile L F ready-passes).2

  -- each card beside its key
  pub ready-cards : L.cards ≡ cards_beside (cards_of L) L.slots
  ready-cards = (check-passed profile L F ready-passes).1
