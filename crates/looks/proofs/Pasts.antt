-- How many keys of the segment where a search ends are not above the key, by the last slot there that holds a key up to it.
use mathlib.Core.Path.{◌≡◌, refl}
use mathlib.Core.Bool.{true, false}
use mathlib.Core.Logic.{◌≢◌}
use mathlib.Core.List.{List}
use Prim.Native.Nat.{ℕ, ◌+◌, ◌-◌, ◌*◌, ◌≤◌, ◌<◌}
use native.Mathlib.Nat.{ne_of_lt}
use native.Mathlib.Decide.{dec_lt}
use native.Mathlib.Omega.{arith}
use borrow.Author.Tests.{eq-eqb, ne_eqb}
use lib.ListN.{get_or}
use Rattle.slots.specs.declared.Place.{Place}
use Rattle.slots.specs.Segments.{Segments}
use Rattle.slots.specs.Orders.{slot_at}
use Rattle.slots.specs.Shown.{seat}
use Rattle.seats.specs.Bounds.{top, Indexed}
use Rattle.seats.specs.Halves.{halved}
use Rattle.seats.proofs.Indexes.{some-segments}
use Rattle.seeking.specs.Spots.{less_one, key_up_to, Spotted}
use Rattle.seeking.proofs.Spots.{spot-front, spot-live, spot_past}
use Rattle.looks.specs.Past.{Past}
use Rattle.looks.proofs.KeysAbove.{held-there, above-absent, above-present, at-present}

module _
    (y : ℕ) (ss : Segments) (list bounds table : List ℕ) (ix : Indexed ss list bounds table) (fits : y ≤ top) (s q : ℕ) (se : s ≡ seat y ss)
    (qe : q ≡ halved (key_up_to list y) (64 * s))
  where
    abbrev held : ℕ
    held = get_or table s 0

    -- y is not live: from its place on
    past-absent : (at : ℕ) (x : ℕ) → Spotted y ss list (record { place = record { segment = s; held = held; at = at; present = false }; before = x }) → Past y ss s at
    past-absent at x w =
        let r : Place = record { segment = s; held = held; at = at; present = false } in
        record {
          few = omega (arith, w.order, held-there y ss ix.shows.listed (some-segments ix) r w.place);
          rest = above-absent y ss ix.shows.listed (some-segments ix) r w.place refl;
        }

    -- the slot is a gap
    pub past-gap : slot_at list q ≡ 0 → Past y ss s 0
    past-gap e = past-absent 0 0 (spot-front y ss list bounds table ix fits s held q se refl qe (rw (eq-eqb (slot_at list q) 0 e) fits))

    -- it holds a key above y
    pub past-none : y < slot_at list q → Past y ss s 0
    past-none h =
        past-absent 0 0 (spot-front y ss list bounds table ix fits s held q se refl qe (rw (ne_eqb (slot_at list q) 0 (λ e. absurd (omega arith))) (omega arith)))

    -- it holds y, or the key before
    pub past-some : slot_at list q ≢ 0 → slot_at list q ≤ y → Past y ss s (q - 64 * s + 1)
    past-some n h =
        elim (dec_lt (slot_at list q) y) [
          | yes l ↦ past-absent (q - 64 * s + 1) (slot_at list q) (spot_past y ss list bounds table ix fits s held q se refl qe low (ne_of_lt l))
          | no l ↦ live (spot-live y ss list bounds table ix fits s held q se refl qe low (omega arith))
        ]
      where
        low : less_one (slot_at list q) < y
        low = rw (ne_eqb (slot_at list q) 0 n) (omega arith)

        live : Spotted y ss list (record { place = record { segment = s; held = held; at = q - 64 * s; present = true }; before = slot_at list q }) → Past y ss s (q - 64 * s + 1)
        live w =
            let r : Place = record { segment = s; held = held; at = q - 64 * s; present = true } in
            record {
              few = omega (arith, at-present y ss ix.shows.listed (some-segments ix) r w.place refl, held-there y ss ix.shows.listed (some-segments ix) r w.place);
              rest = above-present y ss ix.shows.listed (some-segments ix) r w.place refl;
            }
