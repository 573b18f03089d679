-- What is known of a list, cards and a table that pass, whatever the profile: their index, what a search by it finds, and which cards stand there.
use mathlib.Core.Path.{◌≡◌, refl, sym, ap, ◌∙◌}
use mathlib.Core.Logic.{◌≢◌}
use mathlib.Core.List.{map}
use Prim.Native.Nat.{ℕ, ◌+◌, ◌*◌, ◌/◌, ◌^◌, ◌≤◌, ◌<◌}
use native.Mathlib.Omega.{arith}
use lib.Dec.{eqb}
use lib.ListN.{length, get_or, length-map}
use Rattle.slots.specs.Segments.{Segments, keys, height_of, segments_of}
use Rattle.slots.specs.Keys.{member}
use Rattle.slots.specs.Orders.{slot_at}
use Rattle.slots.specs.Shown.{Shows, seat}
use Rattle.slots.proofs.Orders.{in_list}
use Rattle.slots.proofs.Render.{length-segments}
use Rattle.levels.specs.Tables.{table_of}
use Rattle.seats.specs.Bounds.{top, bounds_of, Indexed}
use Rattle.seats.specs.Halves.{halved}
use Rattle.seats.proofs.Indexes.{indexed-start, slots-long, table-length}
use Rattle.seeking.specs.Spots.{key_up_to}
use Rattle.seeking.proofs.Spots.{spot_is}
use Rattle.rules.specs.Cards.{card_in}
use Rattle.rules.specs.Lent.{Lent, cards_of}
use Rattle.rules.specs.Checks.{check_read}
use Rattle.demands.proofs.Cards.Beside.{beside-map}
use Rattle.demands.proofs.Cards.Own.{card-at}
use Rattle.demands.proofs.Requests.Checked.{Passed, passed}
use Rattle.demands.proofs.Requests.Shown.{shows-passed}
use Rattle.demands.proofs.Requests.Tabled.{read-passed}

module _ (profile : ℕ) (L : Lent) (e : check_read profile L ≡ 0) where
  abbrev ss : Segments
  ss = segments_of L.slots

  known : Passed profile L.slots
  known = passed profile L.slots (read-passed profile L e).0

  -- with the bounds that a run would keep
  pub indexed : Indexed (segments_of L.slots) L.slots (bounds_of (segments_of L.slots)) L.table
  indexed =
      let h : ℕ = height_of (length L.slots) in
      indexed-start ss L.slots (bounds_of ss) L.table h known.to (shows-passed profile L.slots (read-passed profile L e).0)
      (length-segments L.slots (2 ^ h) known.number) refl (read-passed profile L e).2

  -- THE SEGMENT, by the table: what the search asks, and what it tells
  pub can-seek : (length L.table + 1 ≡ 2 * (length L.slots / 64)) × (length L.slots ≡ 64 * (length L.slots / 64))
  can-seek = (omega (arith, table-length indexed, slots-long indexed), omega (arith, slots-long indexed))

  pub sought : (y r : ℕ) → ((h : ℕ) (gs : Segments) → length L.slots / 64 ≡ 2 ^ h → Shows gs L.slots → L.table ≡ table_of h gs → r ≡ seat y gs) → r ≡ seat y (segments_of L.slots)
  sought y r tells = tells indexed.height ss (omega (arith, slots-long indexed, indexed.size)) indexed.shows indexed.right

  -- THE PLACE in it holds the key where it is live
  pub found-live : (y s q : ℕ) → y ≤ top → 0 < y → s ≡ seat y (segments_of L.slots) → q ≡ halved (key_up_to L.slots y) (64 * s)
      → eqb (slot_at L.slots q) y ≡ member y (keys (segments_of L.slots))
  found-live y s q fits h se qe =
      (spot_is y ss L.slots (bounds_of ss) L.table indexed fits s (get_or L.table s 0) q se refl qe _ _ h refl refl).place.present

  -- THE CARDS: one beside each slot, and beside a key its card
  pub cards-beside : L.cards ≡ map (card_in (cards_of L)) L.slots
  cards-beside = (read-passed profile L e).1 ∙ beside-map (cards_of L) L.slots

  pub cards-long : length L.cards ≡ length L.slots
  cards-long = ap length cards-beside ∙ length-map L.slots (card_in (cards_of L))

  pub card-there : (y q : ℕ) → 0 < y → slot_at L.slots q ≡ y → get_or L.cards q 0 ≡ cards_of L y
  card-there y q h k =
      let n : slot_at L.slots q ≢ 0 = λ z. omega arith in
      sym (card-at L.slots L.cards known.ordered q (in_list L.slots q n) n) ∙ ap (cards_of L) k
