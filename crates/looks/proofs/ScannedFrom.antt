-- A scan of a list that passes, from the search for its key on: where the keys above begin, and what writing them asks and gives.
use mathlib.Core.Path.{◌≡◌}
use mathlib.Core.List.{List, map}
use Prim.Native.Nat.{ℕ, ◌+◌, ◌*◌, ◌/◌, ◌^◌, ◌≤◌, ◌<◌}
use native.Mathlib.Omega.{arith}
use lib.ListN.{length, take, get_or}
use Rattle.std.specs.Prelude.{Ok}
use Rattle.slots.specs.Segments.{Segments, segments_of}
use Rattle.slots.specs.Shown.{Shows, CountsOf, seat}
use Rattle.levels.specs.Tables.{table_of}
use Rattle.seats.specs.Bounds.{bounds_of, Indexed}
use Rattle.seats.proofs.Indexes.{slots-long, table-holds, counts-held, count_small}
use Rattle.rules.specs.Cards.{card_in}
use Rattle.rules.specs.Lent.{Lent, cards_of}
use Rattle.rules.specs.Checks.{check_read}
use Rattle.scans.specs.declared.Written.{Written}
use Rattle.scans.specs.Scans.{Wrote, keys_from, shorter, cards_over}
use Rattle.answers.specs.Admits.{ScanAdmits}
use Rattle.looks.specs.Past.{Past}
use Rattle.looks.proofs.KeysAbove.{wrote-admits}
use Rattle.looks.proofs.Passed.{indexed, sought, cards-beside}

module _ (profile : ℕ) (L : Lent) (e : check_read profile L ≡ 0) where
  abbrev ss : Segments
  ss = segments_of L.slots

  abbrev ix : Indexed ss L.slots (bounds_of ss) L.table
  ix = indexed profile L e

  -- segment `first`, after `at` of its keys: by what the search tells, and what is told of the keys there
  pub begins : (from first at : ℕ) → ((h : ℕ) (gs : Segments) → length L.slots / 64 ≡ 2 ^ h → Shows gs L.slots → L.table ≡ table_of h gs → first ≡ seat from gs)
      → ((gs : Segments) (bounds table : List ℕ) → Indexed gs L.slots bounds table → first ≡ seat from gs → Past from gs first at) → Past from (segments_of L.slots) first at
  begins from first at seeks counts = counts ss (bounds_of ss) L.table ix (sought profile L e from first seeks)

  module _ (from first at : ℕ) (begun : Past from (segments_of L.slots) first at) where
    pub can-write : first < length L.slots / 64
        → (64 * first + 64 ≤ length L.slots) × (length L.slots / 64 ≤ length L.table) × (at ≤ get_or L.table first 0) × ((k : ℕ) → k < length L.slots / 64 → get_or L.table k 0 ≤ 64)
    can-write f = (
      omega (arith, slots-long ix),
      omega (arith, table-holds ix, slots-long ix),
      omega (arith, begun.few, counts-held ix first (omega (arith, slots-long ix))),
      λ k h. count_small ix k (omega (arith, slots-long ix)),
    )

    pub writes : (out cards : List ℕ) (d : Written) (left left-cards : List ℕ)
        → ((gs : Segments) → Shows gs L.slots → CountsOf gs L.table → Wrote (shorter (length out) (length cards)) (keys_from first at gs) out d left)
        → ((f : ℕ → ℕ) (gs : Segments) → Shows gs L.slots → CountsOf gs L.table → L.cards ≡ map f L.slots → left-cards ≡ cards_over f (take (shorter (length out) (length cards)) (keys_from first at gs)) cards)
        → ScanAdmits profile L from out cards (Ok d) left left-cards
    writes out cards d left left-cards w v =
        wrote-admits profile L e from out cards _ begun.rest d left left-cards (w ss ix.shows (counts-held ix)) (v (card_in (cards_of L)) ss ix.shows (counts-held ix) (cards-beside profile L e))
