-- What a check of a cell comes to, case by case: of its marker by a search for it, and of the cells before it.
use mathlib.Core.Path.{◌≡◌, refl, ap, sym, ◌∙◌}
use mathlib.Core.Bool.{Bool, true, false, ◌&&◌, ◌||◌}
use mathlib.Core.Logic.{◌≢◌}
use mathlib.Core.List.{List, [], ◌∷◌, map}
use Prim.Native.Nat.{ℕ}
use borrow.Author.Tests.{eq-eqb, ne_eqb}
use lib.Dec.{T, eqb}
use lib.ListN.{take}
use Rattle.std.specs.List.{list_any}
use Rattle.std.specs.Prelude.{Ok, Err}
use Rattle.lists.specs.Lists.{any_of}
use Rattle.lists.proofs.Maps.{map-take}
use Rattle.lists.proofs.Tests.{is_true}
use Rattle.slots.specs.Segments.{Segments, keys}
use Rattle.slots.specs.Keys.{member, segment_of}
use Rattle.slots.specs.Shown.{Shows, Located}
use Rattle.slots.specs.Stretches.{Stands}
use Rattle.slots.specs.declared.Place.{Place}
use Rattle.slots.proofs.Keys.{segment-front}
use Rattle.slots.proofs.Seats.{seat-live}
use Rattle.slots.proofs.Standing.{stands_live, stands-home}
use Rattle.cells.specs.declared.Cell.{Cell}
use Rattle.cells.specs.Cells.{marks}
use Rattle.forecast.specs.declared.Forecast.{Forecast}
use Rattle.forecast.specs.declared.Fault.TheVariants.{NotLive, Misplaced}
use Rattle.forecast.specs.Cells.{cells}
use Rattle.forecast.specs.Tidy.{Roomy}
use Rattle.forecast.specs.Faults.{is_zero, marker_fault}
use Rattle.forecast.proofs.Stepping.{roomy-markers}

-- A MARKER THAT IS THE FRONT is in segment 0
front-is : (ss : Segments) (k : ℕ) → k ≡ 0 → segment_of ss k ≡ 0
front-is ss k e = ap (segment_of ss) e ∙ segment-front ss

module _ (ss : Segments) (c : Cell) (i : ℕ) (e : c.marker ≡ 0) where
  -- in segment 0
  pub front-sound : c.segment ≡ 0 → marker_fault ss c i ≡ Ok tt
  front-sound h = rw (eq-eqb c.marker 0 e, front-is ss c.marker e, eq-eqb c.segment 0 h)

  -- in another
  pub front-misplaced : c.segment ≢ 0 → marker_fault ss c i ≡ Err (Misplaced i)
  front-misplaced h = rw (eq-eqb c.marker 0 e, front-is ss c.marker e, ne_eqb c.segment 0 h)

-- A MARKER THAT STANDS in the segment that its cell names
pub stands-sound : (ss : Segments) (c : Cell) (i : ℕ) → c.marker ≢ 0 → (slots : List ℕ) → Shows ss slots → Stands slots c.segment c.marker → marker_fault ss c i ≡ Ok tt
stands-sound ss c i n slots sh st =
    let home = stands-home ss slots sh c.segment c.marker n st in
    rw (ne_eqb c.marker 0 n, is_true (member c.marker (keys ss)) (stands_live ss slots sh c.segment c.marker n st), eq-eqb c.segment (segment_of ss c.marker) (sym home))

-- A MARKER THAT WAS SEARCHED FOR
module _ (ss : Segments) (c : Cell) (i : ℕ) (n : c.marker ≢ 0) (r : Place) (l : Located c.marker ss r) where
  -- found: the search ended in its segment
  at_home : r.present ≡ true → segment_of ss c.marker ≡ r.segment
  at_home p = let t : T (member c.marker (keys ss)) = rw (← l.present, p) tt in sym (seat-live c.marker ss t) ∙ sym l.segment

  -- found where its cell says
  pub live-sound : r.present ≡ true → c.segment ≡ r.segment → marker_fault ss c i ≡ Ok tt
  live-sound p h = rw (ne_eqb c.marker 0 n, ← l.present, p, at_home p, eq-eqb c.segment r.segment h)

  -- found elsewhere
  pub live-misplaced : r.present ≡ true → c.segment ≢ r.segment → marker_fault ss c i ≡ Err (Misplaced i)
  live-misplaced p h = rw (ne_eqb c.marker 0 n, ← l.present, p, at_home p, ne_eqb c.segment r.segment h)

  -- not found
  pub not_live : r.present ≡ false → marker_fault ss c i ≡ Err (NotLive i)
  not_live p = rw (ne_eqb c.marker 0 n, ← l.present, p)

-- AN UNUSED CELL: the test of its fields, one after the other
pub zero-is : (c : Cell) → (eqb c.marker 0 && (eqb c.segment 0 && eqb c.count 0)) ≡ is_zero c
zero-is c = grouped (eqb c.marker 0) (eqb c.segment 0) (eqb c.count 0)
  where
    grouped : (a b d : Bool) → (a && (b && d)) ≡ ((a && b) && d)
    grouped true b d = refl
    grouped false b d = refl

-- A MARKER REPEATED among the cells before
any-list : (p : ℕ → Bool) (f : Cell → ℕ) (cs : List Cell) → list_any p (map f cs) ≡ any_of (λ c. p (f c)) cs
any-list p f [] = refl
any-list p f (c ∷ cs) = ap (λ (b : Bool). p (f c) || b) (any-list p f cs)

pub before-is : (F : Forecast) → Roomy F → (i x : ℕ) → list_any (λ y. eqb y x) (take i F.markers) ≡ any_of (marks x) (take i (cells F))
before-is F r i x =
    ap (list_any (λ y. eqb y x)) (ap (take i) (sym (roomy-markers F r)) ∙ sym (map-take (λ c. c.marker) i (cells F)))
    ∙ any-list (λ y. eqb y x) (λ c. c.marker) (take i (cells F))
