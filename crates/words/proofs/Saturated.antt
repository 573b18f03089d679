-- What bytes do not hold is refused all the same: a saturated forecast has the fault of the one lent, and one without fault is itself.
use Prim.Native.Nat.{ℕ, ◌≤◌, ◌<◌}
use mathlib.Core.Path.{◌≡◌, refl, sym, ap, ◌∙◌}
use mathlib.Core.Bool.{Bool, not, ◌||◌}
use mathlib.Core.Option.{none, some}
use mathlib.Core.List.{List, [], ◌∷◌, map}
use native.Mathlib.Decide.{dec_lt}
use native.Mathlib.Omega.{arith}
use lib.Dec.{T, ltb, eqb}
use lib.ListN.{length, take, get_or, length-map, get_or-map, get_or-eq_default}
use Rattle.std.proofs.Common.{if◌then◌else◌}
use Rattle.lists.specs.Lists.{any_of}
use Rattle.lists.specs.Search.{first}
use Rattle.lists.proofs.Maps.{map-take}
use Rattle.lists.proofs.Members.{at_mem}
use Rattle.lists.proofs.Search.{place-le}
use Rattle.slots.specs.Segments.{Segments}
use Rattle.lists.proofs.Tests.{either}
use Rattle.slots.specs.Keys.{member, segment_of}
use Rattle.cells.specs.declared.Cell.{Cell}
use Rattle.cells.specs.Cells.{cell, zero_cell, zip3, marks}
use Rattle.cells.proofs.Ruled.{Ruled, Placed}
use Rattle.forecast.specs.declared.Forecast.{Forecast}
use Rattle.std.specs.Prelude.{Ok, Err}
use Rattle.forecast.specs.declared.Fault.TheVariants.{TooMany}
use Rattle.forecast.specs.Cells.{cells, used_cells}
use Rattle.forecast.specs.Faults.{fault_at, is_sound, fault_of}
use Rattle.forecast.specs.Tidy.{Roomy, Tidy, Marker}
use Rattle.forecast.proofs.Checked.{fault-many}
use Rattle.forecast.proofs.Faults.{sound-ruled}
use Rattle.forecast.proofs.Became.{tidy-of-sound}
use Rattle.forecast.proofs.Stepping.{segment-is, count-is}
use Rattle.words.specs.Words.{capped, saturated, forecast_in, forecast_words}
use Rattle.words.proofs.Capped.{capped_small, capped-big, capped-eqb, capped-below, capped-above, capped-row}
use Rattle.words.proofs.WordLaws.{words-again, forecast_in-roomy}

-- CELLS
capped_cell : Cell → Cell
capped_cell c = cell c.marker (capped c.segment) (capped c.count)

zip-capped : (xs ss ns : List ℕ) → zip3 xs (map capped ss) (map capped ns) ≡ map capped_cell (zip3 xs ss ns)
unfolding capped_cell
zip-capped [] ss ns = refl
zip-capped (x ∷ xs) [] ns = refl
zip-capped (x ∷ xs) (s ∷ ss) [] = refl
zip-capped (x ∷ xs) (s ∷ ss) (n ∷ ns) = ap {B = List Cell} (λ l. cell x (capped s) (capped n) ∷ l) (zip-capped xs ss ns)

module _ (F : Forecast) where
  cells-capped : cells (saturated F) ≡ map capped_cell (cells F)
  unfolding cells
  cells-capped = zip-capped F.markers F.segments F.counts

  at-capped : (i : ℕ) → get_or (cells (saturated F)) i zero_cell ≡ capped_cell (get_or (cells F) i zero_cell)
  unfolding capped_cell capped
  at-capped i = ap (λ (l : List Cell). get_or l i zero_cell) cells-capped ∙ get_or-map capped_cell (cells F) i zero_cell

  long-capped : length (cells (saturated F)) ≡ length (cells F)
  long-capped = ap length cells-capped ∙ length-map (cells F) capped_cell

any-map : {A B : Type 0} (p : B → Bool) (f : A → B) (xs : List A) → any_of p (map f xs) ≡ any_of (λ x. p (f x)) xs
any-map p f [] = refl
any-map p f (x ∷ xs) = ap (λ (b : Bool). p (f x) || b) (any-map p f xs)

any-capped : (m : ℕ) (cs : List Cell) (i : ℕ) → any_of (marks m) (take i (map capped_cell cs)) ≡ any_of (marks m) (take i cs)
unfolding capped_cell
any-capped m cs i = ap (any_of (marks m)) (sym (map-take capped_cell i cs)) ∙ any-map (marks m) capped_cell (take i cs)

-- the segment of any key is one of the list's, or just past the last
segment-few : (ss : Segments) (k : ℕ) → segment_of ss k ≤ length ss
unfolding segment_of
segment-few ss k = either (λ (n : ℕ). n ≤ length ss) (eqb k 0) (omega arith) (place-le (member k) ss)

-- FAULTS
module _ (P : ℕ) (p : P < 255) (ss : Segments) (few : length ss < 255) (F : Forecast) where
  -- of a cell, where not too many are used
  at_same : F.used ≤ P → (i : ℕ) → fault_at P ss (saturated F) i ≡ fault_at P ss F i
  unfolding fault_at capped_cell
  at_same u i =
      let c = get_or (cells F) i zero_cell in
      let z : 0 < 255 = omega arith in
      let o : 1 < 255 = omega arith in
      rw (
        at-capped F i,
        cells-capped F,
        any-capped c.marker (cells F) i,
        capped_small F.used (omega arith),
        capped-eqb 0 z c.segment,
        capped-eqb 0 z c.count,
        capped-below 1 o c.count,
        capped-above P p c.count,
        capped-eqb (segment_of ss c.marker) (omega (arith, segment-few ss c.marker)) c.segment,
      )

  -- the first
  pub fault-same : fault_of P ss (saturated F) ≡ fault_of P ss F
  unfolding fault_of
  fault-same =
      elim (dec_lt P F.used) [
        | yes l ↦ fault-many P ss (saturated F) (over l) ∙ sym (fault-many P ss F l)
        | no l ↦ λ j. if ltb P (capped_small F.used (omega arith) j) then Err TooMany else elim (first (λ i. not (is_sound (at_same (omega arith) i j))) 0 (long-capped F j)) [ none ↦ Ok tt | some i ↦ at_same (omega arith) i j ]
      ]
    where
      over : P < F.used → P < capped F.used
      over l = elim (dec_lt 255 F.used) [ yes m ↦ omega (arith, capped-big F.used m) | no m ↦ omega (arith, capped_small F.used (omega arith)) ]

  -- a forecast without fault fits its bytes
  pub sound-same : P ≤ 12 → Roomy F → T (is_sound (fault_of P ss F)) → saturated F ≡ F
  sound-same q r t = λ i. record { markers = F.markers; segments = segments i; counts = counts i; used = used i }
    where
      tidy : Tidy F
      tidy = tidy-of-sound P ss F t r q

      ruled : Ruled P (Marker ss) (used_cells F) × Placed (segment_of ss) (used_cells F)
      ruled = sound-ruled P ss F t

      segments : map capped F.segments ≡ F.segments
      segments =
          capped-row F.segments (λ i.
          elim (dec_lt i (length (used_cells F))) [
            | yes h ↦ omega (arith, segment-is F tidy i, ruled.1 _ (at_mem (used_cells F) i zero_cell h), segment-few ss (get_or (used_cells F) i zero_cell).marker)
            | no h ↦ omega (arith, segment-is F tidy i ∙ ap (λ (c : Cell). c.segment) (get_or-eq_default (used_cells F) zero_cell (omega arith)))
          ])

      counts : map capped F.counts ≡ F.counts
      counts =
          capped-row F.counts (λ i.
          elim (dec_lt i (length (used_cells F))) [
            | yes h ↦ omega (arith, count-is F tidy i, (ruled.0.counts _ (at_mem (used_cells F) i zero_cell h)).1)
            | no h ↦ omega (arith, count-is F tidy i ∙ ap (λ (c : Cell). c.count) (get_or-eq_default (used_cells F) zero_cell (omega arith)))
          ])

      used : capped F.used ≡ F.used
      used = capped_small F.used (omega (arith, tidy.room))

-- WORDS: what is read has the fault of the words as lent; and words that are accepted are written back as they were
module _ (P : ℕ) (p : P ≤ 12) (ss : Segments) (few : length ss ≤ 64) (ws : List ℕ) where
  pub read-fault : fault_of P ss (saturated (forecast_in ws)) ≡ fault_of P ss (forecast_in ws)
  read-fault = fault-same P (omega arith) ss (omega arith) (forecast_in ws)

  pub accepted-again : length ws ≡ 37 → T (is_sound (fault_of P ss (forecast_in ws))) → forecast_words (saturated (forecast_in ws)) ≡ ws
  accepted-again h t = ap forecast_words (sound-same P (omega arith) ss (omega arith) (forecast_in ws) p (forecast_in-roomy ws) t) ∙ words-again ws h
