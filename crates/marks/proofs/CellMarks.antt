-- Marks, cell by cell: what one more cell does to the weights of keys and to their marks.
use Rattle.std.proofs.Common.{◌≡◌, ℕ, suc, ◌+◌, ◌<◌, ◌≤◌, Bool, true, false, not, T, eqb, ltb, leb, ◌≢◌, List, [], ◌∷◌, ◌++◌, map, length, get_or, take, sym, refl, ap, ◌∙◌, subst, ap₂, inl, inr, add_comm, add-one, arith, T_not, length-take-le, get_or-take, take-suc, ne_eqb, eqb-true, if◌then◌else◌}
use mathlib.Core.List.Memᴰ.{head as here}
use mathlib.Core.List.Memᴰ.{not-nil as nowhere}
use mathlib.Core.List.Memᴰ.{tail as there}
use mathlib.Core.List.{Memᴰ as Mem}
use mathlib.Core.List.Memᴰ.{append_left as in_left}
use mathlib.Core.List.Memᴰ.{append_right as in_right}
use lib.ListN.{length-map}
use Rattle.lists.specs.Lists.{All, total, insert_at}
use Rattle.lists.specs.Search.{place_by}
use Rattle.lists.proofs.Tests.{tested}
use Rattle.lists.proofs.Members.{mem-at, at_mem}
use Rattle.lists.proofs.Search.{place-le}
use Rattle.lists.proofs.Inserted.{all_inserted, length_inserted}
use Rattle.slots.specs.Keys.{Rising, member, below}
use Rattle.slots.proofs.Keys.{member→mem, not-member}
use Rattle.slots.proofs.Halving.{place_of}
use Rattle.cells.specs.declared.Cell.{Cell}
use Rattle.cells.specs.Cells.{zero_cell, cell_at, weight}
use Rattle.forecast.specs.declared.Forecast.{Forecast}
use Rattle.forecast.specs.Cells.{cells, used_cells}
use Rattle.forecast.specs.Tidy.{Tidy, Fitting}
use Rattle.forecast.proofs.Stepping.{cells-used, cell-is}
use Rattle.stretches.specs.Marks.{weight_below, Marked}
use Rattle.marks.specs.Marking.{OneMarked}
use Rattle.marks.proofs.Spots.{only_at, total-added, total-zero, absent-sum, present-sum, below-inserted, rising-inserted}

-- what a cell whose marker is no key does, and one whose marker stands at p
pub one_none : (c : Cell) (ks at ws : List ℕ) → T (not (member c.marker ks)) → OneMarked c ks at ws at ws
one_none c ks at ws t = record { absent = λ _. (refl, refl); present = λ u. absurd (T_not (member c.marker ks) t u) }

pub one-put : (c : Cell) (ks at ws at' ws' : List ℕ) (p k : ℕ) → T (member c.marker ks) → p ≡ length (below c.marker ks) → k ≡ place_by (leb p) at
    → at' ≡ insert_at k p at → ws' ≡ insert_at k c.count ws → OneMarked c ks at ws at' ws'
one-put c ks at ws at' ws' p k t e f g h = record {
  absent = λ u. absurd (T_not (member c.marker ks) u t);
  present = λ _. (
    g ∙ ap (λ (i : ℕ). insert_at i p at) f ∙ ap (λ (q : ℕ). insert_at (place_by (leb q) at) q at) e,
    h ∙ ap (λ (i : ℕ). insert_at i c.count ws) f ∙ ap (λ (q : ℕ). insert_at (place_by (leb q) at) c.count ws) e,
  );
}

-- ONE MORE CELL, whose marker no other has, adds its count to its marker's weight
weight-more : (cs : List Cell) (c : Cell) → All (λ d. d.marker ≢ c.marker) cs → (x : ℕ) → weight (cs ++ (c ∷ [])) x ≡ weight cs x + only_at c.marker c.count x
unfolding weight
weight-more [] c h x = go (eqb c.marker x)
  where
    go : (b : Bool) → (get_or (c ∷ []) (if b then 0 else 1) zero_cell).count ≡ 0 + (if b then c.count else 0)
    go true = omega arith
    go false = refl
weight-more (d ∷ cs) c h x = go (eqb d.marker x) refl (weight-more cs c (λ b m. h b (there m)) x)
  where
    go : (b : Bool) → eqb d.marker x ≡ b → weight (cs ++ (c ∷ [])) x ≡ weight cs x + only_at c.marker c.count x
        → (get_or (d ∷ (cs ++ (c ∷ []))) (if b then 0 else suc (cell_at x (cs ++ (c ∷ [])))) zero_cell).count
        ≡ (get_or (d ∷ cs) (if b then 0 else suc (cell_at x cs)) zero_cell).count + only_at c.marker c.count x
    go true e rec = rw (ne_eqb c.marker x (λ q. h d (here refl) (eqb-true d.marker x e ∙ sym q))) (omega arith)
    go false e rec = rec

-- The marks of these cells among the keys; each is at the place of a cell's marker.
pub record MarkedBy (cs : List Cell) (ks at ws : List ℕ) : Type 0 where
  pub marked : Marked (map (weight cs) ks) at ws
  pub from : All (λ q. (d : Cell) × Mem d cs × (d.marker ≡ get_or ks q 0)) at

-- no cell, no mark
pub marking-none : (ks : List ℕ) → MarkedBy [] ks [] []
unfolding weight
marking-none ks = record {
  marked = record {
    same = refl;
    few = omega arith;
    rising = tt;
    inside = λ q m. absurd (nowhere m);
    small = λ w m. absurd (nowhere m);
    totals = total-zero (weight []) ks (λ k m. refl);
  };
  from = λ q m. absurd (nowhere m);
}

module _ (cs : List Cell) (c : Cell) (ks at ws at' ws' : List ℕ) (r : Rising ks) (little : c.count ≤ 12) (apart : All (λ d. d.marker ≢ c.marker) cs) (room : length at' ≤ 12) (k : MarkedBy cs ks at ws) (o : OneMarked c ks at ws at' ws') where
  -- the sums with one cell more
  sums : (t : ℕ) → total (take t (map (weight (cs ++ (c ∷ []))) ks)) ≡ total (take t (map (weight cs) ks)) + total (take t (map (only_at c.marker c.count) ks))
  sums t = total-added (weight (cs ++ (c ∷ []))) (weight cs) (only_at c.marker c.count) (weight-more cs c apart) t ks

  wider : length (map (weight (cs ++ (c ∷ []))) ks) ≡ length (map (weight cs) ks)
  wider = length-map ks (weight (cs ++ (c ∷ []))) ∙ sym (length-map ks (weight cs))

  outside : T (not (member c.marker ks)) → MarkedBy (cs ++ (c ∷ [])) ks at ws
  outside t = record {
    marked = record {
      same = k.marked.same;
      few = k.marked.few;
      rising = k.marked.rising;
      inside = λ q m. omega (arith, wider, k.marked.inside q m);
      small = k.marked.small;
      totals = λ i. sums i ∙ omega (arith, k.marked.totals i, absent-sum c.marker c.count ks (not-member c.marker ks t) i);
    };
    from = λ q m. ((k.from q m).0, in_left (c ∷ []) (k.from q m).1, (k.from q m).2);
  }

  module _ (t : T (member c.marker ks)) where
    abbrev p : ℕ
    p = length (below c.marker ks)

    abbrev place : ℕ
    place = place_by (leb p) at

    stands : (p < length ks) × (get_or ks p 0 ≡ c.marker)
    stands = place_of c.marker ks r (member→mem c.marker ks t)

    within : place ≤ length at
    within = place-le (leb p) at

    -- no mark stands there yet
    free : All (λ q. q ≢ p) at
    free q m e = apart (k.from q m).0 (k.from q m).1 ((k.from q m).2 ∙ ap (λ (j : ℕ). get_or ks j 0) e ∙ stands.1)

    added : length (insert_at place p at) ≤ 12 → MarkedBy (cs ++ (c ∷ [])) ks (insert_at place p at) (insert_at place c.count ws)
    added h = record {
      marked = record {
        same = length_inserted p place at within ∙ ap suc k.marked.same ∙ sym (length_inserted c.count place ws (omega (arith, within, k.marked.same)));
        few = h;
        rising = rising-inserted p at k.marked.rising free;
        inside = all_inserted p (λ q. q < length (map (weight (cs ++ (c ∷ []))) ks)) place at (omega (arith, length-map ks (weight (cs ++ (c ∷ []))), stands.0)) (λ q m. omega (arith, wider, k.marked.inside q m));
        small = all_inserted c.count (λ w. w ≤ 12) place ws little k.marked.small;
        totals = λ j. sums j ∙ ap₂ ◌+◌ (k.marked.totals j) (present-sum c.marker c.count ks r p stands.0 stands.1 j)
            ∙ add_comm (weight_below at ws j) (if ltb p j then c.count else 0) ∙ sym (below-inserted place p c.count j at ws k.marked.same within);
      };
      from = all_inserted p (λ q. (d : Cell) × Mem d (cs ++ (c ∷ [])) × (d.marker ≡ get_or ks q 0)) place at (c, in_right cs (here refl), sym stands.1)
          (λ q m. ((k.from q m).0, in_left (c ∷ []) (k.from q m).1, (k.from q m).2));
    }

  pub marking-more : MarkedBy (cs ++ (c ∷ [])) ks at' ws'
  marking-more = elim (tested (member c.marker ks)) [
    | inl t ↦ rw ((o.present t).0, (o.present t).1) (added t (rw (o.present t).0 at room))
    | inr t ↦ rw ((o.absent t).0, (o.absent t).1) (outside t)
  ]

-- THE NEXT of a forecast's cells
pub marking-next : (F : Forecast) → Tidy F → Fitting F → (i : ℕ) → i < F.used → (ks at ws at' ws' : List ℕ) → Rising ks → length at' ≤ 12
    → MarkedBy (take i (used_cells F)) ks at ws → (d : Cell) → d ≡ get_or (cells F) i zero_cell → OneMarked d ks at ws at' ws' → MarkedBy (take (i + 1) (used_cells F)) ks at' ws'
marking-next F tidy fits i h ks at ws at' ws' r room k d q o =
    rw (add-one, take-suc (used_cells F) i zero_cell h')
    (marking-more (take i (used_cells F)) c ks at ws at' ws' r (fits.small c (at_mem (used_cells F) i zero_cell h')) differ room k (subst (λ (x : Cell). OneMarked x ks at ws at' ws') (q ∙ cell-is F tidy i) o))
  where
    c : Cell
    c = get_or (used_cells F) i zero_cell

    h' : i < length (used_cells F)
    h' = omega (arith, cells-used F tidy)

    differ : All (λ d. d.marker ≢ c.marker) (take i (used_cells F))
    differ d m e = go (mem-at d (take i (used_cells F)) zero_cell m)
      where
        go : (t : ℕ) × (t < length (take i (used_cells F))) × (get_or (take i (used_cells F)) t zero_cell ≡ d) → ⊥
        go q =
            let l : q.0 < i = omega (arith, q.1, length-take-le i (used_cells F) (omega (arith, h'))) in
            let f : get_or (used_cells F) q.0 zero_cell ≡ d = sym (get_or-take i (used_cells F) q.0 zero_cell l) ∙ q.2 in
            omega (arith, fits.apart q.0 i (omega (arith, h')) h' (ap (λ (b : Cell). b.marker) f ∙ e))
