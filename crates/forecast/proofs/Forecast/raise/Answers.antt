-- `forecast::Forecast::raise` meets its contract: one more for a cell, which changes places with the one before.
use Prim.Native.Nat.{ℕ, ◌+◌, ◌-◌, ◌≤◌, ◌<◌}
use mathlib.Core.Path.{◌≡◌, refl, sym, ap, ◌∙◌, subst}
use mathlib.Core.Logic.{◌≢◌}
use mathlib.Core.List.{List}
use native.Mathlib.Omega.{arith}
use lib.ListN.{length, get_or, set, length-set}
use lib.Seq.{get_or-set_same, get_or-set_other, set-set}
use Rattle.forecast.specs.Ahead.{ahead_row}
use Rattle.cells.specs.declared.Cell.{Cell}
use Rattle.cells.specs.Cells.{zero_cell, with_count, row}
use Rattle.cells.specs.Steps.{raised}
use Rattle.cells.proofs.Laws.{raised-head, raised-past}
use Rattle.forecast.specs.declared.Forecast.{Forecast}
use Rattle.forecast.specs.Cells.{used_cells}
use Rattle.forecast.specs.Tidy.{Tidy, Became}
use Rattle.forecast.proofs.Rows.{row-set, row_kept, row-ahead}
use Rattle.forecast.proofs.Stepping.{made, became, cells-used, markers-row, segments-row, counts-row, count-is}
use Rattle.forecast.proofs.Forecast.raise.Goals as goal

module _ (F : Forecast) (t : Tidy F) where
  abbrev us : List Cell
  us = used_cells F

  -- ONE MORE for the cell at `at`
  module _ (at : ℕ) (h : at < F.used) where
    abbrev more : Cell
    more = with_count ((get_or us at zero_cell).count + 1) (get_or us at zero_cell)

    abbrev bumped : List Cell
    bumped = set us at more

    inside : at < length us
    inside = rw (cells-used F t) h

    fits : length bumped ≤ 12
    fits = let r = t.room in simp length-set (omega (arith, cells-used F t))

    markers-more : F.markers ≡ row (λ c. c.marker) bumped
    markers-more = markers-row F t ∙ row_kept (λ c. c.marker) us at more refl

    segments-more : F.segments ≡ row (λ c. c.segment) bumped
    segments-more = segments-row F t ∙ row_kept (λ c. c.segment) us at more refl

    counts-more : set F.counts at (get_or F.counts at 0 + 1) ≡ row (λ c. c.count) bumped
    counts-more =
        ap (λ (n : ℕ). set F.counts at (n + 1)) (count-is F t at) ∙ ap (λ (l : List ℕ). set l at more.count) (counts-row F t)
        ∙ row-set (λ c. c.count) us at more inside

    -- at the head it stays
    raised-first : at ≡ 0 → Became (raised at us) (made F.markers F.segments (set F.counts at (get_or F.counts at 0 + 1)) F.used)
    raised-first e =
        subst (λ (ds : List Cell). Became ds (made F.markers F.segments (set F.counts at (get_or F.counts at 0 + 1)) F.used))
        (subst (λ (k : ℕ). set us k (with_count ((get_or us k zero_cell).count + 1) (get_or us k zero_cell)) ≡ raised k us) (sym e) (sym (raised-head us)))
        (became bumped _ fits (sym (length-set us at more ∙ cells-used F t)) markers-more segments-more counts-more)

    -- elsewhere it changes places with the one before
    module _ (p : 0 < at) where
      swapped : set (set bumped at (get_or bumped (at - 1) zero_cell)) (at - 1) (get_or bumped at zero_cell) ≡ raised at us
      swapped =
          let n : at - 1 ≢ at = omega arith in
          rw (get_or-set_same us at more zero_cell inside, get_or-set_other us at (at - 1) more zero_cell n, set-set us at more (get_or us (at - 1) zero_cell)) (sym (raised-past at us p))

      ahead-row : (f : Cell → ℕ) → f zero_cell ≡ 0 → (xs : List ℕ) → xs ≡ row f bumped → ahead_row at xs ≡ row f (raised at us)
      ahead-row f z xs e = ap (ahead_row at) e ∙ row-ahead f z bumped at p (rw (length-set us at more) inside) ∙ ap (row f) swapped

      raised-ahead : (ms ss ns : List ℕ) → ms ≡ ahead_row at F.markers → ss ≡ ahead_row at F.segments → ns ≡ ahead_row at (set F.counts at (get_or F.counts at 0 + 1))
          → Became (raised at us) (made ms ss ns F.used)
      raised-ahead ms ss ns a b c =
          let l : length (raised at us) ≡ length us = ap length (sym swapped) ∙ simp length-set in
          let r = t.room in
          became (raised at us) _ (omega (arith, cells-used F t)) (sym (l ∙ cells-used F t))
          (a ∙ ahead-row (λ c. c.marker) refl F.markers markers-more)
          (b ∙ ahead-row (λ c. c.segment) refl F.segments segments-more)
          (c ∙ ahead-row (λ c. c.count) refl _ counts-more)

pub returns-then-at-eq0 : goal.returns-then-at-eq0
returns-then-at-eq0 c = raised-first c.args.self.now c.requires.0 _ c.requires.1 c.if-at-eq0.true

pub returns : goal.returns
returns c = raised-ahead c.args.self.now c.requires.0 _ c.requires.1 (omega arith) _ _ _ (c.swap-3.ensures.by_index.3 0) (c.swap.ensures.by_index.3 0) (c.swap-2.ensures.by_index.3 0)
