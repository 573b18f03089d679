-- `forecast::Forecast::put_first` meets its contract: a new cell at the head.
use Prim.Native.Nat.{ℕ, ◌+◌, ◌<◌}
use mathlib.Core.Path.{◌≡◌, ap, ◌∙◌}
use mathlib.Core.List.{List, ◌∷◌}
use native.Mathlib.Omega.{arith}
use lib.ListN.{length, take}
use Rattle.cells.specs.declared.Cell.{Cell}
use Rattle.cells.specs.Cells.{cell}
use Rattle.forecast.specs.declared.Forecast.{Forecast}
use Rattle.forecast.specs.Cells.{used_cells}
use Rattle.forecast.specs.Tidy.{Tidy, Became}
use Rattle.forecast.proofs.Rows.{row_more}
use Rattle.forecast.proofs.Stepping.{made, became, cells-used, markers-row, segments-row, counts-row}
use Rattle.forecast.proofs.Rows.{pushed-row}
use Rattle.forecast.proofs.Stepping.{tidy-roomy}
use Rattle.forecast.proofs.Forecast.put_first.Goals as goal

module _ (F : Forecast) (t : Tidy F) where
  abbrev us : List Cell
  us = used_cells F

  -- A NEW CELL at the head
  pushed : (x s : ℕ) → F.used < 12 → (ms ss ns : List ℕ) → ms ≡ x ∷ take 11 F.markers → ss ≡ s ∷ take 11 F.segments → ns ≡ 1 ∷ take 11 F.counts
      → Became (cell x s 1 ∷ us) (made ms ss ns (F.used + 1))
  pushed x s h ms ss ns a b c =
      let l : length us < 12 = omega (arith, cells-used F t) in
      became (cell x s 1 ∷ us) _ (omega arith) (omega (arith, cells-used F t))
      (a ∙ ap (λ (l : List ℕ). x ∷ take 11 l) (markers-row F t) ∙ row_more (λ c. c.marker) us (cell x s 1) l)
      (b ∙ ap (λ (l : List ℕ). s ∷ take 11 l) (segments-row F t) ∙ row_more (λ c. c.segment) us (cell x s 1) l)
      (c ∙ ap (λ (l : List ℕ). 1 ∷ take 11 l) (counts-row F t) ∙ row_more (λ c. c.count) us (cell x s 1) l)

pub returns : goal.returns
returns c =
    let r = tidy-roomy c.args.self.now c.requires.0 in
    rw (c.copy_within-3.ensures.after, c.copy_within.ensures.after, c.copy_within-2.ensures.after)
    (pushed c.args.self.now c.requires.0 _ _ c.requires.1 _ _ _ (pushed-row 11 _ _ r.markers) (pushed-row 11 _ _ r.segments) (pushed-row 11 _ _ r.counts))
