-- `forecast::Forecast::close_up` meets its contract: the rows are those without the cell.
use Prim.Native.Nat.{ℕ, ◌+◌, ◌-◌, ◌<◌}
use mathlib.Core.Path.{◌≡◌, ap, ◌∙◌, subst}
use mathlib.Core.List.{List}
use native.Mathlib.Omega.{arith}
use lib.ListN.{length, set}
use Rattle.std.specs.List.{copy_within}
use Rattle.lists.specs.Lists.{without}
use Rattle.lists.proofs.Fill.{length_without}
use Rattle.cells.specs.declared.Cell.{Cell}
use Rattle.cells.specs.Cells.{row}
use Rattle.forecast.specs.declared.Forecast.{Forecast}
use Rattle.forecast.specs.Cells.{used_cells}
use Rattle.forecast.specs.Tidy.{Tidy, Became}
use Rattle.forecast.proofs.Rows.{row-closed}
use Rattle.forecast.proofs.Stepping.{made, became, cells-used, markers-row, segments-row, counts-row}
use Rattle.forecast.proofs.Forecast.close_up.Goals as goal

module _ (F : Forecast) (t : Tidy F) (at : ℕ) (h : at < F.used) where
  abbrev us : List Cell
  us = used_cells F

  -- a row closed up
  abbrev closed : List ℕ → List ℕ
  closed xs = set (copy_within xs (at + 1) F.used at) (F.used - 1) 0

  closes : (f : Cell → ℕ) (xs : List ℕ) → xs ≡ row f us → closed xs ≡ row f (without at us)
  closes f xs e =
      let r = t.room in
      ap closed e
      ∙ subst (λ (k : ℕ). set (copy_within (row f us) (at + 1) k at) (k - 1) 0 ≡ row f (without at us)) (cells-used F t) (row-closed f us at (omega (arith, cells-used F t)) (omega (arith, cells-used F t)))

  gone : Became (without at us) (made (closed F.markers) (closed F.segments) (closed F.counts) (F.used - 1))
  gone =
      let r = t.room in
      let l : length (without at us) + 1 ≡ length us = length_without at us (omega (arith, cells-used F t)) in
      became (without at us) _ (omega (arith, cells-used F t)) (omega (arith, cells-used F t))
      (closes (λ c. c.marker) F.markers (markers-row F t)) (closes (λ c. c.segment) F.segments (segments-row F t)) (closes (λ c. c.count) F.counts (counts-row F t))

pub returns : goal.returns
returns c =
    rw (c.copy_within-3.ensures.after, c.copy_within.ensures.after, c.copy_within-2.ensures.after) (gone c.args.self.now c.requires.0 c.args.at c.requires.1)
