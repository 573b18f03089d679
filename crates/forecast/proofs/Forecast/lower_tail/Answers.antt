-- `forecast::Forecast::lower_tail` meets its contract: one less for the tail.
use Prim.Native.Nat.{ℕ, ◌+◌, ◌-◌, ◌≤◌, ◌<◌}
use mathlib.Core.Path.{◌≡◌, refl, sym, ap, ◌∙◌}
use mathlib.Core.List.{List}
use native.Mathlib.Omega.{arith}
use lib.ListN.{length, take, get_or, set, length-set}
use lib.Seq.{length-take-le}
use Rattle.cells.specs.declared.Cell.{Cell}
use Rattle.cells.specs.Cells.{zero_cell, with_count}
use Rattle.cells.specs.Steps.{tailed}
use Rattle.cells.proofs.Laws.{tailed-gone, tailed-less}
use Rattle.forecast.specs.declared.Forecast.{Forecast}
use Rattle.forecast.specs.Cells.{used_cells}
use Rattle.forecast.specs.Tidy.{Tidy, Became}
use Rattle.forecast.proofs.Rows.{row-set, row_kept, row-less}
use Rattle.forecast.proofs.Stepping.{made, became, cells-used, markers-row, segments-row, counts-row, count-is}
use Rattle.forecast.proofs.Forecast.lower_tail.Goals as goal

module _ (F : Forecast) (t : Tidy F) (h : 0 < F.used) where
  abbrev us : List Cell
  us = used_cells F

  abbrev tail : ℕ
  tail = F.used - 1

  last : length us - 1 ≡ tail
  last = ap (λ (n : ℕ). n - 1) (cells-used F t)

  -- which goes
  lowered-gone : get_or F.counts tail 0 ≤ 1 → Became (tailed us) (made (set F.markers tail 0) (set F.segments tail 0) (set F.counts tail 0) tail)
  lowered-gone k =
      let r = t.room in
      let e : length us ≡ tail + 1 = omega (arith, cells-used F t) in
      let q : tailed us ≡ take tail us = tailed-gone us (rw (last, ← count-is F t tail) k) ∙ ap (λ (n : ℕ). take n us) last in
      let l : length (take tail us) ≡ tail = length-take-le tail us (omega arith) in
      rw q
      (became (take tail us) _ (omega arith) (sym l)
      (ap (λ (l : List ℕ). set l tail 0) (markers-row F t) ∙ row-less (λ c. c.marker) us tail e (omega arith))
      (ap (λ (l : List ℕ). set l tail 0) (segments-row F t) ∙ row-less (λ c. c.segment) us tail e (omega arith))
      (ap (λ (l : List ℕ). set l tail 0) (counts-row F t) ∙ row-less (λ c. c.count) us tail e (omega arith)))

  -- which stays
  lowered-less : 1 < get_or F.counts tail 0 → Became (tailed us) (made F.markers F.segments (set F.counts tail (get_or F.counts tail 0 - 1)) F.used)
  lowered-less k =
      let r = t.room in
      let less : Cell = with_count ((get_or us tail zero_cell).count - 1) (get_or us tail zero_cell) in
      let q : tailed us ≡ set us tail less =
      tailed-less us (rw (last, ← count-is F t tail) k) ∙ ap (λ (n : ℕ). set us n (with_count ((get_or us n zero_cell).count - 1) (get_or us n zero_cell))) last in
      rw q
      (became (set us tail less) _ (simp length-set (omega (arith, cells-used F t))) (sym (length-set us tail less ∙ cells-used F t))
      (markers-row F t ∙ row_kept (λ c. c.marker) us tail less refl)
      (segments-row F t ∙ row_kept (λ c. c.segment) us tail less refl)
      (ap (λ (n : ℕ). set F.counts tail (n - 1)) (count-is F t tail) ∙ ap (λ (l : List ℕ). set l tail less.count) (counts-row F t)
      ∙ row-set (λ c. c.count) us tail less (omega (arith, cells-used F t))))

pub returns-then-count-gt1 : goal.returns-then-count-gt1
returns-then-count-gt1 c = lowered-less c.args.self.now c.requires.0 c.requires.1 c.if-count-gt1.true

pub returns : goal.returns
returns c = lowered-gone c.args.self.now c.requires.0 c.requires.1 c.if-count-gt1.false
