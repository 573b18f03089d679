-- `forecast::Forecast::note_insert` meets its contract: each way is a case of `noted`.
use Prim.Native.Nat.{ℕ, ◌≤◌, ◌<◌}
use mathlib.Core.Path.{◌≡◌}
use mathlib.Core.List.{List, ◌∷◌}
use native.Mathlib.Omega.{arith}
use borrow.Author.Tests.{lt-ltb, le-ltb}
use lib.ListN.{get_or}
use Rattle.cells.specs.declared.Cell.{Cell}
use Rattle.cells.specs.Cells.{cell, cell_at}
use Rattle.cells.specs.Steps.{raised, tailed, noted}
use Rattle.forecast.specs.declared.Forecast.{Forecast}
use Rattle.forecast.specs.Cells.{used_cells}
use Rattle.forecast.specs.Tidy.{Tidy}
use Rattle.forecast.proofs.Stepping.{cells-used, count-is}
use Rattle.forecast.proofs.Placed.{cell-found, cell-missing}
use Rattle.forecast.proofs.Forecast.note_insert.Goals.{in-Some+else-from-p, in-None+else-self-p}
use Rattle.forecast.proofs.Forecast.note_insert.Goals as goal

module _ (F : Forecast) (t : Tidy F) where
  abbrev us : List Cell
  us = used_cells F

  -- THE CASES of noting x, whose cell is at `at`
  module _ (P x s at : ℕ) (found : at ≡ cell_at x us) where
    -- x has a cell with count below P
    is-raised : at < F.used → get_or F.counts at 0 < P → noted P x s us ≡ raised at us
    unfolding noted
    is-raised h k = rw (← found, cells-used F t, lt-ltb _ _ h, ← count-is F t at, lt-ltb _ _ k)

    -- x has a cell with count P
    is-spent : at < F.used → P ≤ get_or F.counts at 0 → noted P x s us ≡ tailed us
    unfolding noted
    is-spent h k = rw (← found, cells-used F t, lt-ltb _ _ h, ← count-is F t at, le-ltb _ _ k)

  -- or that has none
  module _ (P x s : ℕ) (missing : F.used ≤ cell_at x us) where
    -- fewer than P are used
    is-new : F.used < P → noted P x s us ≡ cell x s 1 ∷ us
    unfolding noted
    is-new k = rw (cells-used F t, le-ltb _ _ missing, lt-ltb _ _ k)

    -- P are used
    is-full : P ≤ F.used → noted P x s us ≡ tailed us
    unfolding noted
    is-full k = rw (cells-used F t, le-ltb _ _ missing, le-ltb _ _ k)

pub returns-then-from-p : goal.returns-then-from-p
returns-then-from-p c =
    let f = c.args.self in
    let t = c.requires.tidy in
    let i = cell-found f t _ _ c.place_of.ensures _ c.in-Some.is in
    let k : get_or f.counts c.in-Some.at 0 < c.args.p = omega arith in
    rw (is-raised f t _ _ _ _ i.0 i.1 k) c.raise.ensures

pub returns-then-self-p : goal.returns-then-self-p
returns-then-self-p c =
    let f = c.args.self in
    let t = c.requires.tidy in
    rw (is-new f t _ _ _ (cell-missing f t _ _ c.place_of.ensures c.in-None.is) c.if-self-p.true) c.put_first.ensures

pub returns : goal.returns
returns c =
    let f = c.args.self in
    let t = c.requires.tidy in
    let e : noted c.args.p c.args.marker c.args.segment (used_cells f) ≡ tailed (used_cells f) =
    elim c.match-place_of.branch [
      | in-Some+else-from-p w ↦ (let i = cell-found f t _ _ c.place_of.ensures _ w.in-Some.is in is-spent f t _ _ _ _ i.0 i.1 (omega arith))
      | in-None+else-self-p w ↦ is-full f t _ _ _ (cell-missing f t _ _ c.place_of.ensures w.in-None.is) w.if-self-p.false
    ] in
    rw e c.lower_tail.ensures
