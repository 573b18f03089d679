-- The forecast of a good list after a request's note or drop: its rule, and what the sharing out asks of it.
use mathlib.Core.Path.{◌≡◌, refl, subst, sym}
use mathlib.Core.Logic.{inl, inr, ◌≢◌}
use mathlib.Core.List.{List}
use Prim.Native.Nat.{ℕ, ◌≤◌}
use native.Mathlib.Nat.{le_trans}
use native.Mathlib.Decide.{dec_lt}
use native.Mathlib.Omega.{arith}
use lib.Dec.{eqb}
use lib.ListN.{length}
use Rattle.lists.proofs.Tests.{either}
use Rattle.lists.proofs.Members.{at_mem}
use Rattle.slots.specs.Windows.{start}
use Rattle.slots.specs.Keys.{predecessor}
use Rattle.slots.proofs.Keys.{pred-mem}
use Rattle.cells.specs.declared.Cell.{Cell}
use Rattle.cells.specs.Cells.{zero_cell, cell_at, weight}
use Rattle.cells.specs.Steps.{noted, dropped}
use Rattle.cells.proofs.Laws.{weight-at, weight-none}
use Rattle.cells.proofs.Ruled.{Ruled}
use Rattle.cells.proofs.Kept.{noted-ruled, dropped-ruled}
use Rattle.forecast.specs.declared.Forecast.{Forecast}
use Rattle.forecast.specs.Cells.{used_cells}
use Rattle.forecast.specs.Tidy.{Marker, Fitting}
use Rattle.rules.specs.Shares.{Shares, cells_of}
use Rattle.rules.specs.Placing.{Room, home, front_weight}
use Rattle.demands.proofs.Requests.StaysGood.{Good}

-- no key weighs more than P, nor does the front in any window
pub weight-ruled : (P : ℕ) (L : ℕ → Type 0) (cs : List Cell) → Ruled P L cs → (k : ℕ) → weight cs k ≤ P
weight-ruled P L cs R k =
    elim (dec_lt (cell_at k cs) (length cs)) [
      | yes h ↦ omega (arith, weight-at cs k (cell_at k cs) refl, (R.counts _ (at_mem cs (cell_at k cs) zero_cell h)).1)
      | no h ↦ omega (arith, weight-none cs k (omega arith))
    ]

pub front-ruled : (P : ℕ) (L : ℕ → Type 0) (cs : List Cell) → Ruled P L cs → (l s : ℕ) → front_weight l s cs ≤ P
front-ruled P L cs R l s = either (λ (n : ℕ). n ≤ P) (eqb (start l s) 0) (weight-ruled P L cs R 0) (omega arith)

-- cells under the rule, with counts of at most 12, fit
pub fitting-ruled : (P : ℕ) (L : ℕ → Type 0) (F : Forecast) → P ≤ 12 → Ruled P L (used_cells F) → Fitting F
fitting-ruled P L F p R = record { small = λ c m. le_trans (R.counts c m).1 p; apart = R.apart }

module _ (S : Shares) (y : ℕ) (R : Room) (G : Good S R) where
  -- after an insert's note every marker is live, before y is put in
  pub noted-good : Ruled (cells_of S) (Marker R.segments) (noted (cells_of S) (predecessor y R.segments) (home y R.segments) R.cells)
  noted-good =
      noted-ruled (cells_of S) (Marker R.segments) (predecessor y R.segments) (home y R.segments) R.cells G.ruled
      (elim (pred-mem y R.segments) [ inl e ↦ inl e | inr q ↦ inr q.1 ]) (omega arith)

  -- after a delete's drop no marker is y
  pub dropped-good : Ruled (cells_of S) (λ k. Marker R.segments k × (k ≢ y)) (dropped y R.cells)
  dropped-good = dropped-ruled (cells_of S) (Marker R.segments) (λ k. Marker R.segments k × (k ≢ y)) y R.cells G.ruled (λ k m n. (m, n))

  module _ (h : S.height ≤ 6) (F : Forecast) where
    -- a forecast with the cells of either fits
    pub fitting-noted : used_cells F ≡ noted (cells_of S) (predecessor y R.segments) (home y R.segments) R.cells → Fitting F
    fitting-noted e = fitting-ruled (cells_of S) (Marker R.segments) F (omega arith) (subst (Ruled (cells_of S) (Marker R.segments)) (sym e) noted-good)

    pub fitting-dropped : used_cells F ≡ dropped y R.cells → Fitting F
    fitting-dropped e =
        fitting-ruled (cells_of S) (λ k. Marker R.segments k × (k ≢ y)) F (omega arith)
        (subst (Ruled (cells_of S) (λ k. Marker R.segments k × (k ≢ y))) (sym e) dropped-good)
