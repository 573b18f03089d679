-- The rule that a forecast's cells keep: few, counts in range, markers live and apart. And what it takes to keep it.
use mathlib.Core.Path.{◌≡◌, sym, ap, ◌∙◌, subst}
use mathlib.Core.List.{List}
use Prim.Native.Nat.{ℕ, ◌≤◌, ◌<◌}
use native.Mathlib.Nat.{le_trans}
use lib.ListN.{length, get_or}
use Rattle.lists.specs.Lists.{All}
use Rattle.lists.proofs.Members.{mem-at, at_mem}
use Rattle.cells.specs.declared.Cell.{Cell}
use Rattle.cells.specs.Cells.{zero_cell}

-- the marker at a place
abbrev pub marker_at : List Cell → ℕ → ℕ
marker_at cs i = (get_or cs i zero_cell).marker

-- no two places have one marker
abbrev pub Apart : List Cell → Type 0
Apart cs = (i j : ℕ) → i < length cs → j < length cs → marker_at cs i ≡ marker_at cs j → i ≡ j

-- a count from 1 to P
abbrev pub Counted : ℕ → Cell → Type 0
Counted P c = (1 ≤ c.count) × (c.count ≤ P)

-- at most P cells, each with a count from 1 to P and a marker that is live, as L says; markers differ
pub record Ruled (P : ℕ) (L : ℕ → Type 0) (cs : List Cell) : Type 0 where
  pub few : length cs ≤ P
  pub counts : All (Counted P) cs
  pub live : All (λ c. L c.marker) cs
  pub apart : Apart cs

-- each cell names its marker's segment
abbrev pub Placed : (ℕ → ℕ) → List Cell → Type 0
Placed place cs = All (λ c. c.segment ≡ place c.marker) cs

-- what is live may grow
pub wider : (P : ℕ) (L L' : ℕ → Type 0) (cs : List Cell) → Ruled P L cs → ((k : ℕ) → L k → L' k) → Ruled P L' cs
wider P L L' cs R f = record { few = R.few; counts = R.counts; live = λ c m. f c.marker (R.live c m); apart = R.apart }

-- the cells ds have their markers from places of cs, each from one of its own
pub record From (ds cs : List Cell) : Type 0 where
  pub fewer : length ds ≤ length cs
  pub origin : ℕ → ℕ
  pub inside : (k : ℕ) → k < length ds → origin k < length cs
  pub same : (k : ℕ) → k < length ds → marker_at ds k ≡ marker_at cs (origin k)
  pub one : (k l : ℕ) → origin k ≡ origin l → k ≡ l

-- then they keep the rule, if their counts are in range
pub ruled-from : (P : ℕ) (L : ℕ → Type 0) (ds cs : List Cell) → From ds cs → Ruled P L cs → All (Counted P) ds → Ruled P L ds
ruled-from P L ds cs f R n = record {
  few = le_trans f.fewer R.few;
  counts = n;
  live = λ c m. at c (mem-at c ds zero_cell m);
  apart = λ i j h k e. f.one i j (R.apart (f.origin i) (f.origin j) (f.inside i h) (f.inside j k) (sym (f.same i h) ∙ e ∙ f.same j k));
}
  where
    at : (c : Cell) → (t : ℕ) × (t < length ds) × (get_or ds t zero_cell ≡ c) → L c.marker
    at c (t, h, e) =
        subst L (sym (f.same t h) ∙ ap (λ (d : Cell). d.marker) e) (R.live (get_or cs (f.origin t) zero_cell) (at_mem cs (f.origin t) zero_cell (f.inside t h)))
