-- The counts of a plan written in the table, with the sums over them: what making the sums asks, and that the table is right again.
use mathlib.Core.Path.{◌≡◌, refl, sym, ap, ◌∙◌}
use mathlib.Core.List.{List, ◌++◌, map}
use Prim.Native.Nat.{ℕ, ◌+◌, ◌-◌, ◌/◌, ◌^◌, ◌≤◌}
use native.Mathlib.Omega.{arith}
use lib.ListN.{length, get_or, take, length-map}
use borrow.Rule.Slice.PartMut.{put_mid, Post-is}
use Rattle.lists.specs.Lists.{splice}
use Rattle.lists.proofs.Maps.{length-splice}
use Rattle.slots.specs.Segments.{Segments}
use Rattle.levels.specs.Tables.{table_of}
use Rattle.levels.proofs.Tables.{length-table}
use Rattle.tables.specs.Kept.{Loose}
use Rattle.tables.specs.Tree.{SumsBut}
use Rattle.tables.proofs.Spliced.{spliced-sums, spliced-counts, spliced-loose}
use Rattle.seats.specs.Bounds.{Indexed}
use Rattle.seats.proofs.Indexes.{table-many}

-- a plan copied over its places
pub copied : (first : ℕ) (table plan new : List ℕ) → new ≡ plan → put_mid first (first + length plan - first) table new ≡ splice first (length plan) plan table
copied first table plan new e =
    rw e (ap (λ (t : List ℕ). take first table ++ (plan ++ t)) (Post-is first (first + length plan) table (omega arith)))

module _ (first : ℕ) (table plan kept : List ℕ) (some : 1 ≤ length plan) (is : kept ≡ splice first (length plan) plan table) where
  pub recount-asks : {ss : Segments} {slots bounds : List ℕ} → Indexed ss slots bounds table → first + length plan ≤ length ss → ((k : ℕ) → get_or plan k 0 ≤ 64)
      → Loose (length table / 2 + 1) kept
  recount-asks {ss} ix fits small =
      let n : length table / 2 + 1 ≡ 2 ^ ix.height = table-many ix ∙ ix.size in
      rw n (spliced-loose ix.height ss ix.size first (length plan) plan kept refl some (omega (arith, ix.size)) (is ∙ ap (splice first (length plan) plan) ix.right) ix.low ix.shows.fits
      (λ k. omega (arith, small k)))

  -- the table of the segments with the window anew
  pub recounted : (h : ℕ) (ss window : Segments) (last : List ℕ) → length ss ≡ 2 ^ h → table ≡ table_of h ss → first + length plan ≤ length table / 2 + 1 → map length window ≡ plan
      → ((h : ℕ) (zs : Segments) → length table / 2 + 1 ≡ 2 ^ h → length zs ≡ length table / 2 + 1 → SumsBut (length table / 2 + 1) first (first + length plan - 1) kept
      → take (length table / 2 + 1) kept ≡ map length zs → last ≡ table_of h zs) → last ≡ table_of h (splice first (length plan) window ss)
  recounted h ss window last size right fits counts promise =
      promise h (splice first (length plan) window ss) n (length-splice first (length plan) window ss long (omega (arith, n)) ∙ size ∙ sym n)
      (rw n (spliced-sums h ss size first (length plan) plan kept refl some (omega (arith, n)) over))
      (rw n (spliced-counts h ss size first (length plan) plan kept refl some (omega (arith, n)) over window (sym counts)))
    where
      n : length table / 2 + 1 ≡ 2 ^ h
      n = omega (arith, ap length right, length-table h ss size)

      long : length window ≡ length plan
      long = sym (length-map window length) ∙ ap length counts

      over : kept ≡ splice first (length plan) plan (table_of h ss)
      over = is ∙ ap (splice first (length plan) plan) right
