-- A right table is what the code asks for, and a table with the counts of the segments and every sum is right.
use mathlib.Core.Path.{◌≡◌, refl, sym, ap, ap₂, ◌∙◌}
use mathlib.Core.List.{List, map}
use Prim.Native.Nat.{ℕ, zero, suc, ◌+◌, ◌-◌, ◌*◌, ◌^◌, ◌≤◌, ◌<◌}
use native.Mathlib.Decide.{dec_lt}
use native.Mathlib.Omega.{arith}
use lib.ListN.{length, get_or, take}
use lib.Seq.{get_or-take, ext_get_or}
use Rattle.lists.specs.Lists.{All}
use Rattle.lists.proofs.Joined.{length-joined}
use Rattle.slots.specs.Segments.{Segments}
use Rattle.levels.specs.Tables.{table_of}
use Rattle.levels.specs.Levels.{levels}
use Rattle.levels.proofs.Tables.{few-keys, table-levels, length-table, table-first, table-sum}
use Rattle.tables.specs.Kept.{Summed}
use Rattle.tables.specs.Tree.{Sums}

pub table-summed : (h : ℕ) (ss : Segments) (t : List ℕ) → length ss ≡ 2 ^ h → h ≤ 6 → All (λ s. length s ≤ 64) ss → t ≡ table_of h ss → Summed (2 ^ h) t
table-summed h ss t e q a r =
    let first : take (2 ^ h) t ≡ map length ss = ap (take (2 ^ h)) r ∙ table-first h ss e in
    record {
      sized = record {
        height = h;
        size = refl;
        long = ap (λ (l : List ℕ). length l + 1) r ∙ length-table h ss e;
        few = rw (first, ← length-joined ss) (few-keys h ss e q a);
      };
      right = r ∙ table-levels h ss e ∙ ap (levels h) (sym first);
    }

module _ (h : ℕ) (ss : Segments) (n : ℕ) (p : n ≡ 2 ^ h) (e : length ss ≡ n) where
  pub sums-right : (t : List ℕ) → t ≡ table_of h ss → Sums n t
  sums-right t r = rw (p, r) (table-sum h ss (e ∙ p))

  module _ (t : List ℕ) (s : Sums n t) (f : take n t ≡ map length ss) where
    -- as far as they are written
    agree : (i : ℕ) → i < n → (k : ℕ) → k < n + i → get_or t k 0 ≡ get_or (table_of h ss) k 0
    agree zero q k l =
        sym (get_or-take n t k 0 (omega arith)) ∙ ap (λ (m : List ℕ). get_or m k 0) (f ∙ sym (ap (λ (m : ℕ). take m (table_of h ss)) p ∙ table-first h ss (e ∙ p)))
        ∙ get_or-take n (table_of h ss) k 0 (omega arith)
    agree (suc i) q k l = go (agree i (omega arith))
      where
        go : ((k : ℕ) → k < n + i → get_or t k 0 ≡ get_or (table_of h ss) k 0) → get_or t k 0 ≡ get_or (table_of h ss) k 0
        go ih =
            elim (dec_lt k (n + i)) [
              | yes b ↦ ih k b
              | no b ↦
                  let d : k ≡ n + i = omega arith in
                  ap (λ (j : ℕ). get_or t j 0) d ∙ s i (omega arith) ∙ ap₂ {C = ℕ} ◌+◌ (ih (2 * i) (omega arith)) (ih (2 * i + 1) (omega arith))
                  ∙ sym (sums-right (table_of h ss) refl i (omega arith)) ∙ ap (λ (j : ℕ). get_or (table_of h ss) j 0) (sym d)
            ]

    pub sums-table : length t + 1 ≡ 2 * n → t ≡ table_of h ss
    sums-table g =
        let d : length (table_of h ss) + 1 ≡ 2 * n = length-table h ss (e ∙ p) ∙ ap (λ (m : ℕ). 2 * m) (sym p) in
        ext_get_or 0 t (table_of h ss) (omega arith) (λ k l. reach k l)
      where
        reach : (k : ℕ) → k < length t → get_or t k 0 ≡ get_or (table_of h ss) k 0
        reach k l =
            elim (dec_lt k n) [
              | yes b ↦ agree 0 (omega arith) k (omega arith)
              | no b ↦ agree (k + 1 - n) (omega arith) k (omega arith)
            ]
