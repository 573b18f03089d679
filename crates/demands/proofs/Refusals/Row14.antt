-- Row 14: a table is not the right one exactly where its length or a single entry is wrong.
use mathlib.Core.Path.{◌≡◌, sym, ap, subst, ◌∙◌}
use mathlib.Core.Bool.{not}
use mathlib.Core.Logic.{inl, inr, ◌≢◌}
use mathlib.Core.List.{List, [], ◌∷◌}
use Prim.Native.Nat.{ℕ, suc, ◌*◌, ◌^◌, ◌≤◌, ◌<◌}
use native.Mathlib.Nat.{pow-succ'}
use native.Mathlib.Omega.{arith}
use lib.Dec.{T, T_not, eqb, eqb→eq}
use lib.ListN.{length, get_or}
use Rattle.lists.proofs.Tests.{neqb→ne, double-not, tested, and_both}
use Rattle.slots.specs.Segments.{height_of, segments_of}
use Rattle.slots.proofs.HeightLaws.{height-one, height-cases}
use Rattle.slots.proofs.Render.{length-segments}
use Rattle.levels.specs.Tables.{table_of, table_size, entry_at, same}
use Rattle.levels.proofs.Same.{same→eq}
use Rattle.levels.proofs.Entries.{entry-at, Met, met}
use Rattle.levels.proofs.Tables.{table-long, table-entry}
use Rattle.levels.proofs.SlotCounts.{counts-slots}
use Rattle.rules.specs.Lent.{Lent, right_table}
use Rattle.demands.specs.Rows.{keys_in, WrongTable, wrong_size, wrong_entry, row14, row14_size}
use Rattle.demands.proofs.Refusals.RowsInOrder.{Decides}

-- two lists of one length that are not the same differ at a place
differ : (xs ys : List ℕ) → length xs ≡ length ys → T (not (same xs ys)) → (k : ℕ) × (k < length xs) × (get_or xs k 0 ≢ get_or ys k 0)
differ [] [] n t = absurd t
differ [] (y ∷ ys) n t = absurd (omega arith)
differ (x ∷ xs) [] n t = absurd (omega arith)
differ (x ∷ xs) (y ∷ ys) n t =
    go (differ xs ys (omega arith))
  where
    go : (T (not (same xs ys)) → (k : ℕ) × (k < length xs) × (get_or xs k 0 ≢ get_or ys k 0)) → (k : ℕ) × (k < suc (length xs)) × (get_or (x ∷ xs) k 0 ≢ get_or (y ∷ ys) k 0)
    go later =
        elim (tested (eqb x y)) [
          | inr d ↦ (0, omega arith, neqb→ne x y d)
          | inl e ↦ elim (tested (same xs ys)) [
            | inl s ↦ absurd (T_not (same (x ∷ xs) (y ∷ ys)) t (and_both (eqb x y) (same xs ys) e s))
            | inr d ↦ let r = later d in (suc r.0, omega (arith, r.1), r.2)
          ]
        ]

module _ (L : Lent) (h : ℕ) (number : length L.slots ≡ 64 * 2 ^ h) where
  right-entry : (l s : ℕ) → l ≤ h → s < 2 ^ h → get_or (table_of h (segments_of L.slots)) (entry_at h l s) 0 ≡ keys_in L.slots l s
  right-entry l s p k = table-entry h (segments_of L.slots) (length-segments L.slots (2 ^ h) number) l s p k ∙ counts-slots h L.slots number l s p k

  right-long : length (table_of h (segments_of L.slots)) ≡ table_size h
  right-long = table-long h (segments_of L.slots) (length-segments L.slots (2 ^ h) number)

  -- the right table has neither fault
  right-none : L.table ≡ table_of h (segments_of L.slots) → ¬ (WrongTable h L)
  right-none e (wrong_size n) = n (ap length e ∙ right-long)
  right-none e (wrong_entry l s p k n) = n (ap (λ (t : List ℕ). get_or t (entry_at h l s) 0) e ∙ right-entry l s p k)

  -- a place is an entry
  wrong-at : (k : ℕ) → get_or L.table k 0 ≢ get_or (table_of h (segments_of L.slots)) k 0 → Met h k → WrongTable h L
  wrong-at k n m =
      let d : entry_at h m.level m.segment ≡ k = sym (entry-at h m.level m.segment m.most) ∙ m.there in
      wrong_entry m.level m.segment m.most m.inside
      (λ e. n (ap (λ (i : ℕ). get_or L.table i 0) (sym d) ∙ e ∙ sym (right-entry m.level m.segment m.most m.inside) ∙ ap (λ (i : ℕ). get_or (table_of h (segments_of L.slots)) i 0) d))

  -- another table has one of them
  other-wrong : T (not (same L.table (table_of h (segments_of L.slots)))) → WrongTable h L
  other-wrong t =
      elim (tested (eqb (length L.table) (table_size h))) [
        | inr n ↦ wrong_size (neqb→ne (length L.table) (table_size h) n)
        | inl e ↦
            let n : length L.table ≡ table_size h = eqb→eq (length L.table) (table_size h) e in
            let d = differ L.table (table_of h (segments_of L.slots)) (n ∙ sym right-long) t in
            wrong-at d.0 d.2 (met h d.0 (omega (arith, d.1, n, pow-succ' 2 h)))
      ]

-- the height that the number of slots tells
abbrev own : Lent → ℕ
own L = height_of (length L.slots)

-- row 14, of slots of a lawful length
pub decides-14 : (L : Lent) → length L.slots ≡ 64 * 2 ^ height_of (length L.slots) → Decides (not (same L.table (right_table L.slots))) (row14 L)
decides-14 L number = (
  λ t. (own L, number, other-wrong L (own L) number t),
  λ t w. right-none L (own L) number (same→eq L.table (right_table L.slots) (double-not (same L.table (right_table L.slots)) t))
      (subst (λ (h : ℕ). WrongTable h L) (height-one (length L.slots) w.0 (own L) w.1 number) w.2),
)

-- and for a table to be filled
pub decides-14-size : (L : Lent) → T (not (eqb (height_of (length L.slots)) 0))
    → Decides (not (eqb (length L.table) (table_size (height_of (length L.slots))))) (row14_size L)
decides-14-size L n =
    elim (height-cases (length L.slots)) [
      | inl z ↦ absurd (neqb→ne _ _ n z.0)
      | inr z ↦ (
        λ t. (own L, z.2, neqb→ne (length L.table) (table_size (own L)) t),
        λ t w.
            w.2 (eqb→eq (length L.table) (table_size (own L)) (double-not (eqb (length L.table) (table_size (own L))) t)
            ∙ ap table_size (height-one (length L.slots) (own L) w.0 z.2 w.1)),
      )
    ]
