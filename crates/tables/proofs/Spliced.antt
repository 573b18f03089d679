-- A right table with a stretch of level 0 overwritten: what the sums that are to be made anew ask.
use mathlib.Core.Path.{◌≡◌, refl, sym, ap, ap₂, ◌∙◌}
use mathlib.Core.Logic.{◌⊎◌, inl, inr}
use mathlib.Core.List.{List, map}
use Prim.Native.Nat.{ℕ, ◌+◌, ◌-◌, ◌*◌, ◌^◌, ◌≤◌, ◌<◌}
use native.Mathlib.Nat.{pow-le-pow_right}
use native.Mathlib.Decide.{dec_lt}
use native.Mathlib.Omega.{arith}
use lib.ListN.{length, get_or, take}
use lib.Seq.{get_or-take, length-take-le, ext_get_or}
use Rattle.lists.specs.Lists.{All, splice}
use Rattle.lists.proofs.Maps.{map-splice, length-splice}
use Rattle.slots.specs.Segments.{Segments}
use Rattle.slots.proofs.Windows.{pow_pos}
use Rattle.slots.proofs.Tables.{splice-beside, splice-in}
use Rattle.levels.specs.Tables.{table_of}
use Rattle.levels.proofs.Tables.{few-keys, length-table, table-first, table-sum, table-most}
use Rattle.tables.specs.Kept.{Loose}
use Rattle.tables.specs.Tree.{SumsBut}

-- an entry of a list with a stretch exchanged: in it, or beside it
module _ (i m : ℕ) (new xs : List ℕ) (e : length new ≡ m) (h : i + m ≤ length xs) where
  splice_at : (k : ℕ) → i ≤ k → k < i + m → get_or (splice i m new xs) k 0 ≡ get_or new (k - i) 0
  splice_at k b d =
      let q : i + (k - i) ≡ k = omega arith in
      ap (λ (j : ℕ). get_or (splice i m new xs) j 0) (sym q) ∙ splice-in i m new xs 0 e h (k - i) (omega arith)

  place : (k : ℕ) → ((k < i) ⊎ (i + m ≤ k)) ⊎ ((i ≤ k) × (k < i + m))
  place k = elim (dec_lt k i) [ yes b ↦ inl (inl b) | no b ↦ elim (dec_lt k (i + m)) [ yes d ↦ inr (omega arith, d) | no d ↦ inl (inr (omega arith)) ] ]

  splice-small : (z : ℕ) → ((k : ℕ) → get_or new k 0 ≤ z) → ((k : ℕ) → get_or xs k 0 ≤ z) → (k : ℕ) → get_or (splice i m new xs) k 0 ≤ z
  splice-small z p q k =
      elim (place k) [
        | inl b ↦ omega (arith, splice-beside i m new xs 0 e h k b, q k)
        | inr b ↦ omega (arith, splice_at k b.0 b.1, p (k - i))
      ]

take-splice : (n i m : ℕ) (new xs : List ℕ) → length new ≡ m → i + m ≤ n → n ≤ length xs → take n (splice i m new xs) ≡ splice i m new (take n xs)
take-splice n i m new xs e h l =
    let h' : i + m ≤ length xs = omega arith in
    let s : length (take n xs) ≡ n = length-take-le n xs l in
    let h'' : i + m ≤ length (take n xs) = omega arith in
    let a : length (take n (splice i m new xs)) ≡ n = length-take-le n (splice i m new xs) (omega (arith, length-splice i m new xs e h')) in
    ext_get_or 0 (take n (splice i m new xs)) (splice i m new (take n xs)) (a ∙ sym (length-splice i m new (take n xs) e h'' ∙ s))
    (λ k b.
    let c : k < n = omega arith in
    get_or-take n (splice i m new xs) k 0 c
    ∙ elim (place i m new xs e h' k) [
      | inl d ↦ splice-beside i m new xs 0 e h' k d ∙ sym (splice-beside i m new (take n xs) 0 e h'' k d ∙ get_or-take n xs k 0 c)
      | inr d ↦ splice_at i m new xs e h' k d.0 d.1 ∙ sym (splice_at i m new (take n xs) e h'' k d.0 d.1)
    ])

module _ (h : ℕ) (old : Segments) (e : length old ≡ 2 ^ h) (first m : ℕ) (plan t : List ℕ) (long : length plan ≡ m) (some : 1 ≤ m) (fits : first + m ≤ 2 ^ h)
    (is : t ≡ splice first m plan (table_of h old)) where
  inside : first + m ≤ length (table_of h old)
  inside = omega (arith, length-table h old e, pow_pos h)

  beside : (k : ℕ) → (k < first) ⊎ (first + m ≤ k) → get_or t k 0 ≡ get_or (table_of h old) k 0
  beside k o = ap (λ (l : List ℕ). get_or l k 0) is ∙ splice-beside first m plan (table_of h old) 0 long inside k o

  -- entries that stand over none of them are right
  pub spliced-sums : SumsBut (2 ^ h) first (first + m - 1) t
  spliced-sums i q o = beside (2 ^ h + i) (inr (omega arith)) ∙ table-sum h old e i q ∙ sym (go o)
    where
      go : (2 * i + 1 < first) ⊎ (first + m - 1 < 2 * i) → get_or t (2 * i) 0 + get_or t (2 * i + 1) 0 ≡ get_or (table_of h old) (2 * i) 0 + get_or (table_of h old) (2 * i + 1) 0
      go (inl b) = ap₂ {C = ℕ} ◌+◌ (beside (2 * i) (inl (omega arith))) (beside (2 * i + 1) (inl b))
      go (inr b) = ap₂ {C = ℕ} ◌+◌ (beside (2 * i) (inr (omega arith))) (beside (2 * i + 1) (inr (omega arith)))

  -- level 0
  pub spliced-first : take (2 ^ h) t ≡ splice first m plan (map length old)
  spliced-first =
      ap (take (2 ^ h)) is ∙ take-splice (2 ^ h) first m plan (table_of h old) long fits (omega (arith, length-table h old e, pow_pos h))
      ∙ ap (splice first m plan) (table-first h old e)

  -- the counts of the segments that have come in, and of the others
  pub spliced-counts : (new : Segments) → plan ≡ map length new → take (2 ^ h) t ≡ map length (splice first m new old)
  spliced-counts new c = spliced-first ∙ ap (λ (l : List ℕ). splice first m l (map length old)) c ∙ sym (map-splice length first m new old)

  -- no entry is large
  pub spliced-loose : h ≤ 6 → All (λ s. length s ≤ 64) old → ((k : ℕ) → get_or plan k 0 ≤ 4096) → Loose (2 ^ h) t
  spliced-loose q a p = record {
    height = h;
    size = refl;
    low = pow-le-pow_right {n = 2} (omega arith) {i = h} {j = 6} q;
    long = ap (λ (l : List ℕ). length l + 1) is ∙ ap (λ (k : ℕ). k + 1) (length-splice first m plan (table_of h old) long inside) ∙ length-table h old e;
    small = rw is (splice-small first m plan (table_of h old) long inside 4096 p (λ k. omega (arith, table-most h old e k, few-keys h old e q a)));
  }
