-- The table of segments is the levels over their counts, and what follows from that.
use mathlib.Core.Path.{◌≡◌, refl, sym, ap, ap₂, ◌∙◌}
use mathlib.Core.List.Memᴰ.{head as here}
use mathlib.Core.List.Memᴰ.{tail as there}
use mathlib.Core.List.{List, [], ◌∷◌, ◌++◌, map, append-nil}
use Prim.Native.Nat.{ℕ, zero, suc, ◌+◌, ◌*◌, ◌^◌, ◌≤◌, ◌<◌}
use native.Mathlib.Nat.{pow-succ', pow-zero, pow-le-pow_right}
use native.Mathlib.Omega.{arith}
use lib.ListN.{length, get_or, set, take, drop, replicate, length-append, length-map, length-set, length-replicate, get_or-replicate, take-append-drop, get_or-map}
use lib.Seq.{take-add, drop-drop, ext_get_or}
use Rattle.lists.specs.Lists.{All, total, parts}
use Rattle.lists.proofs.Joined.{length-joined, joined-append}
use Rattle.lists.proofs.Maps.{map-set}
use Rattle.slots.specs.Segments.{Segments, keys}
use Rattle.slots.specs.Windows.{count}
use Rattle.slots.specs.Shown.{CountsOf}
use Rattle.slots.proofs.Windows.{pow_pos}
use Rattle.slots.proofs.Counts.{count-window}
use Rattle.slots.proofs.Tables.{counts-front}
use Rattle.slots.proofs.HeightLaws.{height-one}
use Rattle.levels.specs.Tables.{counts_of, counts_from, table_of, table_size, entry_at}
use Rattle.levels.specs.Levels.{paired, levels, entry_of}
use Rattle.levels.proofs.Levels.{levels-zero, levels-suc, first-levels, length-levels, no_more, levels-sum}
use Rattle.levels.proofs.Walks.{at-walk, changed, changed-levels}
use Rattle.levels.proofs.Entries.{entry-at, Met, met}

-- segments of at most 64 keys have at most 64 each in all
sizes-total : (ss : Segments) → All (λ s. length s ≤ 64) ss → total (map length ss) ≤ 64 * length ss
sizes-total [] a = omega arith
sizes-total (s ∷ ss) a = omega (arith, a s (here refl), sizes-total ss (λ t m. a t (there m)))

pub few-keys : (h : ℕ) (ss : Segments) → length ss ≡ 2 ^ h → h ≤ 6 → All (λ s. length s ≤ 64) ss → length (keys ss) ≤ 4096
few-keys h ss e q a = omega (arith, length-joined ss, sizes-total ss a, pow-le-pow_right {n = 2} (omega arith) {i = h} {j = 6} q)

-- the counts of a level are those of the level below, two and two
counts-paired : (l m : ℕ) (ss : Segments) → paired (counts_of l (2 * m) ss) ≡ counts_of (suc l) m ss
counts-paired l zero ss = refl
counts-paired l (suc m) ss =
    let e : 2 * suc m ≡ suc (suc (2 * m)) = omega arith in
    let d : 2 ^ l + 2 ^ l ≡ 2 ^ suc l = omega (arith, pow-succ' 2 l) in
    let a : Segments = take (2 ^ l) ss in
    let b : Segments = take (2 ^ l) (drop (2 ^ l) ss) in
    rw e
    (ap₂ {C = List ℕ} ◌∷◌
    (sym (length-append (keys a) (keys b)) ∙ ap length (sym (joined-append a b) ∙ ap keys (sym (take-add (2 ^ l) (2 ^ l) ss) ∙ ap (λ (n : ℕ). take n ss) d)))
    (counts-paired l m (drop (2 ^ l) (drop (2 ^ l) ss)) ∙ ap (counts_of (suc l) m) (drop-drop (2 ^ l) (2 ^ l) ss ∙ ap (λ (n : ℕ). drop n ss) d)))

ones : (n : ℕ) (ss : Segments) → length ss ≡ n → map (λ w. length (keys w)) (parts 1 n ss) ≡ map length ss
ones zero [] e = refl
ones zero (s ∷ ss) e = absurd (omega arith)
ones (suc n) [] e = absurd (omega arith)
ones (suc n) (s ∷ ss) e = ap₂ {C = List ℕ} ◌∷◌ (ap length (append-nil s)) (ones n ss (omega arith))

-- from level l on, k levels more
from-level : (k l : ℕ) (ss : Segments) → counts_from l k ss ≡ levels k (counts_of l (2 ^ k) ss)
from-level zero l ss = sym (levels-zero (counts_of l 1 ss) ∙ ap (λ (n : ℕ). counts_of l n ss) (sym (pow-zero 2)))
from-level (suc k) l ss =
    ap {B = List ℕ} (λ r. counts_of l (2 ^ suc k) ss ++ r)
    (from-level k (suc l) ss ∙ ap (levels k) (sym (counts-paired l (2 ^ k) ss) ∙ ap (λ (n : ℕ). paired (counts_of l n ss)) (sym (pow-succ' 2 k))))
    ∙ sym (levels-suc k (counts_of l (2 ^ suc k) ss))

pub table-levels : (h : ℕ) (ss : Segments) → length ss ≡ 2 ^ h → table_of h ss ≡ levels h (map length ss)
unfolding table_of
table-levels h ss e =
    from-level h 0 ss ∙ ap (levels h) (ap (λ (k : ℕ). map (λ w. length (keys w)) (parts k (2 ^ h) ss)) (pow-zero 2) ∙ ones (2 ^ h) ss e)

module _ (h : ℕ) (ss : Segments) (e : length ss ≡ 2 ^ h) where
  many : length (map length ss) ≡ 2 ^ h
  many = length-map ss length ∙ e

  -- 2^(h+1) − 1 entries
  pub length-table : length (table_of h ss) + 1 ≡ 2 * 2 ^ h
  length-table = rw (table-levels h ss e) (length-levels h (map length ss) many)

  pub table-long : length (table_of h ss) ≡ table_size h
  table-long = omega (arith, length-table, pow-succ' 2 h)

  -- level 0
  pub table-first : take (2 ^ h) (table_of h ss) ≡ map length ss
  table-first = rw (table-levels h ss e) (ap (λ (n : ℕ). take n (levels h (map length ss))) (sym many) ∙ first-levels h (map length ss))

  pub table-counts : CountsOf ss (table_of h ss)
  table-counts =
      counts-front ss (table_of h ss) (drop (2 ^ h) (table_of h ss))
      (sym (take-append-drop (2 ^ h) (table_of h ss)) ∙ ap {B = List ℕ} (λ l. l ++ drop (2 ^ h) (table_of h ss)) table-first)

  -- entry n + i is the sum of entries 2i and 2i + 1
  pub table-sum : (i : ℕ) → i + 1 < 2 ^ h → get_or (table_of h ss) (2 ^ h + i) 0 ≡ get_or (table_of h ss) (2 * i) 0 + get_or (table_of h ss) (2 * i + 1) 0
  table-sum = rw (table-levels h ss e) (levels-sum h (map length ss) many)

  -- the entry of the window of level l round segment s is its count
  pub table_is : (l s : ℕ) → l ≤ h → s < 2 ^ h → get_or (table_of h ss) (entry_of (2 ^ h) s l) 0 ≡ count l s ss
  table_is l s p k = rw (table-levels h ss e) (at-walk h l s (map length ss) p k many ∙ sym (count-window l s ss))

  pub table-entry : (l s : ℕ) → l ≤ h → s < 2 ^ h → get_or (table_of h ss) (entry_at h l s) 0 ≡ count l s ss
  table-entry l s p k = ap (λ (i : ℕ). get_or (table_of h ss) i 0) (sym (entry-at h l s p)) ∙ table_is l s p k

  -- no entry passes the number of keys
  pub table-most : (k : ℕ) → get_or (table_of h ss) k 0 ≤ length (keys ss)
  table-most k = rw (table-levels h ss e, length-joined ss) (no_more h (map length ss) k)

-- a table of that length with these entries is the table
pub table-by-entries : (h : ℕ) (ss : Segments) (t : List ℕ) → length ss ≡ 2 ^ h → length t ≡ table_size h
    → ((l s : ℕ) → l ≤ h → s < 2 ^ h → get_or t (entry_at h l s) 0 ≡ count l s ss) → t ≡ table_of h ss
table-by-entries h ss t e n is =
    ext_get_or 0 t (table_of h ss) (n ∙ sym (table-long h ss e)) (λ k b. at k (met h k (omega (arith, pow-succ' 2 h, pow_pos h))))
  where
    at : (k : ℕ) → Met h k → get_or t k 0 ≡ get_or (table_of h ss) k 0
    at k m =
        let d : entry_at h m.level m.segment ≡ k = sym (entry-at h m.level m.segment m.most) ∙ m.there in
        ap (λ (i : ℕ). get_or t i 0) (sym d)
        ∙ is m.level m.segment m.most m.inside ∙ sym (table-entry h ss e m.level m.segment m.most m.inside)
        ∙ ap (λ (i : ℕ). get_or (table_of h ss) i 0) d

-- empty segments
pub no_keys : (n : ℕ) → keys (replicate n []) ≡ []
no_keys zero = refl
no_keys (suc n) = no_keys n

pub table_empty : (h : ℕ) → table_of h (replicate (2 ^ h) []) ≡ replicate (table_size h) 0
table_empty h =
    ext_get_or 0 (table_of h ss) (replicate (table_size h) 0) (table-long h ss e ∙ sym (length-replicate (table_size h) 0))
    (λ i b. let z : get_or (table_of h ss) i 0 ≡ 0 = omega (arith, table-most h ss e i, ap length (no_keys (2 ^ h))) in
    z ∙ sym (get_or-replicate (table_size h) i 0 0 (omega (arith, table-long h ss e))))
  where
    ss : Segments
    ss = replicate (2 ^ h) []

    e : length ss ≡ 2 ^ h
    e = length-replicate (2 ^ h) []

pub same-height : (n a b : ℕ) → n ≡ 2 ^ a → n ≡ 2 ^ b → a ≡ b
same-height n a b p q = height-one (64 * n) a b (ap (λ (m : ℕ). 64 * m) p) (ap (λ (m : ℕ). 64 * m) q)

-- a segment changed, and each entry of its walk with it
pub table-changed : (f : ℕ → ℕ) (h H n s : ℕ) (ss : Segments) (new t t' : List ℕ) → n ≡ 2 ^ H → n ≡ 2 ^ h → s < n → length ss ≡ n → t ≡ table_of h ss → length new ≡ f (length (get_or ss s []))
    → ((b : ℕ) → f (length (get_or ss s []) + b) ≡ f (length (get_or ss s [])) + b) → t' ≡ changed f n s (suc H) t → t' ≡ table_of h (set ss s new)
table-changed f h H n s ss new t t' p q k e r v g w =
    let same : H ≡ h = same-height n H h p q in
    let x : get_or (map length ss) s 0 ≡ length (get_or ss s []) = get_or-map length ss s [] in
    w ∙ ap₂ {C = List ℕ} (λ (m j : ℕ). changed f m s (suc j) t) q same ∙ ap (changed f (2 ^ h) s (suc h)) (r ∙ table-levels h ss (e ∙ q))
    ∙ changed-levels f h s (map length ss) (length-map ss length ∙ e ∙ q) (omega arith) (rw x g)
    ∙ ap (levels h) (ap (λ (m : ℕ). set (map length ss) s m) (ap f x ∙ sym v) ∙ sym (map-set length ss s new))
    ∙ sym (table-levels h (set ss s new) (length-set ss s new ∙ e ∙ q))
