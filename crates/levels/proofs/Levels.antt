-- The levels over n = 2^h counts: how many entries, entry n + i is the sum of entries 2i and 2i + 1, and no entry passes the total.
use mathlib.Core.Path.{◌≡◌, refl, sym, ap, ap₂, ◌∙◌}
use mathlib.Core.List.{List, [], ◌∷◌, ◌++◌}
use Prim.Native.Nat.{ℕ, zero, suc, ◌+◌, ◌-◌, ◌*◌, ◌^◌, ◌≤◌, ◌<◌}
use native.Mathlib.Nat.{pow-succ', pow-zero}
use native.Mathlib.Decide.{dec_lt}
use native.Mathlib.Omega.{arith}
use lib.ListN.{length, get_or, take, length-append, get_or-append}
use lib.Seq.{get_or-append-add, take-length, take_at}
use Rattle.lists.specs.Lists.{total}
use Rattle.levels.specs.Levels.{paired, levels}
use Rattle.levels.proofs.Pairs.{length-paired, at-paired, total-paired-le}

pub levels-zero : (ns : List ℕ) → levels 0 ns ≡ ns
unfolding levels
levels-zero ns = refl

pub levels-suc : (h : ℕ) (ns : List ℕ) → levels (suc h) ns ≡ ns ++ levels h (paired ns)
unfolding levels
levels-suc h ns = refl

-- an entry above the first level
pub at_second : (ns up : List ℕ) (n j k : ℕ) → length ns ≡ n → k ≡ n + j → get_or (ns ++ up) k 0 ≡ get_or up j 0
at_second ns up n j k e q = let d : k ≡ length ns + j = omega arith in rw d (get_or-append-add ns up j 0)

-- the first level
pub first-levels : (h : ℕ) (ns : List ℕ) → take (length ns) (levels h ns) ≡ ns
unfolding levels
first-levels zero ns = take-length ns
first-levels (suc h) ns = take_at ns (levels h (paired ns)) (length ns) refl

pub first-level : (h : ℕ) (ns : List ℕ) (i : ℕ) → i < length ns → get_or (levels h ns) i 0 ≡ get_or ns i 0
unfolding levels
first-level zero ns i h = refl
first-level (suc l) ns i h = get_or-append ns (levels l (paired ns)) 0 i h

pub length-levels : (h : ℕ) (ns : List ℕ) → length ns ≡ 2 ^ h → length (levels h ns) + 1 ≡ 2 * 2 ^ h
unfolding levels
length-levels zero ns e = omega (arith, pow-zero 2)
length-levels (suc h) ns e =
    let d : 2 ^ suc h ≡ 2 * 2 ^ h = pow-succ' 2 h in
    omega (arith, length-append ns (levels h (paired ns)), length-levels h (paired ns) (length-paired (2 ^ h) ns (e ∙ d)))

-- no entry passes the total
at_most : (ns : List ℕ) (k : ℕ) → get_or ns k 0 ≤ total ns
at_most [] k = omega arith
at_most (n ∷ ns) zero = omega arith
at_most (n ∷ ns) (suc k) = omega (arith, at_most ns k)

pub no_more : (h : ℕ) (ns : List ℕ) (k : ℕ) → get_or (levels h ns) k 0 ≤ total ns
unfolding levels
no_more zero ns k = at_most ns k
no_more (suc h) ns k = go (no_more h (paired ns))
  where
    go : ((j : ℕ) → get_or (levels h (paired ns)) j 0 ≤ total (paired ns)) → get_or (ns ++ levels h (paired ns)) k 0 ≤ total ns
    go ih =
        elim (dec_lt k (length ns)) [
          | yes l ↦ rw (get_or-append ns (levels h (paired ns)) 0 k l) (at_most ns k)
          | no l ↦ rw (at_second ns (levels h (paired ns)) (length ns) (k - length ns) k refl (omega arith)) (omega (arith, ih (k - length ns), total-paired-le ns))
        ]

-- the sums
pub levels-sum : (h : ℕ) (ns : List ℕ) → length ns ≡ 2 ^ h → (i : ℕ) → i + 1 < 2 ^ h
    → get_or (levels h ns) (2 ^ h + i) 0 ≡ get_or (levels h ns) (2 * i) 0 + get_or (levels h ns) (2 * i + 1) 0
unfolding levels
levels-sum zero ns e i k = absurd (omega (arith, pow-zero 2))
levels-sum (suc h) ns e i k = elim (dec_lt i (2 ^ h)) [ yes y ↦ low y | no n ↦ high (levels-sum h (paired ns)) (omega arith) ]
  where
    d : 2 ^ suc h ≡ 2 * 2 ^ h
    d = pow-succ' 2 h

    up : List ℕ
    up = levels h (paired ns)

    m : length (paired ns) ≡ 2 ^ h
    m = length-paired (2 ^ h) ns (e ∙ d)

    second : (j n : ℕ) → n ≡ 2 ^ suc h + j → get_or (ns ++ up) n 0 ≡ get_or up j 0
    second j n q = at_second ns up (2 ^ suc h) j n e q

    low : i < 2 ^ h → get_or (ns ++ up) (2 ^ suc h + i) 0 ≡ get_or (ns ++ up) (2 * i) 0 + get_or (ns ++ up) (2 * i + 1) 0
    low y =
        second i (2 ^ suc h + i) refl ∙ first-level h (paired ns) i (omega (arith, m)) ∙ at-paired ns i (omega (arith, e, d))
        ∙ ap₂ {C = ℕ} ◌+◌ (sym (get_or-append ns up 0 (2 * i) (omega arith))) (sym (get_or-append ns up 0 (2 * i + 1) (omega arith)))

    high : (length (paired ns) ≡ 2 ^ h → (j : ℕ) → j + 1 < 2 ^ h → get_or (levels h (paired ns)) (2 ^ h + j) 0 ≡ get_or (levels h (paired ns)) (2 * j) 0 + get_or (levels h (paired ns)) (2 * j + 1) 0)
        → 2 ^ h ≤ i → get_or (ns ++ up) (2 ^ suc h + i) 0 ≡ get_or (ns ++ up) (2 * i) 0 + get_or (ns ++ up) (2 * i + 1) 0
    high ih y =
        let q : i ≡ 2 ^ h + (i - 2 ^ h) = omega arith in
        second i (2 ^ suc h + i) refl ∙ ap (λ (t : ℕ). get_or up t 0) q ∙ ih m (i - 2 ^ h) (omega arith)
        ∙ ap₂ {C = ℕ} ◌+◌ (sym (second (2 * (i - 2 ^ h)) (2 * i) (omega arith))) (sym (second (2 * (i - 2 ^ h) + 1) (2 * i + 1) (omega arith)))
