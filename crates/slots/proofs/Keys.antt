-- Where keys stand: membership, the predecessor, the segment of a key, and the keys before and after it.
use mathlib.Core.Path.{◌≡◌, refl, sym, ap, ap₂, ◌∙◌, subst}
use mathlib.Core.Bool.{Bool, true, false, not}
use mathlib.Core.Logic.{◌⊎◌, inl, inr, ◌≢◌}
use mathlib.Core.List.{List, [], ◌∷◌, ◌++◌}
use mathlib.Core.List.Memᴰ.{cases_cons as mem-cases}
use mathlib.Core.List.Memᴰ.{head as here}
use mathlib.Core.List.Memᴰ.{not-nil as nowhere}
use mathlib.Core.List.Memᴰ.{tail as there}
use mathlib.Core.List.{Memᴰ as Mem}
use mathlib.Core.List.Memᴰ
use mathlib.Core.List.Memᴰ.{append_cases as in_either}
use mathlib.Core.List.Memᴰ.{append_left as in_left}
use mathlib.Core.List.Memᴰ.{append_right as in_right}
use Prim.Native.Nat.{ℕ, suc, ◌+◌, ◌≤◌, ◌<◌}
use native.Mathlib.Nat.{lt_trans, ne_of_gt}
use native.Mathlib.Decide.{dec_lt}
use native.Mathlib.Omega.{arith}
use lib.Dec.{T, T_not, ltb, eqb, ltb→lt, lt→ltb, nltb→le, eqb→eq, eqb_refl}
use borrow.Author.Tests.{ne_eqb}
use lib.ListN.{length, take, drop, get_or, set, take-append-drop}
use lib.Seq.{split_at, set_split, drop-drop}
use Rattle.std.proofs.Common.{if◌then◌else◌}
use Rattle.lists.specs.Lists.{All, joined, splice}
use Rattle.lists.specs.Search.{place_by}
use Rattle.lists.proofs.Tests.{either}
use Rattle.lists.proofs.Filtered.{mem-only, any_some, some-any}
use Rattle.lists.proofs.Joined.{joined-append}
use Rattle.lists.proofs.Search.{place-mem, place-passes}
use Rattle.slots.specs.Segments.{Segments, keys}
use Rattle.slots.specs.Keys.{Rising, Listed, member, below, put, cut, largest, predecessor, segment_of}
use Rattle.slots.proofs.Rising.{rising-left, rising-right, rising-across, below-mem, put-parts, cut_parts}

-- a test of membership
pub member→mem : (y : ℕ) (xs : List ℕ) → T (member y xs) → Mem y xs
member→mem y xs t =
    let a : (x : ℕ) × Mem x xs × T (eqb y x) = any_some (eqb y) xs t in
    Memᴰ.cast (eqb→eq y a.0 a.2) a.1

pub mem→member : (y : ℕ) (xs : List ℕ) → Mem y xs → T (member y xs)
mem→member y xs m = some-any (eqb y) xs y m (eqb_refl y)

pub not-member : (y : ℕ) (xs : List ℕ) → T (not (member y xs)) → All (λ k. k ≢ y) xs
not-member y xs t k m e = T_not (member y xs) t (mem→member y xs (Memᴰ.cast (sym e) m))

-- the largest
pub le-largest : (xs : List ℕ) → All (λ k. k ≤ largest xs) xs
le-largest [] k m = absurd (nowhere m)
le-largest (x ∷ xs) k m = go (ltb x (largest xs)) (ltb→lt x (largest xs)) (nltb→le x (largest xs)) (elim (mem-cases m) [ inl e ↦ inl e | inr n ↦ inr (le-largest xs k n) ])
  where
    go : (b : Bool) → (T b → x < largest xs) → (T (not b) → largest xs ≤ x) → (k ≡ x) ⊎ (k ≤ largest xs) → k ≤ (if b then largest xs else x)
    go true p q (inl e) = omega (arith, p tt)
    go true p q (inr n) = n
    go false p q (inl e) = omega arith
    go false p q (inr n) = omega (arith, q tt)

pub largest-mem : (xs : List ℕ) → (largest xs ≡ 0) ⊎ Mem (largest xs) xs
largest-mem [] = inl refl
largest-mem (x ∷ xs) = either (λ (z : ℕ). (z ≡ 0) ⊎ Mem z (x ∷ xs)) (ltb x (largest xs)) (elim (largest-mem xs) [ inl e ↦ inl e | inr m ↦ inr (there m) ]) (inr (here refl))

-- PREDECESSOR: the largest live key below y, or 0
pub pred-mem : (y : ℕ) (ss : Segments) → (predecessor y ss ≡ 0) ⊎ ((predecessor y ss < y) × Mem (predecessor y ss) (keys ss))
unfolding predecessor
pred-mem y ss = elim (largest-mem (below y (keys ss))) [ inl e ↦ inl e | inr m ↦ inr (below-mem y (keys ss) (predecessor y ss) m) ]

pub pred-most : (y : ℕ) (ss : Segments) → All (λ k. k < y → k ≤ predecessor y ss) (keys ss)
unfolding predecessor
pred-most y ss k m h = le-largest (below y (keys ss)) k (mem-only (λ k. ltb k y) (keys ss) k m (lt→ltb k y h))

-- THE SEGMENT of a key
pub segment-front : (ss : Segments) → segment_of ss 0 ≡ 0
unfolding segment_of
segment-front ss = refl

pub segment-place : (ss : Segments) (x : ℕ) → 0 < x → segment_of ss x ≡ place_by (member x) ss
unfolding segment_of
segment-place ss x h = rw (ne_eqb x 0 (ne_of_gt h))

in_some : (ss : Segments) (x : ℕ) → Mem x (keys ss) → (s : List ℕ) × Mem s ss × Mem x s
in_some [] x m = absurd (nowhere m)
in_some (s ∷ ss) x m =
    elim (in_either s m) [
      | inl n ↦ (s, here refl, n)
      | inr n ↦ ((in_some ss x n).0, there (in_some ss x n).1, (in_some ss x n).2)
    ]

pub segment-mem : (ss : Segments) (x : ℕ) → 0 < x → Mem x (keys ss) → (segment_of ss x < length ss) × Mem x (get_or ss (segment_of ss x) [])
segment-mem ss x h m = rw (segment-place ss x h) (l, member→mem x (get_or ss (place_by (member x) ss) []) (place-passes (member x) ss [] l))
  where
    a : (s : List ℕ) × Mem s ss × Mem x s
    a = in_some ss x m

    l : place_by (member x) ss < length ss
    l = place-mem (member x) ss a.0 a.1 (mem→member x a.0 a.2)

-- the keys before segment s, in it and after it
pub keys-parts : (ss : Segments) (s : ℕ) → s < length ss → keys ss ≡ keys (take s ss) ++ (get_or ss s [] ++ keys (drop (suc s) ss))
keys-parts ss s h = ap (joined {A = ℕ}) (split_at ss s [] h) ∙ joined-append (take s ss) (get_or ss s [] ∷ drop (suc s) ss)

pub keys-set : (ss : Segments) (s : ℕ) (new : List ℕ) → s < length ss → keys (set ss s new) ≡ keys (take s ss) ++ (new ++ keys (drop (suc s) ss))
keys-set ss s new h = ap (joined {A = ℕ}) (set_split ss s new h) ∙ joined-append (take s ss) (new ∷ drop (suc s) ss)

-- the keys of a segment, in the list
pub in-part : (ss : Segments) (s : ℕ) → s < length ss → (k : ℕ) → Mem k (get_or ss s []) → Mem k (keys ss)
in-part ss s h k m = subst (Mem k) (sym (keys-parts ss s h)) (in_right (keys (take s ss)) (in_left (keys (drop (suc s) ss)) m))

pub rising_part : (ss : Segments) (s : ℕ) → s < length ss → Rising (keys ss) → Rising (get_or ss s [])
rising_part ss s h g =
    rising-left (get_or ss s []) (keys (drop (suc s) ss)) (rising-right (keys (take s ss)) (get_or ss s [] ++ keys (drop (suc s) ss)) (rw (keys-parts ss s h) at g))

-- every key before segment s is below y, and every key after it is above
abbrev pub Between : ℕ → Segments → ℕ → Type 0
Between y ss s = (s < length ss) × All (λ k. k < y) (keys (take s ss)) × All (λ k. y < k) (keys (drop (suc s) ss))

-- so a key of a segment stands, and a live key in its segment
pub key-between : (ss : Segments) (s x : ℕ) → Rising (keys ss) → s < length ss → Mem x (get_or ss s []) → Between x ss s
key-between ss s x r h i =
    (h, λ k n. rising-across _ _ r' k n x (in_left _ i), λ k n. rising-across _ _ (rising-right (keys (take s ss)) (get_or ss s [] ++ keys (drop (suc s) ss)) r') x i k n)
  where
    r' : Rising (keys (take s ss) ++ (get_or ss s [] ++ keys (drop (suc s) ss)))
    r' = rw (keys-parts ss s h) at r

pub live-between : (y : ℕ) (ss : Segments) → Listed ss → Mem y (keys ss) → Between y ss (segment_of ss y)
live-between y ss g m = let i = segment-mem ss y (g.live y m) m in key-between ss (segment_of ss y) y g.rising i.0 i.1

-- a stretch of segments exchanged for one with the same keys
pub keys-splice : (i n : ℕ) (new ss : Segments) → keys new ≡ keys (take n (drop i ss)) → keys (splice i n new ss) ≡ keys ss
keys-splice i n new ss e =
    joined-append (take i ss) (new ++ drop (i + n) ss)
    ∙ ap {B = List ℕ} (λ r. keys (take i ss) ++ r)
    (joined-append new (drop (i + n) ss) ∙ ap₂ {C = List ℕ} ◌++◌ e (ap keys (sym (drop-drop n i ss))) ∙ sym (joined-append (take n (drop i ss)) (drop n (drop i ss)))
    ∙ ap keys (take-append-drop n (drop i ss)))
    ∙ sym (joined-append (take i ss) (drop i ss)) ∙ ap keys (take-append-drop i ss)

-- the keys of its first segments, and of the others
pub keys-take : (n : ℕ) (ss : Segments) (k : ℕ) → Mem k (keys (take n ss)) → Mem k (keys ss)
keys-take n ss k m = subst (Mem k) (sym (joined-append (take n ss) (drop n ss)) ∙ ap keys (take-append-drop n ss)) (in_left (keys (drop n ss)) m)

pub keys-drop : (n : ℕ) (ss : Segments) (k : ℕ) → Mem k (keys (drop n ss)) → Mem k (keys ss)
keys-drop n ss k m = subst (Mem k) (sym (joined-append (take n ss) (drop n ss)) ∙ ap keys (take-append-drop n ss)) (in_right (keys (take n ss)) m)

beyond : (k x y : ℕ) → (k < y → k ≤ x) → x < k → k ≢ y → y < k
beyond k x y h p n = elim (dec_lt k y) [ yes q ↦ absurd (omega (arith, h q)) | no q ↦ omega arith ]

-- and so a new key, after its predecessor
pub home-between : (y : ℕ) (ss : Segments) → Listed ss → 0 < length ss → All (λ k. k ≢ y) (keys ss) → Between y ss (segment_of ss (predecessor y ss))
home-between y ss g h n = go (predecessor y ss) (pred-mem y ss) (pred-most y ss)
  where
    go : (x : ℕ) → (x ≡ 0) ⊎ ((x < y) × Mem x (keys ss)) → All (λ k. k < y → k ≤ x) (keys ss) → Between y ss (segment_of ss x)
    go x (inl e) most = rw (ap (segment_of ss) e ∙ segment-front ss) (h, (λ k m. absurd (nowhere m)), λ k m. beyond k x y (most k (keys-drop 1 ss k m)) (omega (arith, g.live k (keys-drop 1 ss k m))) (n k (keys-drop 1 ss k m)))
    go x (inr q) most = (
      b.0,
      λ k m. lt_trans (b.1 k m) q.0,
      λ k m. beyond k x y (most k (keys-drop (suc (segment_of ss x)) ss k m)) (b.2 k m) (n k (keys-drop (suc (segment_of ss x)) ss k m)),
    )
      where
        b : Between x ss (segment_of ss x)
        b = live-between x ss g q.1

-- the keys with y put in, or taken out, of one segment
pub keys-put : (y : ℕ) (ss : Segments) (s : ℕ) → Between y ss s → keys (set ss s (put y (get_or ss s []))) ≡ put y (keys ss)
keys-put y ss s b =
    keys-set ss s (put y (get_or ss s [])) b.0 ∙ sym (put-parts y (keys (take s ss)) (get_or ss s []) (keys (drop (suc s) ss)) b.1 b.2)
    ∙ ap (put y) (sym (keys-parts ss s b.0))

pub keys-cut : (y : ℕ) (ss : Segments) (s : ℕ) → Between y ss s → keys (set ss s (cut y (get_or ss s []))) ≡ cut y (keys ss)
keys-cut y ss s b =
    keys-set ss s (cut y (get_or ss s [])) b.0 ∙ sym (cut_parts y (keys (take s ss)) (get_or ss s []) (keys (drop (suc s) ss)) b.1 b.2)
    ∙ ap (cut y) (sym (keys-parts ss s b.0))
