-- The bounds of segments: each by its segment's first key and the next bound, and that they rise.
use mathlib.Core.Path.{◌≡◌, refl, sym, ap, ◌∙◌, subst}
use mathlib.Core.List.Memᴰ.{head as here}
use mathlib.Core.List.{List, [], ◌∷◌, ◌++◌}
use mathlib.Core.List.Memᴰ.{append_right as in_right}
use Prim.Native.Nat.{ℕ, zero, suc, ◌+◌, ◌-◌, ◌≤◌, ◌<◌}
use native.Mathlib.Nat.{ne_of_gt}
use native.Mathlib.Omega.{arith}
use borrow.Author.Tests.{ne_eqb}
use lib.ListN.{length, take, drop, get_or, take-append-drop, drop_of_length-le}
use lib.Seq.{drop-nil, drop-drop, ext_get_or}
use Rattle.lists.specs.Lists.{All}
use Rattle.lists.proofs.Joined.{joined-append}
use Rattle.slots.specs.Segments.{Segments, keys}
use Rattle.slots.specs.Keys.{Rising, Listed}
use Rattle.slots.proofs.Rising.{rising-right}
use Rattle.slots.proofs.Seats.{head}
use Rattle.seats.specs.Bounds.{top, first_bound, bound_at, bounds_from, bounds_of, bound_by, Bounded}

-- THE LIST OF THEM
long : (n : ℕ) (ss : Segments) → length (bounds_from n ss) ≡ n
long zero ss = refl
long (suc n) ss = ap suc (long n (drop 1 ss))

pub length-bounds : (ss : Segments) → length (bounds_of ss) ≡ 64
unfolding bounds_of
length-bounds ss = long 64 ss

from_at : (n : ℕ) (ss : Segments) (s d : ℕ) → s < n → get_or (bounds_from n ss) s d ≡ bound_at ss s
unfolding bound_at
from_at zero ss s d h = absurd (omega arith)
from_at (suc n) ss zero d h = refl
from_at (suc n) [] (suc s) d h = from_at n [] s d (omega arith) ∙ ap (λ (l : Segments). first_bound (keys l)) (drop-nil s)
from_at (suc n) (x ∷ ss) (suc s) d h = from_at n ss s d (omega arith)

pub bounds-at : (ss : Segments) (s d : ℕ) → s < 64 → get_or (bounds_of ss) s d ≡ bound_at ss s
unfolding bounds_of
bounds-at ss s d h = from_at 64 ss s d h

pub bounds-is : (ss : Segments) (bs : List ℕ) → length bs ≡ 64 → ((k : ℕ) → k < 64 → get_or bs k 0 ≡ bound_at ss k) → bs ≡ bounds_of ss
bounds-is ss bs e h = ext_get_or 0 bs (bounds_of ss) (e ∙ sym (length-bounds ss)) (λ k l. h k (omega arith) ∙ sym (bounds-at ss k 0 (omega arith)))

pub bounded_of : (ss : Segments) (bs : List ℕ) → bs ≡ bounds_of ss → Bounded 0 ss bs
bounded_of ss bs e = record { long = ap length e ∙ length-bounds ss; each = λ k l h. ap (λ (l : List ℕ). get_or l k 0) e ∙ bounds-at ss k 0 h }

pub bounded-is : (ss : Segments) (bs : List ℕ) → Bounded 0 ss bs → bs ≡ bounds_of ss
bounded-is ss bs b = bounds-is ss bs b.long (λ k h. b.each k (omega arith) h)

-- those from a later place on are some of them
pub bounded-from : (m n : ℕ) (ss : Segments) (bs : List ℕ) → m ≤ n → Bounded m ss bs → Bounded n ss bs
bounded-from m n ss bs l b = record { long = b.long; each = λ k p h. b.each k (omega arith) h }

-- EACH
-- past the segments
pub bound-past : (ss : Segments) (s : ℕ) → length ss ≤ s → bound_at ss s ≡ top
unfolding bound_at
bound-past ss s h = ap (λ (l : Segments). first_bound (keys l)) (drop_of_length-le ss h)

-- by the segment's first key, 0 for none, and the next
pub bound-step : (ss : Segments) (s : ℕ) → All (λ k. 0 < k) (keys ss) → bound_at ss s ≡ bound_by (head ss s) (bound_at ss (suc s))
unfolding bound_at
bound-step [] s h = ap (λ (l : Segments). first_bound (keys l)) (drop-nil s)
bound-step ([] ∷ ss) zero h = refl
bound-step ((k ∷ ks) ∷ ss) zero h = rw (ne_eqb k 0 (ne_of_gt (h k (here refl)))) refl
bound-step (x ∷ ss) (suc s) h = bound-step ss s (λ k m. h k (in_right x m))

-- an earlier one is below a key where a later one is
first-falls : (key : ℕ) (xs ys : List ℕ) → key ≤ top → Rising (xs ++ ys) → first_bound ys < key → first_bound (xs ++ ys) < key
first-falls key [] ys h r l = l
first-falls key (x ∷ xs) [] h r l = absurd (omega arith)
first-falls key (x ∷ xs) (y ∷ ys) h r l = omega (arith, r.0 y (in_right xs (here refl)))

pub bound-falls : (key : ℕ) (ss : Segments) → key ≤ top → Listed ss → (i j : ℕ) → i ≤ j → bound_at ss j < key → bound_at ss i < key
unfolding bound_at
bound-falls key ss h g i j l b = subst (λ (ks : List ℕ). first_bound ks < key) (sym parts) (first-falls key xs (keys (drop j ss)) h (rw parts at rises) b)
  where
    xs : List ℕ
    xs = keys (take (j - i) (drop i ss))

    e : i + (j - i) ≡ j
    e = omega arith

    parts : keys (drop i ss) ≡ xs ++ keys (drop j ss)
    parts =
        ap keys (sym (take-append-drop (j - i) (drop i ss))) ∙ joined-append (take (j - i) (drop i ss)) (drop (j - i) (drop i ss))
        ∙ ap {B = List ℕ} (λ r. xs ++ r) (ap keys (drop-drop (j - i) i ss ∙ ap (λ (n : ℕ). drop n ss) e))

    rises : Rising (keys (drop i ss))
    rises =
        rising-right (keys (take i ss)) (keys (drop i ss))
        (subst Rising (ap keys (sym (take-append-drop i ss)) ∙ joined-append (take i ss) (drop i ss)) g.rising)
