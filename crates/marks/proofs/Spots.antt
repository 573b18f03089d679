-- Sums of weights over rising keys: one key's weight, weights added, and a weight put among marks.
use Rattle.std.proofs.Common.{◌≡◌, ℕ, zero, suc, ◌+◌, ◌<◌, ◌≤◌, Bool, true, false, eqb, ltb, leb, ◌≢◌, List, [], ◌∷◌, map, length, get_or, take, sym, refl, inl, inr, arith, le-ltb, lt-ltb, eq-eqb, ne_eqb, leb-false, leb-true, if◌then◌else◌}
use mathlib.Core.List.Memᴰ.{cases_cons as mem-cases}
use mathlib.Core.List.Memᴰ.{head as here}
use mathlib.Core.List.Memᴰ.{not-nil as nowhere}
use mathlib.Core.List.Memᴰ.{tail as there}
use native.Mathlib.Decide.{dec_lt}
use Rattle.lists.specs.Lists.{All, total, insert_at}
use Rattle.lists.specs.Search.{place_by}
use Rattle.lists.proofs.Members.{at_mem}
use Rattle.lists.proofs.Inserted.{all_inserted}
use Rattle.slots.specs.Keys.{Rising}
use Rattle.stretches.specs.Marks.{weight_below}

-- w for the key y, and 0 for any other
abbrev pub only_at : ℕ → ℕ → ℕ → ℕ
only_at y w x = if eqb y x then w else 0

-- THE SUM of added weights is the sum of the sums
pub total-added : (h f g : ℕ → ℕ) → ((x : ℕ) → h x ≡ f x + g x) → (t : ℕ) (ks : List ℕ) → total (take t (map h ks)) ≡ total (take t (map f ks)) + total (take t (map g ks))
total-added h f g e zero ks = refl
total-added h f g e (suc t) [] = refl
total-added h f g e (suc t) (k ∷ ks) = omega (arith, e k, total-added h f g e t ks)

pub total-zero : (f : ℕ → ℕ) (ks : List ℕ) → All (λ k. f k ≡ 0) ks → (t : ℕ) → total (take t (map f ks)) ≡ 0
total-zero f ks h zero = refl
total-zero f [] h (suc t) = refl
total-zero f (k ∷ ks) h (suc t) = omega (arith, h k (here refl), total-zero f ks (λ x m. h x (there m)) t)

-- one key that is not there, and one that stands at place p
pub absent-sum : (y w : ℕ) (ks : List ℕ) → All (λ k. k ≢ y) ks → (t : ℕ) → total (take t (map (only_at y w) ks)) ≡ 0
absent-sum y w ks h = total-zero (only_at y w) ks (λ k m. rw (ne_eqb y k (λ e. h k m (sym e))) refl)

pub present-sum : (y w : ℕ) (ks : List ℕ) → Rising ks → (p : ℕ) → p < length ks → get_or ks p 0 ≡ y → (t : ℕ) → total (take t (map (only_at y w) ks)) ≡ (if ltb p t then w else 0)
present-sum y w ks r p h e zero = rw (le-ltb p 0 (omega arith)) refl
present-sum y w [] r p h e (suc t) = absurd (omega arith)
present-sum y w (x ∷ xs) r zero h e (suc t) =
    rw (eq-eqb y x (sym e), lt-ltb 0 (suc t) (omega arith), absent-sum y w xs (λ k m. omega (arith, r.0 k m)) t) (omega arith)
present-sum y w (x ∷ xs) r (suc p) h e (suc t) =
    rw (ne_eqb y x (omega (arith, r.0 (get_or xs p 0) (at_mem xs p 0 (omega arith)))), present-sum y w xs r.1 p (omega arith) e t)
    (elim (dec_lt p t) [
      | yes k ↦ rw (lt-ltb p t k, lt-ltb (suc p) (suc t) (omega arith)) (omega arith)
      | no k ↦ rw (le-ltb p t (omega arith), le-ltb (suc p) (suc t) (omega arith)) refl
    ])

-- A MARK put among marks adds its weight
pub below-inserted : (k p w t : ℕ) (at ws : List ℕ) → length at ≡ length ws → k ≤ length at
    → weight_below (insert_at k p at) (insert_at k w ws) t ≡ (if ltb p t then w else 0) + weight_below at ws t
unfolding insert_at
below-inserted zero p w t at ws e h = refl
below-inserted (suc k) p w t [] ws e h = absurd (omega arith)
below-inserted (suc k) p w t (a ∷ at) [] e h = absurd (omega arith)
below-inserted (suc k) p w t (a ∷ at) (b ∷ ws) e h = omega (arith, below-inserted k p w t at ws (omega arith) (omega arith))

-- and goes where the places keep rising
pub rising-inserted : (p : ℕ) (at : List ℕ) → Rising at → All (λ q. q ≢ p) at → Rising (insert_at (place_by (leb p) at) p at)
unfolding insert_at
rising-inserted p [] r n = (λ j m. absurd (nowhere m), tt)
rising-inserted p (a ∷ at) r n = go (leb p a) refl (rising-inserted p at r.1 (λ q m. n q (there m)))
  where
    go : (b : Bool) → leb p a ≡ b → Rising (insert_at (place_by (leb p) at) p at) → Rising (insert_at (if b then 0 else suc (place_by (leb p) at)) p (a ∷ at))
    go true e rec =
        let l : p < a = omega (arith, leb-true p a e, n a (here refl)) in
        (λ j m. elim (mem-cases m) [ inl q ↦ omega arith | inr q ↦ omega (arith, r.0 j q) ], r)
    go false e rec = (all_inserted p (λ j. a < j) (place_by (leb p) at) at (leb-false p a e) r.0, rec)
