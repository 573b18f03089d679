-- Keys of a window gathered at its front, one segment at a time, and the totals of counts.
use mathlib.Core.Path.{◌≡◌, sym, ap, ◌∙◌, subst}
use Prim.Native.Nat.{ℕ, zero, suc, ◌+◌, ◌-◌, ◌*◌, ◌≤◌, ◌<◌}
use native.Mathlib.Nat.{not-suc-le-zero, le_of_suc-le-suc}
use native.Mathlib.Omega.{arith}
use mathlib.Core.List.{List, [], ◌∷◌, ◌++◌, append_assoc, append-nil}
use lib.ListN.{length, get_or, take, drop, length-append, length-take, length-drop}
use lib.Seq.{take_at, drop-drop, take-length}
use Rattle.lists.specs.Lists.{total}
use Rattle.lists.proofs.Joined.{total-suc}
use Rattle.moves.specs.Moves.{moved, gather}
use Rattle.moves.proofs.Fronts.{drop_past}

-- the totals of the first counts
pub total-bound : (cs : List ℕ) (s : ℕ) → ((k : ℕ) → get_or cs k 0 ≤ 64) → total (take s cs) ≤ 64 * s
total-bound cs zero fits = omega arith
total-bound [] (suc s) fits = omega arith
total-bound (c ∷ cs) (suc s) fits = omega (arith, fits 0, total-bound cs s (λ k. fits (suc k)))

-- segments of at most 64 keys hold no more than their slots
pub total-all : (cs : List ℕ) → ((k : ℕ) → get_or cs k 0 ≤ 64) → total cs ≤ 64 * length cs
total-all cs fits = subst (λ (t : List ℕ). total t ≤ 64 * length cs) (take-length cs) (total-bound cs (length cs) fits)

pub total-pred : (cs : List ℕ) (s : ℕ) → 0 < s → s ≤ length cs → total (take s cs) ≡ total (take (s - 1) cs) + get_or cs (s - 1) 0
total-pred cs s p h =
    let e : suc (s - 1) ≡ s = omega arith in
    ap (λ (n : ℕ). total (take n cs)) (sym e) ∙ total-suc cs (s - 1) (omega arith)

module _ {A : Type 0} where
  -- the keys of one segment more
  gather-suc : (cs : List ℕ) (s : ℕ) (l : List A) → s < length cs
      → gather (take (suc s) cs) l ≡ gather (take s cs) l ++ take (get_or cs s 0) (drop (64 * s) l)
  unfolding gather
  gather-suc [] s l h = absurd (not-suc-le-zero h)
  gather-suc (c ∷ cs) zero l h = append-nil (take c l)
  gather-suc (c ∷ cs) (suc s) l h =
      let e : 64 * suc s ≡ 64 + 64 * s = omega arith in
      ap (λ (t : List A). take c l ++ t) (gather-suc cs s (drop 64 l) (le_of_suc-le-suc h))
      ∙ ap (λ (t : List A). take c l ++ (gather (take s cs) (drop 64 l) ++ take (get_or cs s 0) t)) (drop-drop (64 * s) 64 l ∙ ap (λ (n : ℕ). drop n l) (sym e))
      ∙ sym (append_assoc (take c l) (gather (take s cs) (drop 64 l)) (take (get_or cs s 0) (drop (64 * suc s) l)))

  -- one segment's keys moved behind those that are packed
  packed-on : (cs : List ℕ) (l : List A) (s at : ℕ) → s < length cs → at ≤ 64 * s → length (gather (take s cs) l) ≡ at
      → moved (64 * s) at (get_or cs s 0) (gather (take s cs) l ++ drop at l) ≡ gather (take (suc s) cs) l ++ drop (at + get_or cs s 0) l
  packed-on cs l s at h k e =
      let g : List A = gather (take s cs) l in
      let w : List A = g ++ drop at l in
      let c : ℕ = get_or cs s 0 in
      ap (λ (t : List A). t ++ take c (drop (64 * s) w) ++ drop (at + c) w) (take_at g (drop at l) at e)
      ∙ ap (λ (t : List A). g ++ take c t ++ drop (at + c) w) (drop_past g l at (64 * s) e k)
      ∙ ap (λ (t : List A). g ++ take c (drop (64 * s) l) ++ t) (drop_past g l at (at + c) e (omega arith))
      ∙ ap (λ (t : List A). t ++ drop (at + c) l) (sym (gather-suc cs s l h))

  pub pack-step : (cs : List ℕ) (l w w' : List A) (s at : ℕ) → s < length cs → at ≤ 64 * s → length (gather (take s cs) l) ≡ at → w ≡ gather (take s cs) l ++ drop at l
      → w' ≡ moved (64 * s) at (get_or cs s 0) w → w' ≡ gather (take (suc s) cs) l ++ drop (at + get_or cs s 0) l
  pack-step cs l w w' s at h k e r r' = r' ∙ ap (moved (64 * s) at (get_or cs s 0)) r ∙ packed-on cs l s at h k e

  pub gather-length-suc : (cs : List ℕ) (l : List A) (s at : ℕ) → s < length cs → get_or cs s 0 ≤ 64 → length l ≡ 64 * length cs → length (gather (take s cs) l) ≡ at
      → length (gather (take (suc s) cs) l) ≡ at + get_or cs s 0
  gather-length-suc cs l s at h k e q =
      ap length (gather-suc cs s l h) ∙ simp (length-append, length-take, length-drop) (omega arith)
