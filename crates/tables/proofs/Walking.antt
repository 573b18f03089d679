-- A walk under way: the entries so far are changed, and those ahead are as they were.
use mathlib.Core.Path.{◌≡◌, refl, sym, ap, ap₂, subst, ◌∙◌}
use mathlib.Core.Logic.{◌≢◌}
use mathlib.Core.List.{List}
use Prim.Native.Nat.{ℕ, suc, ◌+◌, ◌*◌, ◌/◌, ◌^◌, ◌≤◌, ◌<◌}
use native.Mathlib.Decide.{dec_lt}
use native.Mathlib.Omega.{arith}
use lib.ListN.{length, get_or, set, take}
use lib.Seq.{get_or-set_other, get_or-take, length-take-le}
use Rattle.lists.specs.Lists.{total}
use Rattle.levels.specs.Levels.{levels, entry_of}
use Rattle.tables.specs.Kept.{Summed}
use Rattle.levels.proofs.Levels.{no_more}
use Rattle.levels.proofs.Walks.{entry_in, entry-end, walk-least, changed}

pub record Walked (f : ℕ → ℕ) (n s h : ℕ) (t₀ t : List ℕ) (e : ℕ) : Type 0 where
  pub level : ℕ
  pub most : level ≤ suc h
  pub entry : e ≡ entry_of n s level
  pub so_far : t ≡ changed f n s level t₀
  pub ahead : (k : ℕ) → e ≤ k → get_or t k 0 ≡ get_or t₀ k 0

module _ (f : ℕ → ℕ) (n s h : ℕ) (p : n ≡ 2 ^ h) (k : s < n) (t₀ : List ℕ) where
  pub walked_start : Walked f n s h t₀ t₀ s
  unfolding changed
  walked_start = record { level = 0; most = omega arith; entry = refl; so_far = refl; ahead = λ j q. refl }

  -- the level of an entry of the table
  pub walked-level : (t : List ℕ) (e : ℕ) → (w : Walked f n s h t₀ t e) → e + 1 < 2 * n → w.level ≤ h
  walked-level t e w q =
      elim (dec_lt h w.level) [
        | yes l ↦
            let d : w.level ≡ suc h = omega (arith, w.most) in
            let m : entry_of n s (suc h) + 1 ≡ 2 * n = subst (λ (x : ℕ). entry_of x s (suc h) + 1 ≡ 2 * x) (sym p) (entry-end h s (rw p at k)) in
            absurd (omega (arith, w.entry ∙ ap (entry_of n s) d))
        | no l ↦ omega arith
      ]

  pub walked_more : (t : List ℕ) (e : ℕ) → Walked f n s h t₀ t e → e + 1 < 2 * n → Walked f n s h t₀ (set t e (f (get_or t e 0))) (n + e / 2)
  unfolding changed
  walked_more t e w q = record {
    level = suc w.level;
    most = omega (arith, walked-level t e w q);
    entry = ap (λ (i : ℕ). n + i / 2) w.entry;
    so_far = ap₂ {C = List ℕ} (λ (l : List ℕ) (i : ℕ). set l i (f (get_or l i 0))) w.so_far w.entry;
    ahead = λ j m. get_or-set_other t e j (f (get_or t e 0)) 0 (other j m) ∙ w.ahead j (omega arith);
  }
    where
      other : (j : ℕ) → n + e / 2 ≤ j → j ≢ e
      other j m d = omega arith

  pub walked_end : (t : List ℕ) (e : ℕ) → Walked f n s h t₀ t e → 2 * n ≤ e + 1 → t ≡ changed f n s (suc h) t₀
  walked_end t e w q =
      elim (dec_lt h w.level) [
        | yes l ↦ let d : w.level ≡ suc h = omega (arith, w.most) in w.so_far ∙ ap (λ (i : ℕ). changed f n s i t₀) d
        | no l ↦
            let m : entry_of n s w.level + 1 < 2 * n = rw p (entry_in h s w.level (rw p at k) (omega arith)) in
            absurd (omega (arith, w.entry))
      ]

-- what the next entry counts
module _ (f : ℕ → ℕ) (n s : ℕ) (t₀ t : List ℕ) (e : ℕ) (S : Summed n t₀) (k : s < n) (w : Walked f n s S.sized.height t₀ t e) where
  pub walked-few : get_or t e 0 ≤ 4096
  walked-few =
      rw (w.ahead e (omega arith))
      (let m : get_or (levels S.sized.height (take n t₀)) e 0 ≤ total (take n t₀) = no_more S.sized.height (take n t₀) e in
      omega (arith, ap (λ (l : List ℕ). get_or l e 0) S.right, S.sized.few))

  pub walked-least : e + 1 < 2 * n → get_or t₀ s 0 ≤ get_or t e 0
  walked-least q =
      let h : ℕ = S.sized.height in
      let p : n ≡ 2 ^ h = S.sized.size in
      let m : length (take n t₀) ≡ 2 ^ h = length-take-le n t₀ (omega (arith, S.sized.long)) ∙ p in
      let a : get_or (take n t₀) s 0 ≤ get_or (levels h (take n t₀)) (entry_of (2 ^ h) s w.level) 0 = walk-least h w.level s (take n t₀) (walked-level f n s h p k t₀ t e w q) (omega arith) m in
      let b : entry_of (2 ^ h) s w.level ≡ e = ap (λ (i : ℕ). entry_of i s w.level) (sym p) ∙ sym w.entry in
      rw (w.ahead e (omega arith))
      (omega (arith, a, get_or-take n t₀ s 0 k, ap₂ {C = ℕ} (λ (l : List ℕ) (i : ℕ). get_or l i 0) S.right (sym b)))
