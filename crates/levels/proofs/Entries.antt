-- The walk's entries are those of document 02, and every place of the table is one of them.
use mathlib.Core.Path.{◌≡◌, refl, sym, ap, ◌∙◌}
use Prim.Native.Nat.{ℕ, zero, suc, ◌+◌, ◌-◌, ◌*◌, ◌/◌, ◌^◌, ◌≤◌, ◌<◌}
use native.Mathlib.Nat.{pow-succ', pow-zero, div-div-eq-div-mul, pow-le-pow_right}
use native.Mathlib.Decide.{dec_lt}
use native.Mathlib.Omega.{arith}
use Rattle.levels.specs.Tables.{entry_at}
use Rattle.levels.specs.Levels.{entry_of}
use Rattle.levels.proofs.Walks.{entry-pair}

-- the walk meets the entry of its window of each level
pub entry-at : (h l s : ℕ) → l ≤ h → entry_of (2 ^ h) s l ≡ entry_at h l s
entry-at h zero s p =
    let a : suc h - 0 ≡ suc h = omega arith in
    let b : s / 2 ^ 0 ≡ s / 1 = ap (λ (n : ℕ). s / n) (pow-zero 2) in
    rw a (omega (arith, b))
entry-at zero (suc l) s p = absurd (omega arith)
entry-at (suc h) (suc l) s p =
    let a : suc (suc h) - suc l ≡ suc h - l = omega arith in
    let b : s / 2 ^ suc l ≡ s / 2 / 2 ^ l = ap (λ (n : ℕ). s / n) (pow-succ' 2 l) ∙ sym (div-div-eq-div-mul s 2 (2 ^ l)) in
    let c : 2 ^ (suc h - l) ≤ 2 ^ suc h = pow-le-pow_right {n = 2} (omega arith) {i = suc h - l} {j = suc h} (omega arith) in
    ap (λ (n : ℕ). entry_of n s (suc l)) (pow-succ' 2 h) ∙ entry-pair (2 ^ h) s l
    ∙ rw (a, b) (omega (arith, entry-at h l (s / 2) (omega arith), pow-succ' 2 (suc h), pow-succ' 2 h))

-- a place of the table is met by the walk of some segment
pub record Met (h k : ℕ) : Type 0 where
  pub level : ℕ
  pub segment : ℕ
  pub most : level ≤ h
  pub inside : segment < 2 ^ h
  pub there : entry_of (2 ^ h) segment level ≡ k

pub met : (h k : ℕ) → k + 1 < 2 * 2 ^ h → Met h k
met zero k p = record { level = 0; segment = k; most = omega arith; inside = omega (arith, pow-zero 2); there = refl }
met (suc h) k p =
    elim (dec_lt k (2 ^ suc h)) [
      | yes q ↦ record { level = 0; segment = k; most = omega arith; inside = q; there = refl }
      | no q ↦ above (met h (k - 2 ^ suc h) (omega (arith, pow-succ' 2 h))) (omega arith)
    ]
  where
    above : Met h (k - 2 ^ suc h) → 2 ^ suc h ≤ k → Met (suc h) k
    above m q =
        let a : 2 * m.segment / 2 ≡ m.segment = omega arith in
        record {
          level = suc m.level;
          segment = 2 * m.segment;
          most = omega (arith, m.most);
          inside = omega (arith, m.inside, pow-succ' 2 h);
          there =
              ap (λ (n : ℕ). entry_of n (2 * m.segment) (suc m.level)) (pow-succ' 2 h) ∙ entry-pair (2 ^ h) (2 * m.segment) m.level
              ∙ ap (λ (j : ℕ). 2 * 2 ^ h + entry_of (2 ^ h) j m.level) a ∙ omega (arith, m.there, pow-succ' 2 h);
        }
