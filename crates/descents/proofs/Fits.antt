-- A right table fits its list, and its root stands for all segments.
use mathlib.Core.Path.{◌≡◌, sym, ap, ◌∙◌}
use mathlib.Core.List.{List, []}
use Prim.Native.Nat.{ℕ, zero, suc, ◌+◌, ◌-◌, ◌*◌, ◌/◌, ◌^◌, ◌≤◌, ◌<◌}
use native.Mathlib.Nat.{pow-succ', pow-zero}
use native.Mathlib.Omega.{arith}
use lib.ListN.{length, get_or, get_or-eq_default}
use Rattle.lists.specs.Lists.{All}
use Rattle.slots.specs.Segments.{Segments}
use Rattle.slots.specs.Shown.{Shows}
use Rattle.slots.proofs.Keys.{in-part}
use Rattle.slots.proofs.Padded.{past-keys}
use Rattle.slots.proofs.Render.{length-render, ordered-render}
use Rattle.slots.proofs.Heads.{head-slot}
use Rattle.levels.specs.Tables.{table_of}
use Rattle.levels.specs.Levels.{entry_of}
use Rattle.levels.proofs.Tables.{table-counts}
use Rattle.tables.proofs.RightTables.{sums-right}
use Rattle.descents.specs.Covers.{Covers, leaf, node}
use Rattle.descents.proofs.Searches.{Fit}

base-is : (h l : ℕ) → l ≤ h → entry_of (2 ^ h) 0 l + 2 * 2 ^ (h - l) ≡ 2 * 2 ^ h
base-is h zero p = let e : h - 0 ≡ h = omega arith in rw e (omega arith)
base-is h (suc l) p =
    let e : h - l ≡ suc (h - suc l) = omega arith in
    let d : 2 ^ (h - l) ≡ 2 * 2 ^ (h - suc l) = ap (λ (j : ℕ). 2 ^ j) e ∙ pow-succ' 2 (h - suc l) in
    omega (arith, base-is h l (omega arith), d)

level-covers : (h l q : ℕ) → l ≤ h → q < 2 ^ (h - l) → Covers (2 ^ h) (entry_of (2 ^ h) 0 l + q) (q * 2 ^ l) (2 ^ l)
level-covers h zero q p k =
    let e : h - 0 ≡ h = omega arith in
    let k' : q < 2 ^ h = rw e at k in
    let x : 0 + q < 2 ^ h = omega arith in
    let y : q * 2 ^ 0 ≡ 0 + q = omega (arith, ap (λ (j : ℕ). q * j) (pow-zero 2)) in
    leaf x y (pow-zero 2)
level-covers h (suc l) q p k =
    let e : h - l ≡ suc (h - suc l) = omega arith in
    let d : 2 ^ (h - l) ≡ 2 * 2 ^ (h - suc l) = ap (λ (j : ℕ). 2 ^ j) e ∙ pow-succ' 2 (h - suc l) in
    let i : ℕ = entry_of (2 ^ h) 0 l / 2 + q in
    let b = base-is h l (omega arith) in
    let x : entry_of (2 ^ h) 0 l + 2 * q ≡ 2 * i = omega (arith, b, d) in
    let y : entry_of (2 ^ h) 0 l + (2 * q + 1) ≡ 2 * i + 1 = omega (arith, b, d) in
    let u : 2 * q * 2 ^ l ≡ q * 2 ^ suc l = omega (arith, ap (λ (j : ℕ). q * j) (pow-succ' 2 l)) in
    let v : (2 * q + 1) * 2 ^ l ≡ q * 2 ^ suc l + 2 ^ l = omega (arith, u) in
    let at : entry_of (2 ^ h) 0 (suc l) + q ≡ 2 ^ h + i = omega arith in
    let two : 2 ^ suc l ≡ 2 ^ l + 2 ^ l = omega (arith, pow-succ' 2 l) in
    let few : i + 1 < 2 ^ h = omega (arith, b, d, k) in
    node i (2 ^ l) at two few
    (rw (x, u) at (level-covers h l (2 * q) (omega arith) (omega (arith, d))))
    (rw (y, v) at (level-covers h l (2 * q + 1) (omega arith) (omega (arith, d))))

root-covers : (h : ℕ) → Covers (2 ^ h) (2 * 2 ^ h - 2) 0 (2 ^ h)
root-covers h =
    let e : h - h ≡ 0 = omega arith in
    let one : 2 ^ (h - h) ≡ 1 = ap (λ (j : ℕ). 2 ^ j) e ∙ pow-zero 2 in
    let x : entry_of (2 ^ h) 0 h + 0 ≡ 2 * 2 ^ h - 2 = omega (arith, base-is h h (omega arith), one) in
    let y : 0 * 2 ^ h ≡ 0 = omega arith in
    rw (x, y) at (level-covers h h 0 (omega arith) (omega (arith, one)))

pub fit : (n : ℕ) (list t : List ℕ) → length list ≡ 64 * n → (h : ℕ) (ss : Segments) → n ≡ 2 ^ h → Shows ss list → t ≡ table_of h ss → Fit n list t
fit n list t long h ss p sh e = record {
  sums = sums-right h ss n p many t e;
  root = rw p (root-covers h);
  empty = λ k l z. head-slot list ss sh k ∙ get_or-eq_default (get_or ss k []) 0 (omega (arith, count k l));
  filled = λ k l z w. z (omega (arith, count k l, past-keys (get_or ss k []) 0 (lives k l) (sym (head-slot list ss sh k) ∙ w)));
  ordered = rw sh.whole (ordered-render ss sh.listed);
}
  where
    many : length ss ≡ n
    many = omega (arith, ap length sh.whole, length-render 0 ss sh.fits)

    count : (k : ℕ) → k < n → get_or t k 0 ≡ length (get_or ss k [])
    count k l = ap (λ (m : List ℕ). get_or m k 0) e ∙ table-counts h ss (many ∙ p) k (omega (arith, many))

    lives : (k : ℕ) → k < n → All (λ x. 0 < x) (get_or ss k [])
    lives k l x m = sh.listed.live x (in-part ss k (omega (arith, many)) x m)
