-- Where the markers of changed cells come from: cells set, swapped, taken, removed and aimed.
use mathlib.Core.Path.{◌≡◌, refl, sym, ap, ◌∙◌, subst}
use mathlib.Core.Bool.{Bool, true, false, not}
use mathlib.Core.Logic.{◌≢◌}
use mathlib.Core.List.{List, ◌++◌, map}
use Prim.Native.Nat.{ℕ, suc, ◌+◌, ◌-◌, ◌≤◌, ◌<◌}
use native.Mathlib.Omega.{arith}
use lib.Dec.{T, eqb, ltb, eqb→eq, ltb→lt, nltb→le}
use lib.ListN.{length, take, drop, get_or, set, length-set, length-take, length-map, get_or-append}
use lib.Seq.{get_or-set_same, get_or-set_other, get_or-take, get_or-drop, get_or-append-add, length-take-le}
use Rattle.std.proofs.Common.{if◌then◌else◌}
use Rattle.lists.specs.Lists.{without}
use Rattle.lists.proofs.Tests.{neqb→ne}
use Rattle.std.proofs.lemmas.List.{get_or-map}
use Rattle.lists.proofs.Fill.{length_without}
use Rattle.cells.specs.declared.Cell.{Cell}
use Rattle.cells.specs.Cells.{zero_cell}
use Rattle.cells.specs.Steps.{aimed}
use Rattle.cells.proofs.Ruled.{marker_at, From}

marker-is : (a b : Cell) → a ≡ b → a.marker ≡ b.marker
marker-is a b e = ap (λ (c : Cell). c.marker) e

-- a cell set to one with its marker
pub from-set : (cs : List Cell) (i : ℕ) (c : Cell) → i < length cs → c.marker ≡ marker_at cs i → From (set cs i c) cs
from-set cs i c h e = record {
  fewer = simp length-set (omega arith);
  origin = λ k. k;
  inside = λ k l. rw (length-set cs i c) at l;
  same = λ k l. at k (eqb k i) (eqb→eq k i) (neqb→ne k i);
  one = λ k l e. e;
}
  where
    at : (k : ℕ) (b : Bool) → (T b → k ≡ i) → (T (not b) → k ≢ i) → marker_at (set cs i c) k ≡ marker_at cs k
    at k true p q = rw (p tt) (marker-is _ _ (get_or-set_same cs i c zero_cell h) ∙ e)
    at k false p q = marker-is _ _ (get_or-set_other cs i k c zero_cell (q tt))

-- places i and i - 1 change
swapped : ℕ → ℕ → ℕ
swapped i k = if eqb k i then i - 1 else if eqb k (i - 1) then i else k

swap-cases : (Q : ℕ → ℕ → Type 0) (i : ℕ) → Q i (i - 1) → Q (i - 1) i → ((k : ℕ) → k ≢ i → k ≢ i - 1 → Q k k) → (k : ℕ) → Q k (swapped i k)
unfolding swapped
swap-cases Q i a b c k = go (eqb k i) (eqb→eq k i) (neqb→ne k i) (eqb k (i - 1)) (eqb→eq k (i - 1)) (neqb→ne k (i - 1))
  where
    go : (x : Bool) → (T x → k ≡ i) → (T (not x) → k ≢ i) → (y : Bool) → (T y → k ≡ i - 1) → (T (not y) → k ≢ i - 1) → Q k (if x then i - 1 else if y then i else k)
    go true p q y r s = subst (λ (z : ℕ). Q z (i - 1)) (sym (p tt)) a
    go false p q true r s = subst (λ (z : ℕ). Q z i) (sym (r tt)) b
    go false p q false r s = c k (q tt) (s tt)

swap-one : (i : ℕ) → 0 < i → (k l : ℕ) → swapped i k ≡ swapped i l → k ≡ l
swap-one i h k l =
    swap-cases (λ k s. s ≡ swapped i l → k ≡ l) i
    (swap-cases (λ l t. i - 1 ≡ t → i ≡ l) i (λ e. refl) (λ e. omega arith) (λ l p q e. omega arith) l)
    (swap-cases (λ l t. i ≡ t → i - 1 ≡ l) i (λ e. omega arith) (λ e. refl) (λ l p q e. omega arith) l)
    (λ k p q. swap-cases (λ l t. k ≡ t → k ≡ l) i (λ e. omega arith) (λ e. omega arith) (λ l r s e. e) l) k

-- two neighbours set to cells with each other's markers
pub from-swap : (i : ℕ) (cs : List Cell) (a b : Cell) → i < length cs → 0 < i → a.marker ≡ marker_at cs (i - 1) → b.marker ≡ marker_at cs i → From (set (set cs i a) (i - 1) b) cs
from-swap i cs a b h pos ea eb = record {
  fewer = omega (arith, long);
  origin = swapped i;
  inside = λ k l. swap-cases (λ k s. k < length cs → s < length cs) i (λ p. omega arith) (λ p. h) (λ k p q r. r) k (omega (arith, long));
  same = λ k l. swap-cases (λ k s. marker_at (set (set cs i a) (i - 1) b) k ≡ marker_at cs s) i lower upper other k;
  one = swap-one i pos;
}
  where
    long : length (set (set cs i a) (i - 1) b) ≡ length cs
    long = length-set (set cs i a) (i - 1) b ∙ length-set cs i a

    lower : marker_at (set (set cs i a) (i - 1) b) i ≡ marker_at cs (i - 1)
    lower = marker-is _ _ (get_or-set_other (set cs i a) (i - 1) i b zero_cell (omega arith) ∙ get_or-set_same cs i a zero_cell h) ∙ ea

    upper : marker_at (set (set cs i a) (i - 1) b) (i - 1) ≡ marker_at cs i
    upper = marker-is _ _ (get_or-set_same (set cs i a) (i - 1) b zero_cell (omega (arith, length-set cs i a))) ∙ eb

    other : (k : ℕ) → k ≢ i → k ≢ i - 1 → marker_at (set (set cs i a) (i - 1) b) k ≡ marker_at cs k
    other k p q = marker-is _ _ (get_or-set_other (set cs i a) (i - 1) k b zero_cell q ∙ get_or-set_other cs i k a zero_cell p)

-- the first cells
pub from-take : (n : ℕ) (cs : List Cell) → From (take n cs) cs
from-take n cs = record {
  fewer = omega (arith, length-take n cs);
  origin = λ k. k;
  inside = λ k h. omega (arith, length-take n cs);
  same = λ k h. marker-is _ _ (get_or-take n cs k zero_cell (omega (arith, length-take n cs)));
  one = λ k l e. e;
}

-- all but the cell at a place
past : ℕ → ℕ → ℕ
past at k = if ltb k at then k else k + 1

past_cases : (Q : ℕ → ℕ → Type 0) (at : ℕ) → ((k : ℕ) → k < at → Q k k) → ((k : ℕ) → at ≤ k → Q k (k + 1)) → (k : ℕ) → Q k (past at k)
unfolding past
past_cases Q at a b k = go (ltb k at) (ltb→lt k at) (nltb→le k at)
  where
    go : (x : Bool) → (T x → k < at) → (T (not x) → at ≤ k) → Q k (if x then k else k + 1)
    go true p q = a k (p tt)
    go false p q = b k (q tt)

pub from-without : (at : ℕ) (cs : List Cell) → at < length cs → (f : From (without at cs) cs) × ((k : ℕ) → f.origin k ≢ at)
unfolding without
from-without at cs h = (
  record {
    fewer = omega (arith, length_without at cs h);
    origin = past at;
    inside = λ k l. past_cases (λ k s. k + 1 < length cs → s < length cs) at (λ k p q. omega arith) (λ k p q. q) k (omega (arith, length_without at cs h));
    same = λ k l. past_cases (λ k s. marker_at (without at cs) k ≡ marker_at cs s) at before after k;
    one = λ k l.
        past_cases (λ k s. s ≡ past at l → k ≡ l) at
        (λ k p. past_cases (λ l t. k ≡ t → k ≡ l) at (λ l q e. e) (λ l q e. omega arith) l)
        (λ k p. past_cases (λ l t. k + 1 ≡ t → k ≡ l) at (λ l q e. omega arith) (λ l q e. omega arith) l) k;
  },
  past_cases (λ k s. s ≢ at) at (λ k p. omega arith) (λ k p. omega arith),
)
  where
    front : length (take at cs) ≡ at
    front = length-take-le at cs (omega arith)

    before : (k : ℕ) → k < at → marker_at (without at cs) k ≡ marker_at cs k
    before k p = marker-is _ _ (get_or-append (take at cs) (drop (suc at) cs) zero_cell k (omega (arith, front)) ∙ get_or-take at cs k zero_cell p)

    after : (k : ℕ) → at ≤ k → marker_at (without at cs) k ≡ marker_at cs (k + 1)
    after k p =
        let e : k ≡ length (take at cs) + (k - at) = rw front (omega arith) in
        let d : suc at + (k - at) ≡ k + 1 = omega arith in
        marker-is _ _ (
        ap (λ (j : ℕ). get_or (take at cs ++ drop (suc at) cs) j zero_cell) e ∙ get_or-append-add (take at cs) (drop (suc at) cs) (k - at) zero_cell
        ∙ get_or-drop (suc at) cs (k - at) zero_cell ∙ ap (λ (j : ℕ). get_or cs j zero_cell) d
        )

-- every cell aimed anew
pub from-aimed : (place : ℕ → ℕ) (cs : List Cell) → From (map (aimed place) cs) cs
from-aimed place cs = record {
  fewer = omega (arith, length-map cs (aimed place));
  origin = λ k. k;
  inside = λ k h. omega (arith, length-map cs (aimed place));
  same = λ k h. marker-is _ _ (get_or-map (aimed place) cs k zero_cell zero_cell (omega (arith, length-map cs (aimed place))));
  one = λ k l e. e;
}
