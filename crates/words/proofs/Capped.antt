-- What is capped: nothing up to 255; and tests against less than 255 come out alike.
use Prim.Native.Nat.{ℕ, suc, ◌≤◌, ◌<◌}
use mathlib.Core.Path.{◌≡◌, refl, sym, ap, ◌∙◌}
use mathlib.Core.List.{List, [], ◌∷◌, map}
use native.Mathlib.Decide.{dec_lt}
use native.Mathlib.Omega.{arith}
use borrow.Author.Tests.{le-leb, lt-leb}
use lib.Dec.{ltb, eqb, ltb→lt, lt→ltb, eqb→eq}
use lib.ListN.{get_or}
use Rattle.lists.proofs.Tests.{same_test, eq→eqb}
use Rattle.words.specs.Words.{capped}

pub capped_small : (x : ℕ) → x ≤ 255 → capped x ≡ x
unfolding capped
capped_small x h = rw (le-leb x 255 h)

pub capped-big : (x : ℕ) → 255 < x → capped x ≡ 255
unfolding capped
capped-big x h = rw (lt-leb x 255 h)

-- below 255 nothing is lost, and nothing comes there
pub capped_is : (k : ℕ) → k < 255 → (x : ℕ) → capped x ≡ k → x ≡ k
capped_is k h x e = elim (dec_lt 255 x) [ yes l ↦ absurd (omega (arith, capped-big x l)) | no l ↦ sym (capped_small x (omega arith)) ∙ e ]

pub capped-eqb : (k : ℕ) → k < 255 → (x : ℕ) → eqb (capped x) k ≡ eqb x k
capped-eqb k h x =
    same_test (eqb (capped x) k) (eqb x k) (λ t. eq→eqb _ _ (capped_is k h x (eqb→eq _ _ t)))
    (λ t.
    let e : x ≡ k = eqb→eq _ _ t in
    eq→eqb _ _ (capped_small x (omega arith) ∙ e))

pub capped-below : (k : ℕ) → k < 255 → (x : ℕ) → ltb (capped x) k ≡ ltb x k
capped-below k h x =
    elim (dec_lt 255 x) [
      | yes l ↦ same_test (ltb (capped x) k) (ltb x k) (λ t. absurd (omega (arith, capped-big x l, ltb→lt (capped x) k t))) (λ t. absurd (omega (arith, ltb→lt x k t)))
      | no l ↦ ap (λ (n : ℕ). ltb n k) (capped_small x (omega arith))
    ]

pub capped-above : (k : ℕ) → k < 255 → (x : ℕ) → ltb k (capped x) ≡ ltb k x
capped-above k h x =
    elim (dec_lt 255 x) [
      | yes l ↦ same_test (ltb k (capped x)) (ltb k x) (λ t. lt→ltb k x (omega arith)) (λ t. lt→ltb k (capped x) (omega (arith, capped-big x l)))
      | no l ↦ ap (λ (n : ℕ). ltb k n) (capped_small x (omega arith))
    ]

-- a row of bytes
pub capped-row : (xs : List ℕ) → ((i : ℕ) → get_or xs i 0 ≤ 255) → map capped xs ≡ xs
capped-row [] h = refl
capped-row (x ∷ xs) h = λ i. capped_small x (h 0) i ∷ capped-row xs (λ k. h (suc k)) i
