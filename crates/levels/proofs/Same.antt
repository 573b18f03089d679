-- Two tables are the same by the test where they are equal, and only there.
use mathlib.Core.Path.{◌≡◌, refl, subst, ap₂}
use mathlib.Core.List.{List, [], ◌∷◌}
use Prim.Native.Nat.{ℕ}
use lib.Dec.{T, eqb, eqb→eq, eqb_refl}
use Rattle.lists.proofs.Tests.{and_left, and_right, and_both}
use Rattle.levels.specs.Tables.{same}

pub same→eq : (xs ys : List ℕ) → T (same xs ys) → xs ≡ ys
same→eq [] [] t = refl
same→eq [] (y ∷ ys) t = absurd t
same→eq (x ∷ xs) [] t = absurd t
same→eq (x ∷ xs) (y ∷ ys) t =
    ap₂ {C = List ℕ} ◌∷◌ (eqb→eq x y (and_left (eqb x y) (same xs ys) t)) (same→eq xs ys (and_right (eqb x y) (same xs ys) t))

same_refl : (xs : List ℕ) → T (same xs xs)
same_refl [] = tt
same_refl (x ∷ xs) = and_both (eqb x x) (same xs xs) (eqb_refl x) (same_refl xs)

pub eq→same : (xs ys : List ℕ) → xs ≡ ys → T (same xs ys)
eq→same xs ys e = subst (λ (l : List ℕ). T (same xs l)) e (same_refl xs)
