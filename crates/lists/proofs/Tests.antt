-- Tests as facts: `and`, `or`, `not`, and the choice.
use mathlib.Core.Path.{◌≡◌, refl, subst}
use mathlib.Core.Bool.{Bool, true, false, ◌&&◌, ◌||◌, not}
use mathlib.Core.Logic.{◌⊎◌, inl, inr, ◌≢◌}
use Prim.Native.Nat.{ℕ, ◌≤◌, ◌<◌}
use native.Mathlib.Omega.{arith}
use lib.Dec.{T, T_not, not_T, ltb, eqb, ltb→lt, eqb→eq, eqb_refl}
use Rattle.std.proofs.Common.{cond}

-- what holds of both ways of a choice holds of the choice
pub either {ℓ κ} : {A : Type ℓ} (P : A → Type κ) (b : Bool) {x y : A} → P x → P y → P (cond b x y)
either P true p q = p
either P false p q = q

pub and_left : (a b : Bool) → T (a && b) → T a
and_left true b t = tt
and_left false b t = t

pub and_right : (a b : Bool) → T (a && b) → T b
and_right true b t = t
and_right false b t = absurd t

pub and_both : (a b : Bool) → T a → T b → T (a && b)
and_both true b p q = q
and_both false b p q = absurd p

pub or_left : (a b : Bool) → T a → T (a || b)
or_left true b t = tt
or_left false b t = absurd t

pub or_right : (a b : Bool) → T b → T (a || b)
or_right true b t = tt
or_right false b t = t

pub or_cases : (a b : Bool) → T (a || b) → T a ⊎ T b
or_cases true b t = inl tt
or_cases false b t = inr t

pub neither : (a b : Bool) → T (not (a || b)) → T (not a) × T (not b)
neither true b t = absurd t
neither false b t = (tt, t)

pub nor : (a b : Bool) → T (not a) → T (not b) → T (not (a || b))
nor true b p q = absurd p
nor false b p q = q

pub double-not : (a : Bool) → T (not (not a)) → T a
double-not true t = tt
double-not false t = t

pub is_true : (b : Bool) → T b → b ≡ true
is_true true t = refl
is_true false t = absurd t

pub is_false : (b : Bool) → T (not b) → b ≡ false
is_false true t = absurd t
is_false false t = refl

-- a test passes or it does not
pub tested : (b : Bool) → T b ⊎ T (not b)
tested true = inl tt
tested false = inr tt

-- two tests that pass together are one
pub same_test : (a b : Bool) → (T a → T b) → (T b → T a) → a ≡ b
same_test true true f g = refl
same_test true false f g = absurd (f tt)
same_test false true f g = absurd (g tt)
same_test false false f g = refl

pub neqb→ne : (m n : ℕ) → T (not (eqb m n)) → m ≢ n
neqb→ne m n t e = T_not (eqb m n) t (subst (λ (z : ℕ). T (eqb m z)) e (eqb_refl m))

pub ne→neqb : (m n : ℕ) → m ≢ n → T (not (eqb m n))
ne→neqb m n h = not_T (eqb m n) (λ t. h (eqb→eq m n t))

pub eq→eqb : (m n : ℕ) → m ≡ n → T (eqb m n)
eq→eqb m n e = subst (λ (z : ℕ). T (eqb m z)) e (eqb_refl m)

pub le→nltb : (m n : ℕ) → m ≤ n → T (not (ltb n m))
le→nltb m n h = not_T (ltb n m) (λ t. no_lt (ltb→lt n m t))
  where
    no_lt : ¬ (n < m)
    no_lt k = omega arith
