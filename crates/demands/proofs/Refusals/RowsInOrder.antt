-- Rows told in order, by tests in order: laws over any rows.
use mathlib.Core.Path.{◌≡◌, sym, ◌∙◌}
use mathlib.Core.Bool.{Bool, true, false, not}
use mathlib.Core.Logic.{inl, inr, ◌≢◌, ◌↔◌}
use mathlib.Core.List.{List, [], ◌∷◌, ◌++◌}
use Prim.Native.Nat.{ℕ}
use lib.Dec.{T, eqb}
use borrow.Author.Tests.{eq-eqb, ne_eqb}
use Rattle.std.proofs.Common.{if◌then◌else◌}
use Rattle.demands.specs.Rows.{Row, Tells, NoneOf}

-- a test decides a row: it passes where the row applies, and there only
abbrev pub Decides : Bool → Row → Type 0
Decides b r = (T b → r.when) × (T (not b) → ¬ r.when)

-- no row's number is 0
abbrev pub Numbered : List Row → Type 0
Numbered [] = Unit {0}
Numbered (r ∷ rs) = (r.no ≢ 0) × Numbered rs

-- a number that is n where n is not 0, and else tells further rows, tells them after those that n tells
pub tells-after : (rs rest : List Row) (n m : ℕ) → Numbered rs → Tells rs n → (n ≢ 0 → m ≡ n) → (n ≡ 0 → Tells rest m) → Tells (rs ++ rest) m
tells-after [] rest n m k t same more = more t
tells-after (r ∷ rs) rest n m k (inl (w, q)) same more = inl (w, same (λ z. k.0 (sym q ∙ z)) ∙ q)
tells-after (r ∷ rs) rest n m k (inr (w, t)) same more = inr (w, tells-after rs rest n m k.1 t same more)

module _ {A : Type 0} (number : A → ℕ) where
  -- one test more in front tells one row more
  pub tells-if : (b : Bool) (r : Row) (rs : List Row) (x y : A) → number x ≡ r.no → Decides b r → (T (not b) → Tells rs (number y))
      → Tells (r ∷ rs) (number (if b then x else y))
  tells-if true r rs x y e d t = inl (d.0 tt, e)
  tells-if false r rs x y e d t = inr (d.1 tt, t tt)

  -- what is asked only where n is 0 tells further rows after those that n tells
  pub tells_more : (rs rest : List Row) (n : ℕ) (x y : A) → Numbered rs → Tells rs n → number x ≡ n → (n ≡ 0 → Tells rest (number y))
      → Tells (rs ++ rest) (number (if not (eqb n 0) then x else y))
  tells_more rs rest n x y k t e more = tells-after rs rest n _ k t (λ z. rw (ne_eqb n 0 z) e) (λ z. rw (eq-eqb n 0 z) (more z))

-- the number is 0 exactly where none of the rows applies
pub tells_none : (rs : List Row) (n : ℕ) → Numbered rs → Tells rs n → (n ≡ 0) ↔ NoneOf rs
tells_none [] n k t = (λ e. tt, λ u. t)
tells_none (r ∷ rs) n k (inl (w, q)) = (λ e. absurd (k.0 (sym q ∙ e)), λ u. absurd (u.0 w))
tells_none (r ∷ rs) n k (inr (w, t)) = (λ e. (w, (tells_none rs n k.1 t).0 e), λ u. (tells_none rs n k.1 t).1 u.1)
