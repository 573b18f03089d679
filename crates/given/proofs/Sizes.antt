-- Sizes: what their tests say, and what a call gives where they fit and where they do not.
use Prim.Native.Nat.{ℕ, ◌≤◌}
use mathlib.Core.Path.{◌≡◌, refl, sym, subst}
use mathlib.Core.Bool.{Bool, true, false, not}
use mathlib.Core.List.{List}
use lib.Dec.{T, eqb, eqb→eq, nltb→le}
use lib.ListN.{length}
use borrow.Author.Tests.{eq-eqb, le-ltb}
use Rattle.lists.proofs.Tests.{double-not}
use Rattle.given.specs.Calls.{Given, sized, not_forecast, not_totals, short, Gives}

-- A CALL whose sizes do not fit gives 100 and leaves what was lent; where they fit it gives its outcome
pub misfit : (wrong : Bool) (lent : List (List ℕ)) (o : Given) → wrong ≡ true → Gives (sized wrong lent o) 100 lent
misfit wrong lent o e = subst (λ (b : Bool). Gives (sized b lent o) 100 lent) (sym e) (record { number = refl; slices = refl })

pub fitted : (wrong : Bool) (lent : List (List ℕ)) (o : Given) {r : ℕ} {left : List (List ℕ)} → T (not wrong) → Gives o r left → Gives (sized wrong lent o) r left
fitted true lent o t g = absurd t
fitted false lent o t g = g

-- THE SIZE that a test tells, and the test of a size
module _ (ws : List ℕ) where
  pub forecast-fits : T (not (not_forecast ws)) → length ws ≡ 37
  forecast-fits t = eqb→eq (length ws) 37 (double-not (eqb (length ws) 37) t)

  pub totals-fit : T (not (not_totals ws)) → length ws ≡ 4
  totals-fit t = eqb→eq (length ws) 4 (double-not (eqb (length ws) 4) t)

  pub reply-fits : (n : ℕ) → T (not (short ws n)) → n ≤ length ws
  reply-fits n t = nltb→le (length ws) n t

  pub forecast-sized : length ws ≡ 37 → T (not (not_forecast ws))
  forecast-sized e = rw (eq-eqb (length ws) 37 e) tt

  pub totals-sized : length ws ≡ 4 → T (not (not_totals ws))
  totals-sized e = rw (eq-eqb (length ws) 4 e) tt

  pub reply-sized : (n : ℕ) → n ≤ length ws → T (not (short ws n))
  reply-sized n h = rw (le-ltb (length ws) n h) tt
