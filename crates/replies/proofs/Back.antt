-- What is handed back, by the number of the call.
use mathlib.Core.Path.{◌≡◌}
use mathlib.Core.Bool.{Bool, true, false, not, ◌||◌}
use mathlib.Core.Logic.{◌≢◌}
use mathlib.Core.List.{List}
use Prim.Native.Nat.{ℕ}
use lib.Dec.{T, eqb, eqb→eq}
use Rattle.lists.proofs.Tests.{is_false}
use Rattle.forecast.specs.declared.Forecast.{Forecast}
use Rattle.words.specs.Words.{forecast_words}
use Rattle.replies.specs.Back.{works_on, handed_back}

-- a number of which this holds is 0, or has worked on nothing
abbrev pub plain : ℕ → Bool
plain n = eqb n 0 || not (works_on n)

pub works-not : (n : ℕ) → T (plain n) → n ≢ 0 → works_on n ≡ false
works-not n t z = is_false (works_on n) (go (eqb n 0) (eqb→eq n 0) t)
  where
    go : (b : Bool) → (T b → n ≡ 0) → T (b || not (works_on n)) → T (not (works_on n))
    go true e t = absurd (z (e tt))
    go false e t = t

module _ (n : ℕ) (F : Forecast) (ws : List ℕ) where
  pub handed : works_on n ≡ true → handed_back n F ws ≡ forecast_words F
  unfolding handed_back
  handed e = rw e

  pub kept : works_on n ≡ false → handed_back n F ws ≡ ws
  unfolding handed_back
  kept e = rw e
