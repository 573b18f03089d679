-- What fitting sizes say, by what their test told.
use Prim.Native.Nat.{ℕ, ◌≤◌}
use mathlib.Core.Path.{◌≡◌, sym, ◌∙◌, subst}
use mathlib.Core.Bool.{Bool, false, not, ◌||◌}
use mathlib.Core.List.{List}
use lib.Dec.{T}
use lib.ListN.{length}
use Rattle.lists.proofs.Tests.{neither}
use Rattle.given.specs.Calls.{not_forecast, not_totals, short}
use Rattle.given.proofs.Sizes.{forecast-fits, totals-fit, reply-fits}

-- r is what the test told
fails : (r b : Bool) → r ≡ b → r ≡ false → T (not b)
fails r b e f = subst (λ (x : Bool). T (not x)) (sym f ∙ e) tt

pub fit : (forecast : List ℕ) (r : Bool) → r ≡ not_forecast forecast → r ≡ false → length forecast ≡ 37
fit forecast r e f = forecast-fits forecast (fails r _ e f)

pub both-fit : (forecast reply : List ℕ) (n : ℕ) (r : Bool) → r ≡ (not_forecast forecast || short reply n) → r ≡ false
    → (length forecast ≡ 37) × (n ≤ length reply)
both-fit forecast reply n r e f =
    let t = neither (not_forecast forecast) (short reply n) (fails r _ e f) in
    (forecast-fits forecast t.0, reply-fits reply n t.1)

pub all_fit : (forecast totals reply : List ℕ) (r : Bool) → r ≡ (not_forecast forecast || (not_totals totals || short reply 4)) → r ≡ false
    → (length forecast ≡ 37) × (length totals ≡ 4) × (4 ≤ length reply)
all_fit forecast totals reply r e f =
    let t = neither (not_forecast forecast) (not_totals totals || short reply 4) (fails r _ e f) in
    let u = neither (not_totals totals) (short reply 4) t.1 in
    (forecast-fits forecast t.0, totals-fit totals u.0, reply-fits reply 4 u.1)
