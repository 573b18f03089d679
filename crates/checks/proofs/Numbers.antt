-- What a shape names, a refusal that is handed on, and a check of slots whose order is kept.
use mathlib.Core.Path.{◌≡◌, sym, ap₂, ◌∙◌, subst}
use mathlib.Core.Bool.{true}
use mathlib.Core.Logic.{◌≢◌}
use native.Mathlib.Omega.{arith}
use mathlib.Core.List.{List}
use Prim.Native.Nat.{ℕ}
use lib.ListN.{length}
use Rattle.std.proofs.Common.{Ok, Err, Result}
use Rattle.std.specs.Prelude.{IsErrAnd}
use Rattle.slots.specs.Orders.{order_of, is_kept}
use Rattle.slots.specs.Shown.{Tallied}
use Rattle.rules.specs.declared.Profile.{Profile}
use Rattle.rules.specs.Shares.{Shares, shares}
use Rattle.rules.specs.declared.Refusal.{Refusal}
use Rattle.rules.specs.Refusals.{refusal_number}
use Rattle.demands.proofs.Refusals.Told.{refusal-some}
use Rattle.shares.specs.declared.Shape.{Shape}
use Rattle.shares.specs.Rows.{shares_at, Fetched}
use Rattle.checks.specs.declared.Listing.{Listing}
use Rattle.checks.specs.Listings.{Counting}
use Rattle.checks.proofs.Kept.{counts-kept}

-- A SHAPE names its profile and height
pub refetched : (p : Profile) (h : ℕ) (k : Shape) → k.profile ≡ p → Fetched (shares p h) k → Fetched (shares_at k) k
refetched p h k e f = subst (λ (S : Shares). Fetched S k) (sym (ap₂ {C = Shares} shares e f.height)) f

-- A REFUSAL that is handed on by `?`; it has some number
pub handed : (P : Result Listing Refusal → Type 0) (r : Result Listing Refusal) (x : Refusal) → IsErrAnd r (λ e. e ≡ x) → P (Err x) → P r
handed P (Err e) x q p = subst (λ (y : Refusal). P (Err y)) (sym q) p
handed P (Ok l) x q p = absurd q

pub some-number : (x : Refusal) (n : ℕ) → refusal_number x ≡ n → n ≢ 0
some-number x n e z = omega (arith, refusal-some x)

-- where the order is kept, the counts are in their places
pub counting_kept : (slots counts counts' : List ℕ) (l : Listing) → length counts ≡ 64 → Tallied slots counts counts' → is_kept (order_of slots) ≡ true → Counting slots (Ok l) counts'
counting_kept slots counts counts' l e t k = record { long = t.long ∙ e; each = counts-kept slots counts k counts' t }
