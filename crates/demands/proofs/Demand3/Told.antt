-- A sweep is told exactly where a window was chosen.
use mathlib.Core.Path.{◌≡◌, refl, ap, ◌∙◌}
use mathlib.Core.Bool.{Bool}
use mathlib.Core.Option.{Option, none, some}
use mathlib.Core.List.{List}
use Prim.Native.Nat.{ℕ}
use Rattle.slots.specs.Segments.{Segments}
use Rattle.cells.specs.declared.Cell.{Cell}
use Rattle.rules.specs.declared.Request.TheVariants.{Insert, Delete, Bad}
use Rattle.rules.specs.Shares.{Shares}
use Rattle.rules.specs.Placing.{Room, Outcome, settled, insert_level, insert_key, delete_level, delete_key}
use Rattle.demands.specs.Demand3.{is_chosen, SweepsTold}
use Rattle.demands.proofs.Requests.Accepted.{insert-accepted, delete-accepted, bad-refused}

settled-swept : (S : Shares) (s : ℕ) (cs : List Cell) (ss : Segments) (n : ℕ) (b : Bool) (r : Option ℕ) → (settled S s cs ss n b r).swept ≡ is_chosen r
unfolding settled
settled-swept S s cs ss n b none = refl
settled-swept S s cs ss n b (some l) = refl

insert-swept : (S : Shares) (y : ℕ) (R : Room) → (insert_key S y R).swept ≡ is_chosen (insert_level S y R.segments)
unfolding insert_key
insert-swept S y R = settled-swept S _ _ _ _ _ _

delete-swept : (S : Shares) (y : ℕ) (R : Room) → (delete_key S y R).swept ≡ is_chosen (delete_level S y R.segments)
unfolding delete_key
delete-swept S y R = settled-swept S _ _ _ _ _ _

pub sweeps_told : SweepsTold
sweeps_told S (Insert y) R t = ap (λ (o : Outcome). o.swept) (insert-accepted S y R t).is ∙ insert-swept S y R
sweeps_told S (Delete y) R t = ap (λ (o : Outcome). o.swept) (delete-accepted S y R t).is ∙ delete-swept S y R
sweeps_told S Bad R t = absurd (bad-refused S R t)
