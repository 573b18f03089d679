-- Demand 3, first part: every window inside a sweep keeps to its parent's shares.
use mathlib.Core.Path.{sym, ap, subst}
use mathlib.Core.Option.{Option}
use Prim.Native.Nat.{ℕ, suc}
use lib.Dec.{T, leb, eqb, le→leb}
use Rattle.lists.proofs.Tests.{and_both, eq→eqb}
use Rattle.slots.specs.Windows.{start, count}
use Rattle.rules.specs.Placing.{Outcome, outcome}
use Rattle.demands.specs.History.{sweeps_at, event_at}
use Rattle.demands.specs.Demand3.{Inside}
use Rattle.demands.proofs.Sweeping.Settled.{left}
use Rattle.demands.proofs.Requests.Moved.{Moved, moved}

pub inside-kept : Inside
inside-kept S L q R K t k e j u h w =
    rw (ap (λ (o : Outcome). count j u o.room.segments) m.result)
    (left S L (event_at S q R).at m.cs m.ms m.n m.b m.number m.fits (event_at S q R).level m.asked j u
    (subst (λ (r : Option ℕ). T (sweeps_at (suc j) u (event_at S q R).at r)) (sym e)
    (and_both (leb (suc j) k) (eqb (start k (event_at S q R).at) (start k u)) (le→leb (suc j) k h) (eq→eqb (start k (event_at S q R).at) (start k u) (sym w)))))
  where
    m : Moved S R (event_at S q R) (outcome S q R)
    m = (moved S q R K t).0
