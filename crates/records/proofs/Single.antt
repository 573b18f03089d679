-- A run over one record, with moves enough allowed, does what its request does.
use mathlib.Core.Path.{◌≡◌, ap, ◌∙◌}
use mathlib.Core.Bool.{Bool, true, false, not}
use mathlib.Core.List.{List, [], ◌∷◌}
use Prim.Native.Nat.{ℕ, ◌≤◌}
use native.Mathlib.Nat.{zero-add}
use native.Mathlib.Omega.{arith}
use lib.Dec.{T}
use Rattle.rules.specs.declared.Request.{Request}
use Rattle.rules.specs.Shares.{Shares}
use Rattle.rules.specs.Placing.{Room, outcome}
use Rattle.rules.specs.declared.Record.{Record}
use Rattle.rules.specs.Cards.{cards_after}
use Rattle.rules.specs.Runs.{asking, is_bad, records_of, nothing, tallied, Ran, stopped, work, ran}
use Rattle.demands.proofs.Running.RequestsWorked.{work-on, work-end}
use Rattle.records.specs.Asked.{asked}

pub record SingleRun (S : Shares) (q : Request) (v : ℕ) (R : Room) (c : ℕ → ℕ) (r : Ran) : Type 0 where
  pub stop : r.stop ≡ 0
  pub room : r.room ≡ (outcome S q R).room
  pub cards : r.cards ≡ cards_after (outcome S q R) q v c
  pub moves : r.tally.moves ≡ (outcome S q R).answer.moves

asked-good : (b : Bool) (y : ℕ) → T (not (is_bad (asked b y)))
asked-good true y = tt
asked-good false y = tt

module _ (S : Shares) (allowance : ℕ) (bytes : List ℕ) (R : Room) (c : ℕ → ℕ) (b : Bool) (y v n : ℕ) (e : records_of bytes ≡ asking (asked b y) v n ∷ [])
    (h : (outcome S (asked b y) R).answer.moves ≤ allowance) where
  whole : ran S allowance bytes R c
      ≡ stopped 0 (outcome S (asked b y) R).room (cards_after (outcome S (asked b y) R) (asked b y) v c) (tallied (outcome S (asked b y) R) n nothing)
  unfolding ran
  whole =
      ap (λ (rs : List Record). work S allowance rs R c nothing) e ∙ work-on S allowance (asking (asked b y) v n) [] R c nothing (asked-good b y) (omega arith)
      ∙ work-end S allowance _ _ _

  pub single-run : SingleRun S (asked b y) v R c (ran S allowance bytes R c)
  single-run = record {
    stop = ap (λ (r : Ran). r.stop) whole;
    room = ap (λ (r : Ran). r.room) whole;
    cards = ap (λ (r : Ran). r.cards) whole;
    moves = ap (λ (r : Ran). r.tally.moves) whole ∙ zero-add _;
  }
