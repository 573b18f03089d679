-- What a check of all cells comes to, case by case.
use mathlib.Core.Path.{◌≡◌}
use mathlib.Core.Bool.{true, false, not}
use mathlib.Core.Option.{none, some}
use Prim.Native.Nat.{ℕ, ◌≤◌, ◌<◌}
use native.Mathlib.Omega.{arith}
use borrow.Author.Tests.{lt-ltb, le-ltb}
use lib.ListN.{length}
use Rattle.std.specs.Prelude.{Ok, Err}
use Rattle.lists.specs.Search.{first}
use Rattle.lists.proofs.Search.{first-is, first-none}
use Rattle.slots.specs.Segments.{Segments}
use Rattle.forecast.specs.declared.Forecast.{Forecast}
use Rattle.forecast.specs.declared.Fault.TheVariants.{TooMany}
use Rattle.forecast.specs.Cells.{cells}
use Rattle.forecast.specs.Faults.{fault_at, is_sound, fault_of}

-- THE FIRST FAULT
module _ (P : ℕ) (ss : Segments) (F : Forecast) where
  -- too many cells are used
  pub fault-many : P < F.used → fault_of P ss F ≡ Err TooMany
  unfolding fault_of
  fault-many h = rw (lt-ltb P F.used h)

  -- else that of the first cell with one
  pub fault-first : F.used ≤ P → (k : ℕ) → k < length (cells F) → ((j : ℕ) → j < k → is_sound (fault_at P ss F j) ≡ true) → is_sound (fault_at P ss F k) ≡ false → fault_of P ss F ≡ fault_at P ss F k
  unfolding fault_of
  fault-first u k h before e =
      let f : first (λ i. not (is_sound (fault_at P ss F i))) 0 (length (cells F)) ≡ some k =
      first-is (λ i. not (is_sound (fault_at P ss F i))) 0 (length (cells F)) k (omega arith, rw e tt, λ j a b. rw (before j b) tt) (omega arith) in
      rw (le-ltb P F.used u, f)

  -- else none
  pub fault-none : F.used ≤ P → ((j : ℕ) → j < length (cells F) → is_sound (fault_at P ss F j) ≡ true) → fault_of P ss F ≡ Ok tt
  unfolding fault_of
  fault-none u all =
      let f : first (λ i. not (is_sound (fault_at P ss F i))) 0 (length (cells F)) ≡ none =
      first-none (λ i. not (is_sound (fault_at P ss F i))) 0 (length (cells F)) (λ j a b. rw (all j (omega arith)) tt) in
      rw (le-ltb P F.used u, f)
