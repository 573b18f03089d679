-- What a lookup tells of a list that passes, where the search for the key ends at segment s and slot q.
use mathlib.Core.Path.{◌≡◌, sym, ap₂, ◌∙◌}
use mathlib.Core.Bool.{true}
use mathlib.Core.Logic.{◌≢◌}
use Prim.Native.Nat.{ℕ, ◌*◌, ◌≤◌}
use native.Mathlib.Omega.{arith}
use lib.Dec.{eqb}
use borrow.Author.Tests.{eq-eqb, ne_eqb}
use lib.ListN.{get_or}
use Rattle.std.specs.Prelude.{Some, None, Ok, Err}
use Rattle.slots.specs.Segments.{Segments, keys, segments_of}
use Rattle.slots.specs.Keys.{member}
use Rattle.slots.specs.Orders.{slot_at}
use Rattle.slots.specs.Shown.{seat}
use Rattle.slots.proofs.Seats.{seat-live}
use Rattle.seats.specs.Bounds.{top}
use Rattle.seats.specs.Halves.{halved}
use Rattle.seeking.specs.Spots.{key_up_to}
use Rattle.rules.specs.declared.Refusal.TheVariants.{KeyZero}
use Rattle.rules.specs.Lent.{Lent, cards_of}
use Rattle.rules.specs.Checks.{check_read}
use Rattle.rules.specs.Looking.{Found}
use Rattle.demands.proofs.Refusals.CheckCases.{lookup-passed}
use Rattle.answers.specs.Admits.{LookupAdmits}
use Rattle.answers.proofs.Replies.{looked-zero, looked-live, looked-absent}
use Rattle.looks.proofs.Passed.{found-live, card-there}

module _ (profile : ℕ) (L : Lent) (e : check_read profile L ≡ 0) (y : ℕ) where
  abbrev ss : Segments
  ss = segments_of L.slots

  pub zero-told : y ≡ 0 → LookupAdmits profile L y (Err KeyZero)
  zero-told z = record { answer = sym (lookup-passed profile L y e ∙ looked-zero y (cards_of L) ss z) }

  module _ (n : y ≢ 0) (fits : y ≤ top) (s q : ℕ) (se : s ≡ seat y (segments_of L.slots)) (qe : q ≡ halved (key_up_to L.slots y) (64 * s)) where
    -- what the slot there tells
    live : eqb (slot_at L.slots q) y ≡ member y (keys ss)
    live = found-live profile L e y s q fits (omega (arith, n)) se qe

    pub live-told : slot_at L.slots q ≡ y → LookupAdmits profile L y (Ok (Some (record { segment = s; card = get_or L.cards q 0 })))
    live-told k =
        let m : member y (keys ss) ≡ true = sym live ∙ eq-eqb _ _ k in
        record {
          answer =
              ap₂ {C = Found} (λ at v. record { number = 0; present = true; segment = at; card = v }) (se ∙ seat-live y ss (rw m tt)) (card-there profile L e y q (omega (arith, n)) k)
              ∙ sym (lookup-passed profile L y e ∙ looked-live y (cards_of L) ss n m);
        }

    pub absent-told : slot_at L.slots q ≢ y → LookupAdmits profile L y (Ok None)
    absent-told k = record { answer = sym (lookup-passed profile L y e ∙ looked-absent y (cards_of L) ss n (sym live ∙ ne_eqb _ _ k)) }
