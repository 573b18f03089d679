-- What is found in the segment where a search ends, from what the count and the position promise.
use mathlib.Core.Path.{◌≡◌, refl, ap, ◌∙◌}
use mathlib.Core.Bool.{Bool}
use mathlib.Core.List.{List, []}
use Prim.Native.Nat.{ℕ, ◌+◌, ◌-◌, ◌*◌, ◌≤◌, ◌<◌}
use native.Mathlib.Omega.{arith}
use lib.Dec.{eqb, ltb}
use lib.Seq.{get_or-take, get_or-drop}
use borrow.Author.Tests.{le-ltb}
use lib.ListN.{length, take, drop, get_or}
use Rattle.lists.specs.Lists.{All, padded}
use Rattle.lists.proofs.Fill.{take-padded-all}
use Rattle.slots.specs.Segments.{Segments, keys}
use Rattle.slots.specs.Keys.{Rising, member, below}
use Rattle.slots.specs.Orders.{slot_at}
use Rattle.slots.specs.Shown.{Shows, seat, Located}
use Rattle.slots.proofs.Keys.{rising_part}
use Rattle.slots.proofs.Render.{slot-render}
use Rattle.slots.proofs.Halving.{found, not_found}
use Rattle.slots.proofs.Seats.{seat-member}
use Rattle.slots.proofs.Tallies.{shown-within, shown-few, shown-part, shown-count}

-- the slots of segment s, as the code lends them
abbrev pub lent : List ℕ → ℕ → List ℕ
lent list s = take (64 * s + 64 - 64 * s) (drop (64 * s) list)

module _
    (list : List ℕ) (key s held at : ℕ) (room : 64 * s + 64 ≤ length list)
    (counts : (ks : List ℕ) → All (λ k. 0 < k) ks → length ks ≤ length (lent list s) → lent list s ≡ padded (length (lent list s)) 0 ks → held ≡ length ks)
    (places : Rising (take held (lent list s)) → at ≡ length (below key (take held (lent list s))))
    (seats : (ss : Segments) → Shows ss list → s ≡ seat key ss) (ss : Segments) (sh : Shows ss list)
  where
    e : s ≡ seat key ss
    e = seats ss sh

    held-there : held ≡ length (get_or ss s [])
    held-there = shown-count ss list sh s room held (lent list s) refl counts

    keys-there : take held (lent list s) ≡ get_or ss s []
    keys-there = rw (held-there, shown-part ss list sh s room) (take-padded-all 64 0 (get_or ss s []))

    rises : Rising (get_or ss s [])
    rises = rising_part ss s (shown-within ss list sh s room) sh.listed.rising

    at_there : at ≡ length (below key (get_or ss s []))
    at_there = (rw keys-there at places) rises

    member-there : member key (get_or ss s []) ≡ member key (keys ss)
    member-there = ap (λ (k : ℕ). member key (get_or ss k [])) e ∙ seat-member key ss sh.listed (omega (arith, shown-within ss list sh s room))

    -- the segment, and the place in it, with what is told of the key itself
    located : (b : Bool) → b ≡ member key (keys ss) → Located key ss (record { segment = s; held = held; at = at; present = b })
    located b q =
        record {
          segment = e;
          held = held-there ∙ ap (λ (k : ℕ). length (get_or ss k [])) e;
          at = at_there ∙ ap (λ (k : ℕ). length (below key (get_or ss k []))) e;
          present = q;
        }

    -- the key's place is one of the segment's keys: the slot there tells
    pub located-slot : at < held → Located key ss (record { segment = s; held = held; at = at; present = eqb (get_or (lent list s) at 0) key })
    located-slot h =
        let inside : at < 64 = omega (arith, held-there, shown-few ss list sh s room) in
        let x : get_or (lent list s) at 0 ≡ get_or (get_or ss s []) (length (below key (get_or ss s []))) 0 =
        get_or-take (64 * s + 64 - 64 * s) (drop (64 * s) list) at 0 (omega arith) ∙ get_or-drop (64 * s) list at 0
        ∙ ap (λ (l : List ℕ). slot_at l (64 * s + at)) sh.whole ∙ slot-render 0 ss sh.fits s at inside ∙ ap (slot_at (get_or ss s [])) at_there in
        located (eqb (get_or (lent list s) at 0) key)
        (ap (λ (k : ℕ). eqb k key) x ∙ found key (get_or ss s []) rises (omega (arith, held-there, at_there)) ∙ member-there)

    -- it is past them: the key is not live
    pub located-past : held ≤ at → Located key ss (record { segment = s; held = held; at = at; present = ltb at held })
    located-past h = located (ltb at held) (le-ltb at held h ∙ not_found key (get_or ss s []) rises (omega (arith, held-there, at_there)) ∙ member-there)
