-- The halving of the segments by the first slots: what is known of a search at each turn, and at its end.
use mathlib.Core.Path.{◌≡◌, refl, sym, ap, ◌∙◌, subst}
use mathlib.Core.Logic.{◌⊎◌, inl, inr, ◌≢◌}
use mathlib.Core.List.{List}
use Prim.Native.Nat.{ℕ, ◌+◌, ◌*◌, ◌/◌, ◌≤◌, ◌<◌}
use native.Mathlib.Decide.{dec_lt}
use native.Mathlib.Omega.{arith}
use lib.ListN.{length}
use Rattle.slots.specs.Segments.{Segments}
use Rattle.slots.specs.Shown.{Shows, seat}
use Rattle.slots.specs.Orders.{slot_at}
use Rattle.slots.specs.Stretches.{Filled}
use Rattle.slots.proofs.Orders.{Ordered, in_list}
use Rattle.slots.proofs.Render.{length-render, ordered-render}
use Rattle.slots.proofs.Seats.{head, seat-is}
use Rattle.slots.proofs.Heads.{head-slot}

-- The segment best begins with a key up to key, or is the first; those after it and before a are empty; those from b on begin above key.
pub record Narrowed (list : List ℕ) (key best a b : ℕ) : Type 0 where
  pub inside : 64 * best + 64 ≤ length list
  pub order : a ≤ b
  pub end : 64 * b ≤ length list
  pub low : (best ≡ 0) ⊎ ((slot_at list (64 * best) ≢ 0) × (slot_at list (64 * best) ≤ key))
  pub empty : (k : ℕ) → best < k → k < a → slot_at list (64 * k) ≡ 0
  pub high : Ordered list → (k : ℕ) → b ≤ k → 64 * k + 64 ≤ length list → slot_at list (64 * k) ≢ 0 → key < slot_at list (64 * k)

pub narrow_start : (list : List ℕ) (key : ℕ) → 64 ≤ length list → Narrowed list key 0 0 (length list / 64)
narrow_start list key h =
    record {
      inside = omega arith;
      order = omega arith;
      end = omega arith;
      low = inl refl;
      empty = λ k l m. absurd (omega arith);
      high = λ o k l m. absurd (omega arith);
    }

module _ (list : List ℕ) (key best a b mid s : ℕ) (n : Narrowed list key best a b) (m : mid < b) (f : Filled list a mid s) where
  -- all the segments from a to mid are empty
  pub narrow-skip : slot_at list (64 * s) ≡ 0 → Narrowed list key best (mid + 1) b
  narrow-skip z = record { inside = n.inside; order = omega arith; end = n.end; low = n.low; empty = none; high = n.high }
    where
      at_a : s ≤ a
      at_a = elim (dec_lt a s) [ yes h ↦ absurd (f.there h z) | no h ↦ omega arith ]

      none : (k : ℕ) → best < k → k < mid + 1 → slot_at list (64 * k) ≡ 0
      none k p q =
          elim (dec_lt k a) [
            | yes h ↦ n.empty k p h
            | no h ↦
                elim (dec_lt s k) [
                  | yes l ↦ f.after k l (omega arith)
                  | no l ↦ let e : s ≡ k = omega (arith, at_a) in subst (λ (t : ℕ). slot_at list (64 * t) ≡ 0) e z
                ]
          ]

  -- the last that is not begins with a key up to key
  pub narrow-up : slot_at list (64 * s) ≢ 0 → slot_at list (64 * s) ≤ key → Narrowed list key s (mid + 1) b
  narrow-up z l =
      record {
        inside = omega (arith, n.end, f.to);
        order = omega arith;
        end = n.end;
        low = inr (z, l);
        empty = λ k p q. f.after k p (omega arith);
        high = n.high;
      }

  -- or with one above key
  pub narrow-down : slot_at list (64 * s) ≢ 0 → key < slot_at list (64 * s) → Narrowed list key best a s
  narrow-down z l =
      record { inside = n.inside; order = f.from; end = omega (arith, n.end, f.to); low = n.low; empty = n.empty; high = above }
    where
      above : Ordered list → (k : ℕ) → s ≤ k → 64 * k + 64 ≤ length list → slot_at list (64 * k) ≢ 0 → key < slot_at list (64 * k)
      above o k p q r =
          elim (dec_lt s k) [
            | yes h ↦ omega (arith, o (64 * s) (64 * k) (omega arith) z r)
            | no h ↦ let e : s ≡ k = omega arith in subst (λ (t : ℕ). key < slot_at list (64 * t)) e l
          ]

-- at the end, best is where the search ends
pub narrow-end : (list : List ℕ) (key best a b : ℕ) → Narrowed list key best a b → b ≤ a → (ss : Segments) → Shows ss list → best ≡ seat key ss
narrow-end list key best a b n h ss sh = seat-is key ss sh.listed best low high
  where
    long : length list ≡ 64 * length ss
    long = ap length sh.whole ∙ length-render 0 ss sh.fits

    ordered : Ordered list
    ordered = subst Ordered (sym sh.whole) (ordered-render ss sh.listed)

    low : (best ≡ 0) ⊎ ((head ss best ≢ 0) × (head ss best ≤ key))
    low = rw (head-slot list ss sh best) at n.low

    high : (k : ℕ) → best < k → head ss k ≢ 0 → key < head ss k
    high k p z = rw (head-slot list ss sh k) at above
      where
        z' : slot_at list (64 * k) ≢ 0
        z' = rw (head-slot list ss sh k) z

        above : key < slot_at list (64 * k)
        above =
            elim (dec_lt k a) [
              | yes l ↦ absurd (z' (n.empty k p l))
              | no l ↦ n.high ordered k (omega arith) (omega (arith, long, in_list list (64 * k) z')) z'
            ]
