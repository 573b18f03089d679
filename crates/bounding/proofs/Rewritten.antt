-- Bounds rewritten from the last changed segment down, and on through the empty segments before.
use mathlib.Core.Path.{◌≡◌, refl, sym, ap, ◌∙◌}
use mathlib.Core.Logic.{◌≢◌}
use mathlib.Core.List.{List, []}
use Prim.Native.Nat.{ℕ, suc, ◌-◌, ◌*◌, ◌/◌, ◌≤◌, ◌<◌}
use native.Mathlib.Decide.{dec_lt}
use native.Mathlib.Omega.{arith}
use borrow.Author.Tests.{eq-eqb}
use lib.ListN.{length, get_or, set, length-set}
use lib.Seq.{get_or-set_same, get_or-set_other}
use Rattle.slots.specs.Segments.{Segments}
use Rattle.slots.specs.Orders.{slot_at}
use Rattle.slots.specs.Shown.{Shows}
use Rattle.slots.proofs.Render.{length-render}
use Rattle.slots.proofs.Seats.{head}
use Rattle.slots.proofs.Heads.{head-slot}
use Rattle.seats.specs.Bounds.{top, bound_at, bound_by, Bounded, Near}
use Rattle.seats.proofs.Bounds.{bound-past, bound-step}

-- one bound more
pub near-set : (m : ℕ) (ss : Segments) (a a' e : ℕ) (bs : List ℕ) (v : ℕ) → Near m ss a e bs → a' ≤ a → a' < e → e ≤ 64 → v ≡ bound_at ss (e - 1) → Near m ss a' (e - 1) (set bs (e - 1) v)
near-set m ss a a' e bs v n h l u q = record { long = length-set bs (e - 1) v ∙ n.long; after = after; before = before }
  where
    after : (k : ℕ) → m ≤ k → e - 1 ≤ k → k < 64 → get_or (set bs (e - 1) v) k 0 ≡ bound_at ss k
    after k g p r =
        elim (dec_lt (e - 1) k) [
          | yes u ↦ get_or-set_other bs (e - 1) k v 0 (omega arith) ∙ n.after k g (omega arith) r
          | no u ↦ let w : e - 1 ≡ k = omega arith in rw (← w) (get_or-set_same bs (e - 1) v 0 (omega (arith, n.long)) ∙ q)
        ]

    before : (k j : ℕ) → m ≤ k → k < 64 → k ≤ j → j < a' → get_or ss j [] ≢ [] → get_or (set bs (e - 1) v) k 0 ≡ bound_at ss k
    before k j g o p r s = get_or-set_other bs (e - 1) k v 0 (omega arith) ∙ n.before k j g o p (omega arith) s

-- no more to do: at the first segment, and after one with keys
pub near-all : (m : ℕ) (ss : Segments) (a : ℕ) (bs : List ℕ) → Near m ss a 0 bs → Bounded m ss bs
near-all m ss a bs n = record { long = n.long; each = λ k g h. n.after k g (omega arith) h }

pub near-stop : (m : ℕ) (ss : Segments) (s : ℕ) (bs : List ℕ) → 0 < s → Near m ss s s bs → get_or ss (s - 1) [] ≢ [] → Bounded m ss bs
near-stop m ss s bs h n f =
    record {
      long = n.long;
      each = λ k g l. elim (dec_lt k s) [ yes p ↦ n.before k (s - 1) g l (omega arith) (omega arith) f | no p ↦ n.after k g (omega arith) l ];
    }

module _ (list : List ℕ) (ss : Segments) (sh : Shows ss list) where
  -- the bound before, from the slot there
  pub bound-down : (s b r : ℕ) → 0 < s → b ≡ bound_at ss s → r ≡ bound_by (slot_at list (64 * (s - 1))) b → r ≡ bound_at ss (s - 1)
  bound-down s b r h e q =
      let w : s ≡ suc (s - 1) = omega arith in
      q ∙ ap (λ (x : ℕ). bound_by x b) (head-slot list ss sh (s - 1)) ∙ ap (bound_by (head ss (s - 1))) (e ∙ ap (bound_at ss) w) ∙ sym (bound-step ss (s - 1) sh.listed.live)

  -- an empty segment has the next one's
  pub bound-same : (s b : ℕ) → 0 < s → b ≡ bound_at ss s → slot_at list (64 * (s - 1)) ≡ 0 → b ≡ bound_at ss (s - 1)
  bound-same s b h e z = bound-down s b b h e (sym (rw (eq-eqb (slot_at list (64 * (s - 1))) 0 z) refl))

  pub has-keys : (s : ℕ) → slot_at list (64 * s) ≢ 0 → get_or ss s [] ≢ []
  has-keys s n e = n (head-slot list ss sh s ∙ ap (λ (l : List ℕ). get_or l 0 0) e)

  -- the bound from which the rest follows
  pub bound-after : (m a e b : ℕ) (bs : List ℕ) → m ≤ e → length ss ≤ 64 → Near m ss a e bs → (e < length bs → b ≡ get_or bs e 0) → (length bs ≤ e → b ≡ top) → b ≡ bound_at ss e
  bound-after m a e b bs g few n p q = elim (dec_lt e 64) [ yes h ↦ p (omega (arith, n.long)) ∙ n.after e g (omega arith) h | no h ↦ q (omega (arith, n.long)) ∙ sym (bound-past ss e (omega arith)) ]

  -- bounds with nothing in them from there on are those past the list's segments
  pub near-blank : (bs : List ℕ) → length bs ≡ 64 → ((k : ℕ) → length list / 64 ≤ k → k < 64 → get_or bs k 0 ≡ top) → Near 0 ss 0 (length list / 64) bs
  near-blank bs l blank =
      record {
        long = l;
        after = λ k g p h. blank k p h ∙ sym (bound-past ss k (omega (arith, ap length sh.whole, length-render 0 ss sh.fits)));
        before = λ k j g u p h. absurd (omega arith);
      }
