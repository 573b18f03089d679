-- All of a window is a part of it, and so are the two halves of a part.
use mathlib.Core.Path.{◌≡◌, sym, ap, ◌∙◌}
use mathlib.Core.List.{List}
use Prim.Native.Nat.{ℕ, ◌+◌, ◌-◌, ◌≤◌}
use native.Mathlib.Nat.{zero-add}
use native.Mathlib.Omega.{arith}
use lib.ListN.{length, take, drop}
use lib.Seq.{take-length}
use Rattle.lists.specs.Lists.{total}
use Rattle.stretches.specs.declared.Part.{Part}
use Rattle.stretches.specs.declared.Passed.{Passed}
use Rattle.stretches.specs.Marks.{Marked}
use Rattle.stretches.specs.Parts.{weights_in, PartOf, PassedTo}
use Rattle.stretches.proofs.NextMark.{next, next-hit, next-all}
use Rattle.stretches.proofs.Weighing.{total-marks, total-two, first_part, other-part}
use Rattle.planning.specs.Parts.{whole_of, left_of, right_of}

-- all of a window
pub whole_part : (ws at weights : List ℕ) (front : ℕ) → Marked ws at weights → length ws ≤ 4096 → front ≤ 12
    → PartOf ws at weights (whole_of weights (length ws) front)
whole_part ws at weights front d h g =
    let to : next at (length ws) ≡ length weights = next-all at (length ws) d.inside ∙ d.same in
    record {
      marked = d;
      small = h;
      inside = omega arith;
      from = omega (arith, next-hit at 0 0 (omega arith));
      to = sym (ap (next at) (zero-add (length ws)) ∙ to);
      front = g;
      all = ap (λ (n : ℕ). front + n) (sym (total-marks ws at weights d (length ws) ∙ ap total (ap (λ (k : ℕ). take k weights) to ∙ take-length weights)));
    }

module _ (ws at weights : List ℕ) (p : Part) (d : PartOf ws at weights p) (i : ℕ) (h : i ≤ p.keys) (r : Passed) (g : PassedTo ws at p i r) where
  -- what is not passed is on the right
  right_is : p.all - r.left ≡ total (drop i (weights_in ws p))
  right_is = omega (arith, total-two (weights_in ws p) i)

  -- the halves
  pub left-part : PartOf ws at weights (left_of p i r)
  left-part =
      record {
        marked = d.marked;
        small = d.small;
        inside = omega arith;
        from = d.from;
        to = g.next;
        front = d.front;
        all = g.left ∙ ap (λ (l : List ℕ). p.front + total l) (first_part ws p.place p.keys i h);
      }

  pub right-part : PartOf ws at weights (right_of p i r)
  right-part =
      record {
        marked = d.marked;
        small = d.small;
        inside = omega arith;
        from = g.next;
        to = d.to ∙ ap (next at) (omega arith);
        front = omega arith;
        all = right_is ∙ ap total (other-part ws p.place p.keys i h) ∙ sym (zero-add _);
      }
