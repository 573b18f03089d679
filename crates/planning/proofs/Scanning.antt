-- The scan for the best number of keys, one stretch after the other: what is known before each, of each, and at the end.
use mathlib.Core.Path.{◌≡◌, sym, ap, ◌∙◌}
use mathlib.Core.Logic.{◌≢◌}
use mathlib.Core.List.{List}
use Prim.Native.Nat.{ℕ, suc, ◌+◌, ◌-◌, ◌≤◌, ◌<◌}
use native.Mathlib.Nat.{mul-pos, sub_self}
use native.Mathlib.Omega.{arith}
use lib.ListN.{length, take, drop, get_or}
use Rattle.lists.specs.Lists.{total}
use Rattle.rules.specs.SharingOut.{Fraction, distance, formula6, least}
use Rattle.stretches.specs.declared.Part.{Part}
use Rattle.stretches.specs.declared.Passed.{Passed}
use Rattle.stretches.specs.declared.Stretch.{Stretch}
use Rattle.stretches.specs.declared.Tried.{Tried}
use Rattle.stretches.specs.Parts.{weights_in, PartOf, PassedTo, reach_of}
use Rattle.stretches.specs.Tries.{Halves, Weighted, nearest_of}
use Rattle.stretches.proofs.Looks.{none, best_of, best-is, stretch-is}
use Rattle.stretches.proofs.Weighing.{total-two}
use Rattle.stretches.proofs.Parts.{length-in, all_small, left-small, reach-from, reach-to, flat, mark-there, passed_on}

-- what is left of all is right
six-is : (c front : ℕ) (vs : List ℕ) (left all j m : ℕ) → length vs ≡ m → left ≡ front + total (take j vs) → all ≡ front + total vs
    → formula6 c front vs j ≡ distance left (c - j) (all - left) (c + j - m)
six-is c front vs left all j m e p q =
    let r : all - left ≡ total (drop j vs) = omega (arith, total-two vs j) in
    rw (r, p, ← e)

-- Before number i: the marks up to it are passed, and the best below it is found.
pub record Scanned (c first : ℕ) (ws at : List ℕ) (p : Part) (i : ℕ) (r : Passed) (found : Tried) : Type 0 where
  pub passed : PassedTo ws at p i r
  pub best : found ≡ best_of (formula6 c p.front (weights_in ws p)) first (i - first)

-- the numbers from i to e, with r passed
abbrev stretch : Part → Passed → ℕ → ℕ → Stretch
stretch p r i e = record { left = r.left; right = p.all - r.left; first = i; last = e }

module _ (c first last : ℕ) (ws at weights : List ℕ) (p : Part) (h : Halves c p.keys first last) (d : PartOf ws at weights p) where
  abbrev six : ℕ → Fraction
  six = formula6 c p.front (weights_in ws p)

  pub scan-start : (r : Passed) → PassedTo ws at p first r → Scanned c first ws at p first r (none first)
  scan-start r g = record { passed = g; best = rw (sub_self first) }

  -- Of the numbers from i to e, up to the next mark, the nearest is found; where they end before the last, the mark is passed.
  pub record Stretched (i e : ℕ) (r : Passed) (found : Tried) : Type 0 where
    pub from : i ≤ e
    pub to : e ≤ last
    pub small : r.left ≤ p.all
    pub halves : Halves c p.keys i e
    pub weighted : Weighted (stretch p r i e)
    pub best : nearest_of found (stretch p r i e) c p.keys ≡ best_of six first (e + 1 - first)
    pub mark : e ≢ last → (r.next < length weights) × (get_or weights r.next 0 ≤ 12) × (r.next ≤ 12)
    pub on : e ≢ last → (r' : Passed) → r'.next ≡ r.next + 1 → r'.left ≡ r.left + get_or weights r.next 0 → PassedTo ws at p (e + 1) r'

  module _ (some : 0 < p.all) (i e : ℕ) (r : Passed) (found : Tried) (from : first ≤ i) (to : i ≤ last) (b : Scanned c first ws at p i r found)
      (q : e ≡ reach_of at p r.next last) where
    short : i ≤ p.keys
    short = omega (arith, h.inside)

    start : i ≤ e
    start = reach-from ws at weights p d i short r b.passed last e to h.inside q

    end : e ≤ last
    end = reach-to ws at weights p d i short r b.passed last e to h.inside q

    little : r.left ≤ p.all
    little = left-small ws at weights p d i short r b.passed

    -- formula 6 all along it
    along : (j : ℕ) → i ≤ j → j ≤ e → six j ≡ distance r.left (c - j) (p.all - r.left) (c + j - p.keys)
    along j u v =
        let stays : total (take j (weights_in ws p)) ≡ total (take i (weights_in ws p)) = flat ws at weights p d i short r b.passed last e to h.inside q j u v in
        six-is c p.front (weights_in ws p) r.left p.all j p.keys (length-in ws at weights p d) (b.passed.left ∙ ap (λ (t : ℕ). p.front + t) (sym stays)) d.all

    halved : Halves c p.keys i e
    halved = omega (arith, start, end)

    weighs : Weighted (stretch p r i e)
    weighs = omega (arith, little, all_small ws at weights p d)

    pub stretched : Stretched i e r found
    stretched = record {
      from = start;
      to = end;
      small = little;
      halves = halved;
      weighted = weighs;
      best = stretch-is six first c p.keys (stretch p r i e) found weighs halved from along b.best;
      mark = mark-there ws at weights p d i short r b.passed last e to h.inside q;
      on = passed_on ws at weights p d i short r b.passed last e to h.inside q;
    }

  -- neither denominator is 0
  some-slots : (j : ℕ) → first ≤ j → j ≤ last → 0 < (six j).den
  some-slots j u v = let e : length (weights_in ws p) ≡ p.keys = length-in ws at weights p d in mul-pos (omega arith) (omega arith)

  pub scan-ends : (found : Tried) → found ≡ best_of six first (last + 1 - first) → found.keys ≡ least six first (last - first)
  scan-ends found b =
      let e : last + 1 - first ≡ suc (last - first) = omega (arith, h.some) in
      ap (λ (t : Tried). t.keys) (b ∙ ap (best_of six first) e ∙ best-is six first (last - first) (λ j u v. some-slots j u (omega (arith, h.some))))
