-- A part of a window: its bounds, and the stretch up to its next mark.
use mathlib.Core.Path.{◌≡◌, sym, ap, ◌∙◌}
use mathlib.Core.Logic.{◌⊎◌, inl, inr, ◌≢◌}
use mathlib.Core.List.{List}
use Prim.Native.Nat.{ℕ, suc, ◌+◌, ◌-◌, ◌≤◌, ◌<◌, min}
use native.Mathlib.Decide.{dec_lt}
use native.Mathlib.Numerals.{add-one}
use native.Mathlib.Omega.{arith}
use lib.ListN.{length, take, drop, get_or}
use borrow.Author.Tests.{lt-ltb, le-ltb}
use Rattle.lists.specs.Lists.{total}
use Rattle.lists.proofs.Members.{at_mem}
use Rattle.lists.proofs.Joined.{total-suc}
use Rattle.stretches.specs.declared.Part.{Part}
use Rattle.stretches.specs.declared.Passed.{Passed}
use Rattle.stretches.specs.Parts.{weights_in, PartOf, PassedTo, reach_of}
use Rattle.stretches.proofs.NextMark.{next, next-in, next-from, next_grows, next-stays, next-on}
use Rattle.stretches.proofs.Weighing.{total-marks, total-small, total-two, total-stretch, first_part, length-stretch}

-- the first marks of two equal numbers of them weigh the same
same-marks : (weights : List ℕ) {j k : ℕ} → j ≡ k → total (take j weights) ≡ total (take k weights)
same-marks weights e = ap (λ (n : ℕ). total (take n weights)) e

-- None of a part's marks passed.
abbrev pub start : Part → Passed
start p = record { next = p.from; left = p.front }

-- From one number of marks passed to another the weights between are counted.
abbrev pub Counted : List ℕ → Passed → Passed → Type 0
Counted weights was r = r.left + total (take was.next weights) ≡ was.left + total (take r.next weights)

pub counted-one : (weights : List ℕ) (was r r' : Passed) → r.next < length weights → r'.next ≡ r.next + 1 → r'.left ≡ r.left + get_or weights r.next 0
    → Counted weights was r → Counted weights was r'
counted-one weights was r r' h a b e =
    omega (arith, total-suc weights r.next h, same-marks weights (a ∙ add-one r.next))

module _ (ws at weights : List ℕ) (p : Part) (d : PartOf ws at weights p) where
  pub length-in : length (weights_in ws p) ≡ p.keys
  length-in = length-stretch ws p.place p.keys d.inside

  -- its first i keys weigh what the marks on them weigh
  by-marks : (i : ℕ) → i ≤ p.keys → total (take (next at (p.place + i)) weights) ≡ total (take p.from weights) + total (take i (weights_in ws p))
  by-marks i h =
      let sum : (x : ℕ) → total (take x ws) ≡ total (take (next at x) weights) = total-marks ws at weights d.marked in
      let part : total (take i (weights_in ws p)) ≡ total (take i (drop p.place ws)) = ap total (first_part ws p.place p.keys i h) in
      omega (arith, sum p.place, sum (p.place + i), total-stretch ws p.place i, same-marks weights d.from)

  -- the first k marks weigh little
  pub marks-small : (k : ℕ) → total (take k weights) ≤ 144
  marks-small k = omega (arith, total-small k weights d.marked.small)

  pub all_small : p.all ≤ 156
  all_small =
      omega (arith, by-marks p.keys (omega arith), ap total (first_part ws p.place p.keys p.keys (omega arith)), marks-small (next at (p.place + p.keys)))

  module _ (i : ℕ) (h : i ≤ p.keys) where
    -- the marks on its first i keys end where its marks end, or before
    pub next-to : next at (p.place + i) ≤ p.to
    next-to = omega (arith, next_grows at (p.place + i) (p.place + p.keys) (omega arith))

    -- they are passed when the next one is that after them, and their weights are counted
    module _ (r : Passed) (e : r.next ≡ next at (p.place + i)) where
      pub passed_is : Counted weights (start p) r → PassedTo ws at p i r
      passed_is s = record { next = e; left = omega (arith, same-marks weights e, by-marks i h) }

      is-counted : r.left ≡ p.front + total (take i (weights_in ws p)) → Counted weights (start p) r
      is-counted s = omega (arith, same-marks weights e, by-marks i h)

  module _ (i : ℕ) (h : i ≤ p.keys) (r : Passed) (g : PassedTo ws at p i r) where
    -- what is passed is no more than all
    pub left-small : r.left ≤ p.all
    left-small = omega (arith, total-two (weights_in ws p) i)

    -- the next mark stands past the keys passed
    past : r.next < length at → p.place + i ≤ get_or at r.next 0
    past k = rw g.next (next-from at (p.place + i) (rw g.next at k))

    -- the next mark of the part stands in it
    pub next-inside : r.next < p.to → (r.next < length at) × (p.place ≤ get_or at r.next 0)
    next-inside k =
        let l : r.next < length at = omega (arith, next-in at (p.place + p.keys)) in
        (l, omega (arith, past l))

    -- the numbers of keys from i to e, before the next mark: the weights stay
    module _ (last e : ℕ) (k : i ≤ last) (l : last ≤ p.keys) (q : e ≡ reach_of at p r.next last) where
      -- they end at the part's next mark, or there is none
      ends : ((r.next < length at) × (p.place + i ≤ get_or at r.next 0) × (e ≡ min last (get_or at r.next 0 - p.place))) ⊎ ((p.to ≤ r.next) × (e ≡ last))
      ends =
          elim (dec_lt r.next p.to) [
            | yes m ↦ inl ((next-inside m).0, past (next-inside m).0, rw (lt-ltb r.next p.to m) at q)
            | no m ↦ inr (omega arith, rw (le-ltb r.next p.to (omega arith)) at q)
          ]

      pub reach-from : i ≤ e
      reach-from = elim ends [ inl m ↦ omega arith | inr m ↦ omega arith ]

      pub reach-to : e ≤ last
      reach-to = elim ends [ inl m ↦ omega arith | inr m ↦ omega arith ]

      -- up to there the next mark stays
      stays : (j : ℕ) → i ≤ j → j ≤ e → next at (p.place + j) ≡ r.next
      stays j a b =
          elim ends [
            | inl m ↦ next-stays at (p.place + i) (p.place + j) (omega arith) (λ _. rw (← g.next) (omega arith)) ∙ sym g.next
            | inr m ↦ omega (arith, next_grows at (p.place + i) (p.place + j) (omega arith), next-to j (omega arith))
          ]

      pub flat : (j : ℕ) → i ≤ j → j ≤ e → total (take j (weights_in ws p)) ≡ total (take i (weights_in ws p))
      flat j a b = omega (arith, by-marks i h, by-marks j (omega (arith, reach-to)), same-marks weights (stays j a b ∙ g.next))

      -- where they end before the last, a mark stands, and it is passed
      module _ (n : e ≢ last) where
        mark-here : (r.next < length at) × (get_or at r.next 0 ≡ p.place + e)
        mark-here = elim ends [ inl m ↦ (m.0, omega arith) | inr m ↦ absurd (n m.1) ]

        pub mark-there : (r.next < length weights) × (get_or weights r.next 0 ≤ 12) × (r.next ≤ 12)
        mark-there =
            let m : r.next < length weights = omega (arith, mark-here.0) in
            (m, d.marked.small _ (at_mem weights r.next 0 m), omega arith)

        past-it : next at (suc (p.place + e)) ≡ suc r.next
        past-it =
            let here : next at (p.place + e) ≡ r.next = stays e reach-from (omega arith) in
            next-on at (p.place + e) d.marked.rising (rw here mark-here.0) (rw here mark-here.1) ∙ ap suc here

        pub passed_on : (r' : Passed) → r'.next ≡ r.next + 1 → r'.left ≡ r.left + get_or weights r.next 0 → PassedTo ws at p (e + 1) r'
        passed_on r' a b =
            let more : next at (p.place + (e + 1)) ≡ suc r.next = ap (next at) (omega arith) ∙ past-it in
            passed_is (e + 1) (omega (arith, reach-to)) r' (omega arith) (counted-one weights (start p) r r' mark-there.0 a b (is-counted i h r g.next g.left))
