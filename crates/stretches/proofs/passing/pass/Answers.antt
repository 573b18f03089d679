-- `pass` passes the marks on the first keys of a part.
use Rattle.std.proofs.Common.{◌≡◌, ℕ, ◌+◌, ◌≤◌, ◌<◌, List, length, get_or, refl, subst, arith}
use Rattle.std.proofs.lemmas.List.{get_or-map}
use lib.ListN.{length-map}
use Rattle.lists.proofs.Members.{at_mem}
use Rattle.stretches.specs.declared.Part.{Part}
use Rattle.stretches.specs.Marks.{places_of, weights_of}
use Rattle.stretches.specs.Parts.{PartOf, PassedTo}
use Rattle.stretches.proofs.NextMark.{next, next-in, next-hit, next_more, next_grows}
use Rattle.stretches.proofs.Parts.{Counted, start, counted-one, marks-small, next-to, passed_is}
use Rattle.stretches.proofs.passing.pass.Goals as goal
use Rattle.stretches.proofs.passing.pass.Goals.{Start}

module _ (s : Start) where
  abbrev at : List ℕ
  at = places_of s.args.marks.now

  abbrev weights : List ℕ
  weights = weights_of s.args.marks.now

  abbrev part : Part
  part = s.args.part

  abbrev i : ℕ
  i = s.args.i

  -- the part is one of some window, for the bounds
  is : PartOf s.requires.by_index.0 at weights part
  is = s.requires.by_index.1

  -- its marks are among the marks
  inside : (k : ℕ) → k < part.to → k < length s.args.marks.now
  inside k h = omega (arith, is.to, next-in at (part.place + part.keys), length-map s.args.marks.now (λ m. m.place))

  place-at : (k : ℕ) → k < part.to → get_or at k 0 ≡ (get_or s.args.marks.now k (record { place = 0; weight = 0 })).place
  place-at k h = get_or-map (λ m. m.place) s.args.marks.now k (record { place = 0; weight = 0 }) 0 (inside k h)

  weight-at : (k : ℕ) → k < part.to → get_or weights k 0 ≡ (get_or s.args.marks.now k (record { place = 0; weight = 0 })).weight
  weight-at k h = get_or-map (λ m. m.weight) s.args.marks.now k (record { place = 0; weight = 0 }) 0 (inside k h)

  module _ (k left : ℕ) (inv : (k ≤ next at (part.place + i)) × Counted weights (start part) (record { next = k; left = left })) where
    -- the next mark stands past the keys, or is not the part's
    hit : part.place + i ≤ get_or at k 0 → (ws : List ℕ) → PartOf ws at weights part → PassedTo ws at part i (record { next = k; left = left })
    hit h ws d = passed_is ws at weights part d i s.requires.i_le_keys (record { next = k; left = left }) (omega (arith, next-hit at (part.place + i) k h)) inv.1

    end : part.to ≤ k → (ws : List ℕ) → PartOf ws at weights part → PassedTo ws at part i (record { next = part.to; left = left })
    end h ws d =
        let last : k ≡ part.to = omega (arith, next-to ws at weights part d i s.requires.i_le_keys) in
        let there : part.to ≡ next at (part.place + i) = omega (arith, next-to ws at weights part d i s.requires.i_le_keys) in
        passed_is ws at weights part d i s.requires.i_le_keys (record { next = part.to; left = left }) there
        (subst (λ (n : ℕ). Counted weights (start part) (record { next = n; left = left })) last inv.1)

    -- it stands on one of them: it is passed
    module _ (h : k < part.to) where
      few : (left ≤ 300) × (get_or weights k 0 ≤ 12)
      few =
          let l : k < length weights = omega (arith, inside k h, length-map s.args.marks.now (λ m. m.weight)) in
          (omega (arith, is.front, marks-small s.requires.by_index.0 at weights part is k), is.marked.small _ (at_mem weights k 0 l))

      on : get_or at k 0 < part.place + i → (k + 1 ≤ next at (part.place + i)) × Counted weights (start part) (record { next = k + 1; left = left + get_or weights k 0 })
      on l = (
        omega (arith, next_more at (part.place + i) k inv.0 (omega (arith, inside k h, length-map s.args.marks.now (λ m. m.place))) l),
        counted-one weights (start part) (record { next = k; left = left }) (record { next = k + 1; left = left + get_or weights k 0 }) (omega (arith, inside k h, length-map s.args.marks.now (λ m. m.weight))) refl refl inv.1,
      )

pub overflow_add-place : goal.overflow_add-place
overflow_add-place c =
    let fits : c.args.part.place + c.args.i ≤ 4096 = omega (arith, (is (goal.at.overflow_add-place c).Start).inside, (is (goal.at.overflow_add-place c).Start).small) in
    omega arith

pub loop-next-init : goal.loop-next-init
loop-next-init c =
    (omega (arith, (is (goal.at.loop-next-init c).Start).from, next_grows (places_of c.args.marks.now) c.args.part.place (c.args.part.place + c.args.i) (omega arith)), refl)

pub offset_bounds-marks-next : goal.offset_bounds-marks-next
offset_bounds-marks-next c = omega (arith, inside (goal.at.offset_bounds-marks-next c).Start _ c.loop-next-test.true)

pub bounds-marks-next : goal.bounds-marks-next
bounds-marks-next c = inside (goal.at.bounds-marks-next c).Start _ c.loop-next-test.true

pub returns-then-place-mark : goal.returns-then-place-mark
returns-then-place-mark c =
    let s = (goal.at.returns-then-place-mark c).Start in
    hit s c.loop-next.next c.loop-next.left c.loop-next.invariant (omega (arith, place-at s c.loop-next.next c.loop-next-test.true, c.if-place-mark.true))

pub overflow_add-left : goal.overflow_add-left
overflow_add-left c =
    let s = (goal.at.overflow_add-left c).Start in
    omega (arith, weight-at s c.loop-next.next c.loop-next-test.true, few s c.loop-next.next c.loop-next.left c.loop-next.invariant c.loop-next-test.true)

pub loop-next-preserved : goal.loop-next-preserved
loop-next-preserved c =
    let s = (goal.at.loop-next-preserved c).Start in
    rw (← weight-at s c.loop-next.next c.loop-next-test.true)
    (on s c.loop-next.next c.loop-next.left c.loop-next.invariant c.loop-next-test.true (omega (arith, place-at s c.loop-next.next c.loop-next-test.true, c.if-place-mark.false)))

pub returns : goal.returns
returns c =
    end (goal.at.returns c).Start c.loop-next.next c.loop-next.left c.loop-next.invariant c.loop-next-test.false
