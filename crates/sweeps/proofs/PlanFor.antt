-- What the plan of a sweep stands on: of an accepted request that sweeps a window, the window with its limits, its marks, and its keys then.
use mathlib.Core.Path.{◌≡◌, refl, sym, ap, ap₂, subst, ◌∙◌}
use mathlib.Core.Bool.{Bool}
use mathlib.Core.List.{List, ◌++◌, map}
use Prim.Native.Nat.{ℕ, zero, suc, ◌+◌, ◌*◌, ◌/◌, ◌^◌, ◌≤◌, ◌<◌}
use native.Mathlib.Nat.{le_trans, mul-le-mul_left, pow-le-pow_right}
use native.Mathlib.Omega.{arith}
use lib.Dec.{eqb}
use lib.ListN.{length, get_or, length-map}
use lib.Seq.{take_all, take-append-le}
use Rattle.std.proofs.Common.{if◌then◌else◌}
use Rattle.slots.specs.Segments.{Segments, keys, segments_of}
use Rattle.slots.specs.Windows.{start, window, count}
use Rattle.slots.proofs.Windows.{start-le, lt-end, start_fits}
use Rattle.slots.proofs.Within.{changed-within}
use Rattle.cells.specs.declared.Cell.{Cell}
use Rattle.cells.specs.Cells.{weight}
use Rattle.forecast.specs.declared.Forecast.{Forecast}
use Rattle.forecast.specs.Cells.{used_cells}
use Rattle.rules.specs.Shares.{Shares, Lawful}
use Rattle.rules.specs.SharingOut.{plan}
use Rattle.rules.specs.Placing.{front_weight}
use Rattle.rules.specs.Readings.{Limits}
use Rattle.rules.specs.Calls.{room_of}
use Rattle.shares.specs.declared.Shape.{Shape}
use Rattle.shares.specs.Rows.{shares_at}
use Rattle.stretches.specs.Marks.{Marked}
use Rattle.stretches.specs.declared.Part.{Part}
use Rattle.stretches.specs.Parts.{weights_in, PartOf}
use Rattle.planning.specs.Parts.{whole_of}
use Rattle.planning.specs.Plans.{Planned as WithinLimits}
use Rattle.planning.proofs.Parts.{whole_part}
use Rattle.marks.specs.declared.Window.{Window}
use Rattle.marks.specs.Marking.{after, Marking}
use Rattle.seats.proofs.Indexes.{few-segments, table-holds, counts-held, count_small}
use Rattle.aims.specs.declared.Aim.{Aim}
use Rattle.aims.proofs.Standing.{height-stands, lawful-stands, segments-stand, long-stands}
use Rattle.sweeps.specs.Acts.{cells_for, done_in, Acting, Noted, plan_for, Planned}
use Rattle.sweeps.proofs.SweptLevel.{Sweeps, acting-sweeps}

abbrev window_of : (first n y : ℕ) → Bool → Window
window_of first n y g = record { first = first; n = n; key = y; grows = g }

-- no share is above what a segment has slots
high_fits : (S : Shares) → Lawful S → (l : ℕ) → 1 ≤ l → l ≤ S.height → S.high l ≤ 64
high_fits S L zero p h = absurd (omega arith)
high_fits S L (suc l) p h = omega (arith, L.gaps l h)

-- THE WINDOW that an accepted request sweeps
module _ {slots : List ℕ} {F : Forecast} {bounds table : List ℕ} {k : Shape} {r : Aim} (A : Acting slots F bounds table k r) (level : 1 ≤ r.level) where
  abbrev S : Shares
  S = shares_at k

  swept : Sweeps (shares_at k) (room_of slots F) r.grows r.key r.level r.segment
  swept = acting-sweeps A level

  pub level-small : r.level ≤ 6
  level-small = omega (arith, swept.small.to, height-stands A.stands)

  -- its keys then are the moves, few and within its limits
  pub moves-are : r.moves ≡ count r.level r.segment (done_in r.grows r.key (segments_of slots))
  moves-are = A.moves ∙ swept.moves

  pub planned : (n : ℕ) → n ≡ 2 ^ r.level → WithinLimits (shares_at k) r.level n r.moves
  planned n e = record {
    lawful = lawful-stands A.stands;
    height = (height-stands A.stands).1;
    level = swept.small.to;
    segments = e;
    limits = subst (Limits S r.level r.level) (sym moves-are) swept.small.within;
  }

  pub moves-few : r.moves ≤ 4096
  moves-few =
      let high : r.moves ≤ 2 ^ r.level * 64 =
      le_trans (planned _ refl).limits.1 (mul-le-mul_left (2 ^ r.level) (high_fits S (lawful-stands A.stands) r.level level swept.small.to)) in
      let few : 2 ^ r.level ≤ 64 = pow-le-pow_right {n = 2} (omega arith) {i = r.level} {j = 6} level-small in
      omega arith

  -- its n segments from `first` on
  module _ {n first : ℕ} (size : n ≡ 2 ^ r.level) (begins : first ≡ r.segment / n * n) where
    first-start : first ≡ start r.level r.segment
    first-start = begins ∙ ap (λ (j : ℕ). r.segment / j * j) size

    ends : first + n ≤ length (segments_of slots)
    ends =
        let size_is : length (segments_of slots) ≡ 2 ^ k.height = segments-stand A.stands in
        let fits : start r.level r.segment + 2 ^ r.level ≤ 2 ^ k.height =
        start_fits r.level k.height r.segment swept.small.to (omega (arith, swept.between.0)) in
        omega (arith, first-start)

    pub first-few : first ≤ 64
    first-few = omega (arith, ends, few-segments A.index)

    -- are in the list and in the table
    pub lent : (64 * (first + n) ≤ length slots) × (first + n ≤ length table) × ((j : ℕ) → j < first + n → get_or table j 0 ≤ 64)
    lent = (
      omega (arith, ends, segments-stand A.stands, long-stands A.stands),
      omega (arith, ends, table-holds A.index),
      λ j h. count_small A.index j (omega (arith, ends)),
    )

    abbrev w : Window
    w = window_of first n r.key r.grows

    same-window : window_of (start r.level r.segment) (2 ^ r.level) r.key r.grows ≡ window_of first n r.key r.grows
    same-window = ap₂ (λ (f m : ℕ). window_of f m r.key r.grows) (sym first-start) (sym size)

    done : after (window_of first n r.key r.grows) (segments_of slots) ≡ keys (window r.level r.segment (done_in r.grows r.key (segments_of slots)))
    unfolding after
    done =
        ap (λ (v : Window). after v (segments_of slots)) (sym same-window)
        ∙ sym (ap (λ (z : Segments). keys (window r.level r.segment z)) swept.done
        ∙ changed-within (start r.level r.segment) (2 ^ r.level) (segments_of slots) r.segment (start-le r.level r.segment) (lt-end r.level r.segment) r.key swept.between r.grows)

    -- with the request noted its keys have their marks
    module _ {N : Forecast} (noted : Noted slots F k r N) where
      pub marking : Marking slots table N (window_of first n r.key r.grows) (segments_of slots)
      marking = subst (λ (v : Window). Marking slots table N v (segments_of slots)) same-window (swept.marks slots table N A.index.shows (counts-held A.index) noted.is)

      abbrev ws : List ℕ
      ws = map (weight (used_cells N)) (after (window_of first n r.key r.grows) (segments_of slots))

      long : length ws ≡ r.moves
      long = length-map (after w (segments_of slots)) (weight (used_cells N)) ∙ ap length done ∙ sym moves-are

      -- with the front's weight the plan is asked for all of them
      module _ {front : ℕ} (weighs : front ≡ (if eqb first 0 then weight (used_cells N) 0 else 0)) where
        front-is : front ≡ front_weight r.level r.segment (cells_for (shares_at k) r.grows r.key (room_of slots F))
        front-is = weighs ∙ ap₂ (λ (j : ℕ) (cs : List Cell). if eqb j 0 then weight cs 0 else 0) first-start noted.is

        pub front-small : front ≤ 12
        front-small = omega (arith, front-is, swept.front)

        pub part : {at weights : List ℕ} → Marked ws at weights → PartOf ws at weights (whole_of weights r.moves front)
        part {at} {weights} m =
            subst (λ (j : ℕ). PartOf ws at weights (whole_of weights j front)) long (whole_part ws at weights front m (omega (arith, long, moves-few)) front-small)

        -- and what it gives is the plan of the rules
        ws-are : ws ≡ map (weight (cells_for (shares_at k) r.grows r.key (room_of slots F))) (keys (window r.level r.segment (done_in r.grows r.key (segments_of slots))))
        ws-are = ap₂ (λ (cs : List Cell) (ks : List ℕ). map (weight cs) ks) noted.is done

        plan-is : {p : Part} (weights : List ℕ) → p ≡ whole_of weights r.moves front → plan (shares_at k) r.level p.front (weights_in ws p) ≡ plan_for slots F k r
        unfolding plan_for
        plan-is weights e =
            ap (λ (q : Part). plan S r.level q.front (weights_in ws q)) e
            ∙ ap (plan S r.level front) (take_all r.moves ws (omega (arith, long)))
            ∙ ap₂ (plan S r.level) front-is ws-are

        -- back in a buffer, it stands in front
        pub plan-back : {p : Part} (weights last rest : List ℕ) → p ≡ whole_of weights r.moves front → length last ≡ n → last ≡ plan (shares_at k) r.level p.front (weights_in ws p)
            → Planned slots F k r (last ++ rest)
        plan-back weights last rest e l q =
            take-append-le (2 ^ r.level) last rest (omega (arith, size)) ∙ take_all (2 ^ r.level) last (omega (arith, size)) ∙ q ∙ plan-is weights e
