-- Refusal 2: keys not strictly rising, or a key after a gap in a segment. The first slot that breaks this, order tested first.
use Rattle.std.specs.Prelude.{ℕ, ◌*◌, ◌/◌, Bool, ◌&&◌, ◌||◌, List, leb, eqb, length, take, drop, get_or, if◌then◌else◌, Result, Ok, Err, ⊤}
use Rattle.std.proofs.Math.Option.{none, some}
use Rattle.lists.specs.Lists.{any_of}
use Rattle.lists.specs.Search.{first}
use Rattle.slots.specs.declared.Disorder.{Disorder}
use Rattle.slots.specs.declared.Disorder.TheVariants.{NotRising, AfterGap}
use Rattle.slots.specs.Segments.{is_key, live}

abbrev pub slot_at : List ℕ → ℕ → ℕ
slot_at slots i = get_or slots i 0

-- Slot i has a key that is not above each key before it.
abbrev pub not_rising : List ℕ → ℕ → Bool
not_rising slots i = is_key (slot_at slots i) && any_of (leb (slot_at slots i)) (live (take i slots))

-- Slot i has a key, and a gap stands before it in its segment.
abbrev pub after_gap : List ℕ → ℕ → Bool
after_gap slots i = is_key (slot_at slots i) && any_of (eqb 0) (drop (i / 64 * 64) (take i slots))

unfoldable pub order_of : List ℕ → Result ⊤ Disorder
order_of slots =
    elim (first (λ i. not_rising slots i || after_gap slots i) 0 (length slots)) [
      | none ↦ Ok tt
      | some i ↦ Err (if not_rising slots i then NotRising i else AfterGap i)
    ]

abbrev pub is_kept : Result ⊤ Disorder → Bool
is_kept (Ok u) = Bool.true
is_kept (Err d) = Bool.false
