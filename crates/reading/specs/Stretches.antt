-- What the loops under a reading find, in any slots.
use Rattle.std.specs.Prelude.{ℕ, ◌-◌, ◌≤◌, ◌<◌, ◌≡◌, not, ◌||◌, ◌≢◌, List, T, leb, eqb, length, take, if◌then◌else◌}
use Rattle.slots.specs.declared.Disorder.{Disorder}
use Rattle.slots.specs.declared.Disorder.TheVariants.{NotRising, AfterGap}
use Rattle.slots.specs.Segments.{live}
use Rattle.slots.specs.Orders.{slot_at, not_rising, after_gap}

-- From slot a up to r each slot is above the one before it, or above last at a; r is e or breaks that.
abbrev pub before : List ℕ → ℕ → ℕ → ℕ → ℕ
before slots a last i = if eqb i a then last else slot_at slots (i - 1)

pub record Rises (slots : List ℕ) (a e last r : ℕ) : Type 0 where
  pub from : a ≤ r
  pub to : r ≤ e
  pub rises : (i : ℕ) → a ≤ i → i < r → before slots a last i < slot_at slots i
  pub stops : r < e → slot_at slots r ≤ before slots a last r

-- The slots from a up to r are gaps; r is e or holds a key.
pub record AllGaps (slots : List ℕ) (a e r : ℕ) : Type 0 where
  pub from : a ≤ r
  pub to : r ≤ e
  pub gaps : (i : ℕ) → a ≤ i → i < r → slot_at slots i ≡ 0
  pub stops : r < e → slot_at slots r ≢ 0

-- What is known of the slots below j: none breaks the order, top is the largest, and keys of them hold keys.
pub record Sound (slots : List ℕ) (j top keys : ℕ) : Type 0 where
  pub faultless : (k : ℕ) → k < j → T (not (not_rising slots k || after_gap slots k))
  pub most : (k : ℕ) → k < j → slot_at slots k ≤ top
  pub there : top ≢ 0 → (k : ℕ) × (k < j) × (slot_at slots k ≡ top)
  pub many : keys ≡ length (live (take j slots))

-- How the key x breaks the order at slot j, where top is the largest key before it.
abbrev pub break_of : ℕ → ℕ → ℕ → Disorder
break_of x top j = if leb x top then NotRising j else AfterGap j
