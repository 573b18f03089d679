-- The climb by the table, level by level: limits, the entry that is read, and how it ends.
use mathlib.Core.Path.{◌≡◌, refl, ap, ◌∙◌}
use mathlib.Core.Bool.{true, false, not}
use Rattle.std.specs.Prelude.{None, Some}
use mathlib.Core.List.{List, []}
use Prim.Native.Nat.{ℕ, ◌+◌, ◌-◌, ◌^◌, ◌≤◌, ◌<◌}
use native.Mathlib.Decide.{dec_lt}
use native.Mathlib.Omega.{arith}
use lib.Dec.{T}
use lib.ListN.{length, get_or, set}
use Rattle.lists.proofs.Search.{first-is, first-none}
use Rattle.slots.specs.Segments.{Segments}
use Rattle.slots.specs.Windows.{count}
use Rattle.slots.proofs.Counts.{count-set-in}
use Rattle.levels.specs.Tables.{table_of}
use Rattle.levels.specs.Levels.{entry_of}
use Rattle.levels.proofs.Walks.{entry_in}
use Rattle.levels.proofs.Tables.{length-table, table_is, table-most}
use Rattle.rules.specs.Shares.{Shares, within}
use Rattle.rules.specs.Placing.{chosen}
use Rattle.climbs.specs.Climbs.{Tabled, Climbed}

-- AN ENTRY on the way up: where it stands, what it counts, and with the request done
module _ {h s gone : ℕ} {t : List ℕ} (x : Tabled h s gone t) (k : s < 2 ^ h) (l : ℕ) (p : l ≤ h) where
  pub way_in : entry_of (2 ^ h) s l < length t
  way_in = omega (arith, entry_in h s l k p, ap length x.right, length-table h x.segments x.size)

  counts : (ss : Segments) → length ss ≡ 2 ^ h → t ≡ table_of h ss → get_or t (entry_of (2 ^ h) s l) 0 ≡ count l s ss
  counts ss e r = ap (λ (u : List ℕ). get_or u (entry_of (2 ^ h) s l) 0) r ∙ table_is h ss e l s p k

  pub way-few : get_or t (entry_of (2 ^ h) s l) 0 ≤ 4096
  way-few = rw x.right (omega (arith, table-most h x.segments x.size (entry_of (2 ^ h) s l), x.few))

  pub way-least : gone ≤ get_or t (entry_of (2 ^ h) s l) 0
  way-least =
      omega (
        arith,
        x.there,
        counts x.segments x.size x.right,
        count-set-in x.segments s [] (omega (arith, x.size)) l s refl,
      )

  pub way-count : (ss : Segments) (new : List ℕ) (grown : ℕ) → length ss ≡ 2 ^ h → t ≡ table_of h ss → length new + gone ≡ length (get_or ss s []) + grown
      → get_or t (entry_of (2 ^ h) s l) 0 + grown - gone ≡ count l s (set ss s new)
  way-count ss new grown e r g = omega (arith, counts ss e r, count-set-in ss s new (omega arith) l s refl)

-- NO WINDOW from level 1 to l is within limits
abbrev pub Tried : Shares → ℕ → Segments → ℕ → Type 0
Tried S s ms l = (j : ℕ) → 1 ≤ j → j ≤ l → T (not (within S j (count j s ms)))

-- none so far, and this one not either
pub tried-more : (S : Shares) (s : ℕ) (ms : Segments) (l n : ℕ) → n ≡ count (l + 1) s ms → false ≡ within S (l + 1) n → Tried S s ms l → Tried S s ms (l + 1)
tried-more S s ms l n e f t j p q = elim (dec_lt l j) [
  | yes k ↦ let i : j ≡ l + 1 = omega arith in rw (i, ← e, ← f) tt
  | no k ↦ t j p (omega arith)
]

-- THE END
-- this one is the first within limits
pub climbed-here : (S : Shares) (s : ℕ) (ms : Segments) (l n : ℕ) → l < S.height → n ≡ count (l + 1) s ms → true ≡ within S (l + 1) n → Tried S s ms l
    → Climbed S s ms (Some (record { level = l + 1; keys = n }))
unfolding chosen
climbed-here S s ms l n k e t tried =
    (first-is (λ j. within S j (count j s ms)) 1 S.height (l + 1) (omega arith, rw (← e, ← t) tt, λ j p q. tried j p (omega arith)) (omega arith), e)

-- there is none
pub climbed-none : (S : Shares) (s : ℕ) (ms : Segments) → Tried S s ms S.height → Climbed S s ms None
unfolding chosen
climbed-none S s ms tried = first-none (λ j. within S j (count j s ms)) 1 S.height (λ j p q. tried j p (omega arith))
