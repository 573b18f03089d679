-- The declarative readings of the shares, the table beside a list, the split, the climb and the cells.
use Rattle.std.specs.Prelude.{ℕ, suc, ◌+◌, ◌-◌, ◌*◌, ◌/◌, ◌^◌, ◌≤◌, ◌<◌, ◌≡◌, ◌≢◌, ◌↔◌, List, [], length, get_or}
use Rattle.std.proofs.Math.Option.{none, some}
use Rattle.lists.specs.Lists.{All, total}
use Rattle.slots.specs.Segments.{Segments, keys}
use Rattle.slots.specs.Windows.{count}
use Rattle.levels.specs.Tables.{table_of, table_size, entry_at}
use Rattle.slots.specs.Keys.{Listed, segment_of}
use Rattle.rules.specs.declared.Profile.{Profile}
use Rattle.rules.specs.declared.Request.{Request}
use Rattle.rules.specs.Shares.{Shares, Lawful, capacity, shares, high_by, low_by}
use Rattle.rules.specs.SharingOut.{Fraction, formula6, left_share}
use Rattle.rules.specs.Placing.{Room, chosen, put_in, home, insert_level, outcome}

-- n keys lie from 2^l × low to 2^l × high of level k.
abbrev pub Limits : Shares → ℕ → ℕ → ℕ → Type 0
Limits S l k n = (2 ^ l * S.low k ≤ n) × (n ≤ 2 ^ l * S.high k)

-- THE TABLE OF SHARES is the two formulas of its profile, and its shares are lawful, at every height.
abbrev pub Table : Type 0
Table = (p : Profile) (h l : ℕ) → 1 ≤ h → h ≤ 6 → l ≤ h → ((shares p h).high l ≡ high_by p h l) × ((shares p h).low l ≡ low_by p h l)

abbrev pub TableLawful : Type 0
TableLawful = (p : Profile) (h : ℕ) → 1 ≤ h → h ≤ 6 → Lawful (shares p h)

-- THE TABLE BESIDE A LIST has an entry for each window, which is the number of its keys.
abbrev pub CountsAre : Type 0
CountsAre = (h : ℕ) (ss : Segments) → length ss ≡ 2 ^ h
    → (length (table_of h ss) ≡ table_size h) × ((l s : ℕ) → l ≤ h → s < 2 ^ h → get_or (table_of h ss) (entry_at h l s) 0 ≡ count l s ss)

-- THE SPLIT of a window of level l + 1. Fractions by cross products.
abbrev pub AtMost : Fraction → Fraction → Type 0
AtMost p q = p.num * q.den ≤ q.num * p.den

abbrev pub Below : Fraction → Fraction → Type 0
Below p q = p.num * q.den < q.num * p.den

module _ (S : Shares) (l f : ℕ) (ws : List ℕ) where
  -- i and m − i both lie from 2^l × low to 2^l × high.
  abbrev pub Allowed : ℕ → Type 0
  Allowed i = Limits S l (suc l) i × Limits S l (suc l) (length ws - i) × (i ≤ length ws)

  abbrev pub six : ℕ → Fraction
  six = formula6 (64 * 2 ^ l) f ws

  -- It is allowed; with all weights 0 it is m/2 rounded up; otherwise it makes formula 6 least, and is the least of those that do.
  pub record Split (i : ℕ) : Type 0 where
    pub allowed : Allowed i
    pub even : f + total ws ≡ 0 → i ≡ (length ws + 1) / 2
    pub best : f + total ws ≢ 0 → (j : ℕ) → Allowed j → AtMost (six i) (six j)
    pub ties : f + total ws ≢ 0 → (j : ℕ) → Allowed j → j < i → Below (six i) (six j)

-- Within limits, there is one split, and the rules take it.
abbrev pub SplitIs : Type 0
SplitIs = (S : Shares) → Lawful S → (l f : ℕ) (ws : List ℕ) → l < S.height → Limits S (suc l) (suc l) (length ws)
    → (i : ℕ) → Split S l f ws i ↔ (i ≡ left_share S l f ws)

-- Neither denominator can be 0.
abbrev pub NoZero : Type 0
NoZero = (S : Shares) → Lawful S → (l : ℕ) (ws : List ℕ) → l < S.height → (i : ℕ) → Allowed S l 0 ws i
    → (0 < 64 * 2 ^ l - i) × (0 < 64 * 2 ^ l + i - length ws)

-- THE CLIMB takes the smallest enclosing window, level 1 upward, that is within limits, and none exactly where none is.
pub record Smallest (S : Shares) (s : ℕ) (ss : Segments) (k : ℕ) : Type 0 where
  pub from : 1 ≤ k
  pub to : k ≤ S.height
  pub within : Limits S k k (count k s ss)
  pub first : (j : ℕ) → 1 ≤ j → j < k → ¬ (Limits S j j (count j s ss))

abbrev pub ClimbIs : Type 0
ClimbIs = (S : Shares) (s : ℕ) (ss : Segments)
    → ((k : ℕ) → (chosen S s ss ≡ some k) ↔ Smallest S s ss k)
    × ((chosen S s ss ≡ none) ↔ ((j : ℕ) → 1 ≤ j → j ≤ S.height → ¬ (Limits S j j (count j s ss))))

-- A list: 2^h segments, in which keys rise strictly from 1 up.
pub record Proper (S : Shares) (ss : Segments) : Type 0 where
  pub size : length ss ≡ 2 ^ S.height
  pub listed : Listed ss

-- An insert below capacity, of a key that is not there, into a full segment always finds a window.
abbrev pub InsertFinds : Type 0
InsertFinds = (S : Shares) → Lawful S → (y : ℕ) (ss : Segments) → Proper S ss → 0 < y → All (λ k. k ≢ y) (keys ss)
    → length (keys ss) < capacity S → S.high 0 ≤ length (get_or ss (home y ss) [])
    → (k : ℕ) × (insert_level S y ss ≡ some k) × Smallest S (home y ss) (put_in y ss) k

-- Every cell names its marker's actual segment, after every accepted request.
abbrev pub CellsAim : Type 0
CellsAim = (S : Shares) (q : Request) (R : Room) → (outcome S q R).answer.number ≡ 0
    → All (λ c. c.segment ≡ segment_of (outcome S q R).room.segments c.marker) (outcome S q R).room.cells
