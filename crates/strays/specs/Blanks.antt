-- Cards that are 0, and what is known of cards gathered in lanes.
use Rattle.std.specs.Prelude.{ℕ, ◌≤◌, ◌<◌, ◌≡◌, List, get_or}
use Rattle.strays.specs.declared.Lanes.{Lanes}

-- The cards from place a up to e are 0.
abbrev pub Blank : List ℕ → ℕ → ℕ → Type 0
Blank cards a e = (k : ℕ) → a ≤ k → k < e → get_or cards k 0 ≡ 0

-- Each lane is 0.
abbrev pub Clear : Lanes → Type 0
Clear l = (l.w ≡ 0) × (l.x ≡ 0) × (l.y ≡ 0) × (l.z ≡ 0)

-- r is l with the cards from a up to e: it is 0 where l and those are, and nowhere else.
pub record Gathers (cards : List ℕ) (a e : ℕ) (l r : Lanes) : Type 0 where
  pub none : Clear l → Blank cards a e → Clear r
  pub before : Clear r → Clear l
  pub blank : Clear r → Blank cards a e
