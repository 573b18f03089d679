-- What a newcomer does to the keys that are dealt out, where there is one, and which card it has.
use Rattle.std.specs.Prelude.{ℕ, ◌<◌, ◌≡◌, List, Option, Some, None}
use Rattle.lists.specs.Lists.{insert_at}
use Rattle.spreads.specs.declared.Newcomer.{Newcomer}

-- The slots with it put in at its place.
abbrev pub entered : Option Newcomer → List ℕ → List ℕ
entered (Some n) l = insert_at n.place n.key l
entered None l = l

-- f gives its card.
abbrev pub Carded : (ℕ → ℕ) → Option Newcomer → Type 0
Carded f (Some n) = f n.key ≡ n.card
Carded f None = Unit {0}

-- Its place is among the first m.
abbrev pub Among : ℕ → Option Newcomer → Type 0
Among m (Some n) = n.place < m
Among m None = Unit {0}
