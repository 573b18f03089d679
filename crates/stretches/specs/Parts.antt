-- A part of a packed window with the marks in it, its marks passed up to one of its keys, and how far a stretch reaches.
use Rattle.std.specs.Prelude.{ℕ, ◌+◌, ◌-◌, ◌≤◌, min, ◌≡◌, List, leb, ltb, length, take, drop, get_or, if◌then◌else◌}
use Rattle.lists.specs.Lists.{total}
use Rattle.lists.specs.Search.{place_by}
use Rattle.stretches.specs.declared.Part.{Part}
use Rattle.stretches.specs.declared.Passed.{Passed}
use Rattle.stretches.specs.Marks.{Marked}

-- What a part's keys weigh, of a window whose keys weigh ws.
abbrev pub weights_in : List ℕ → Part → List ℕ
weights_in ws p = take p.keys (drop p.place ws)

-- p is a part of a window whose keys weigh ws, with these marks: its marks are those that stand on its keys, and `all` is what it weighs.
pub record PartOf (ws at weights : List ℕ) (p : Part) : Type 0 where
  pub marked : Marked ws at weights
  pub small : length ws ≤ 4096
  pub inside : p.place + p.keys ≤ length ws
  pub from : p.from ≡ place_by (leb p.place) at
  pub to : p.to ≡ place_by (leb (p.place + p.keys)) at
  pub front : p.front ≤ 12
  pub all : p.all ≡ p.front + total (weights_in ws p)

-- The marks on the first i keys of p are passed: r has the next one, and what those weigh with the front.
pub record PassedTo (ws at : List ℕ) (p : Part) (i : ℕ) (r : Passed) : Type 0 where
  pub next : r.next ≡ place_by (leb (p.place + i)) at
  pub left : r.left ≡ p.front + total (take i (weights_in ws p))

-- How far the numbers of keys go on before mark `next` of the part, at most to last.
abbrev pub reach_of : List ℕ → Part → ℕ → ℕ → ℕ
reach_of at p next last = if ltb next p.to then min last (get_or at next 0 - p.place) else last
