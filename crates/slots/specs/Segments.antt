-- Document 01, "The list a classroom lends": slots, segments and heights.
use Rattle.std.specs.Prelude.{ℕ, ◌*◌, ◌/◌, ◌^◌, Bool, not, List, map, eqb, length}
use Rattle.std.proofs.Math.Option.{get_or}
use Rattle.lists.specs.Lists.{joined, only, parts}
use Rattle.lists.specs.Search.{first}
-- A segment is 64 slots: the keys stand first, gaps follow.
pub use Rattle.slots.specs.Layout.{pad}
unfoldable pub use Rattle.slots.specs.Layout.{render}

-- A key is a number from 1 up. 0 marks a gap.
abbrev pub is_key : ℕ → Bool
is_key x = not (eqb x 0)

abbrev pub live : List ℕ → List ℕ
live = only is_key

-- The list is 64 × 2^h slots, h from 1 to 6: the height of n slots, or 0 where they are no list.
unfoldable pub height_of : ℕ → ℕ
height_of n = get_or (first (λ h. eqb n (64 * 2 ^ h)) 1 6) 0

-- A list is its segments, each the keys that it holds, in order.
abbrev pub Segments : Type 0
Segments = List (List ℕ)

abbrev pub keys : Segments → List ℕ
keys = joined

-- The segments that slots show: of each 64 slots, the keys.
unfoldable pub segments_of : List ℕ → Segments
segments_of slots = map live (parts 64 (length slots / 64) slots)
