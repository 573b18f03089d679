-- Document 01, "Placing and removing": insert and delete on a list that has passed its check.
use Rattle.std.specs.Prelude.{ℕ, ◌+◌, ◌^◌, Bool, true, false, not, List, [], leb, ltb, eqb, length, get_or, set, if◌then◌else◌}
use Rattle.std.proofs.Math.Option.{Option, none, some}
use Rattle.lists.specs.Lists.{splice}
use Rattle.lists.specs.Search.{first}
use Rattle.slots.specs.Segments.{Segments, keys}
use Rattle.slots.specs.Windows.{start, window, count}
use Rattle.slots.specs.Keys.{member, above, put, cut, predecessor, segment_of}
use Rattle.cells.specs.declared.Cell.{Cell}
use Rattle.cells.specs.Cells.{weight}
use Rattle.cells.specs.Steps.{noted, dropped, retargeted}
use Rattle.rules.specs.declared.Request.{Request}
use Rattle.rules.specs.declared.Request.TheVariants.{Insert, Delete, Bad}
use Rattle.rules.specs.Shares.{Shares, within, capacity, sparse_below, cells_of}
use Rattle.rules.specs.SharingOut.{share_out}

-- A list with its forecast.
pub record Room : Type 0 where
  pub segments : Segments
  pub cells : List Cell

-- What a request answers.
pub record Answer : Type 0 where
  pub number : ℕ
  pub moves : ℕ
  pub sparse : Bool

-- What a request answers and leaves, and whether it swept a window.
pub record Outcome : Type 0 where
  pub room : Room
  pub answer : Answer
  pub swept : Bool

-- Refused: the number and zero moves; list and forecast stay.
abbrev pub refused : ℕ → Answer
refused n = record { number = n; moves = 0; sparse = false }

abbrev pub refused_by : ℕ → Room → Outcome
refused_by n R = record { room = R; answer = refused n; swept = false }

-- Accepted: every cell then names its marker's actual segment.
abbrev pub accept : Segments → List Cell → ℕ → Bool → Bool → Outcome
accept ss cs moves swept sparse = record {
  room = record { segments = ss; cells = retargeted (segment_of ss) cs };
  answer = record { number = 0; moves = moves; sparse = sparse };
  swept = swept;
}

-- The key goes to the predecessor's segment, or segment 0 for the front.
abbrev pub home : ℕ → Segments → ℕ
home y ss = segment_of ss (predecessor y ss)

-- The segments with the key put in, or taken out, before any sweep.
abbrev pub put_in : ℕ → Segments → Segments
put_in y ss = set ss (home y ss) (put y (get_or ss (home y ss) []))

abbrev pub cut_from : ℕ → Segments → Segments
cut_from y ss = set ss (segment_of ss y) (cut y (get_or ss (segment_of ss y) []))

-- The level of the smallest enclosing window, level 1 upward, that is within limits, if there is one. In ss the request is done.
unfoldable pub chosen : Shares → ℕ → Segments → Option ℕ
chosen S s ss = first (λ l. within S l (count l s ss)) 1 S.height

-- An insert sweeps where its segment does not hold under the high share of level 0 (64 keys; second profile: 58); a delete where it now
-- holds under the low (7; 6).
unfoldable pub insert_level : Shares → ℕ → Segments → Option ℕ
insert_level S y ss = let level = chosen S (home y ss) (put_in y ss) in if ltb (length (get_or ss (home y ss) [])) (S.high 0) then none else level

unfoldable pub delete_level : Shares → ℕ → Segments → Option ℕ
delete_level S y ss =
    let level = chosen S (segment_of ss y) (cut_from y ss) in
    if ltb (length (cut y (get_or ss (segment_of ss y) []))) (S.low 0) then level else none

-- The front's weight counts in a window that begins at slot 0.
abbrev pub front_weight : ℕ → ℕ → List Cell → ℕ
front_weight l s cs = if eqb (start l s) 0 then weight cs 0 else 0

-- The window of level l round segment s, shared out by the forecast, and the segments with it.
abbrev pub new_window : Shares → ℕ → ℕ → List Cell → Segments → Segments
new_window S l s cs ss = share_out S (weight cs) (front_weight l s cs) l (keys (window l s ss))

unfoldable pub sweep : Shares → ℕ → ℕ → List Cell → Segments → Segments
sweep S l s cs ss = splice (start l s) (2 ^ l) (new_window S l s cs ss) ss

-- ss with the window of this level swept, if there is one: the moves are then the keys in it, else those of the shift.
unfoldable pub settled : Shares → ℕ → List Cell → Segments → ℕ → Bool → Option ℕ → Outcome
settled S s cs ss shift sparse none = accept ss cs shift false sparse
settled S s cs ss shift sparse (some l) = accept (sweep S l s cs ss) cs (count l s ss) true sparse

-- Insert: note the predecessor first. Moves = keys shifted + 1, unless it sweeps.
unfoldable pub insert_key : Shares → ℕ → Room → Outcome
insert_key S y R =
    let ss : Segments = R.segments in
    let s : ℕ = home y ss in
    let cs : List Cell = noted (cells_of S) (predecessor y ss) s R.cells in
    settled S s cs (put_in y ss) (length (above y (get_or ss s [])) + 1) false (insert_level S y ss)

-- Delete: drop the marker's cell if there is one. Moves = keys shifted, unless it sweeps. Sparse exactly when the list now holds under
-- 13 × 2^h keys (second profile: 20 × 2^h).
unfoldable pub delete_key : Shares → ℕ → Room → Outcome
delete_key S y R =
    let ss : Segments = R.segments in
    let s : ℕ = segment_of ss y in
    let cs : List Cell = dropped y R.cells in
    let sparse : Bool = ltb (length (keys (cut_from y ss))) (sparse_below S) in
    settled S s cs (cut_from y ss) (length (above y (get_or ss s []))) sparse (delete_level S y ss)

-- A request on a list and forecast that have passed their check: refusals 5 to 8, in order of testing, then the work.
-- Bad is no request: a run stops before it, and no call makes one; its line here only makes the function whole.
unfoldable pub outcome : Shares → Request → Room → Outcome
outcome S (Insert y) R =
    if eqb y 0 then refused_by 5 R
    else if member y (keys R.segments) then refused_by 6 R
    else if leb (capacity S) (length (keys R.segments)) then refused_by 8 R
    else insert_key S y R
outcome S (Delete y) R =
    if eqb y 0 then refused_by 5 R
    else if not (member y (keys R.segments)) then refused_by 7 R
    else delete_key S y R
outcome S Bad R = refused_by 9 R
