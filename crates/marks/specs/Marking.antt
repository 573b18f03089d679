-- A request in a window of segments: what the marks of the window's keys, once it is done, are found from.
use Rattle.std.specs.Prelude.{◌≡◌, ℕ, ◌+◌, ◌*◌, ◌<◌, ◌≤◌, not, T, ◌≢◌, List, length, take, drop, get_or, leb}
use Rattle.lists.specs.Lists.{All, insert_at}
use Rattle.lists.specs.Search.{place_by}
use Rattle.slots.specs.Segments.{Segments, keys}
use Rattle.slots.specs.Keys.{member, below, changed, segment_of}
use Rattle.slots.specs.Shown.{Shows, CountsOf}
use Rattle.cells.specs.declared.Cell.{Cell}
use Rattle.forecast.specs.declared.Forecast.{Forecast}
use Rattle.forecast.specs.Cells.{used_cells}
use Rattle.forecast.specs.Tidy.{Marker, Fitting}
use Rattle.marks.specs.declared.Window.{Window}

-- The window's segments.
abbrev pub part : Window → Segments → Segments
part w ss = take w.n (drop w.first ss)

-- Its keys, with the request done.
unfoldable pub after : Window → Segments → List ℕ
after w ss = changed w.grows w.key (keys (part w ss))

-- List and counts reach over the window's segments, which hold at most 64 keys each.
abbrev pub Reached : List ℕ → List ℕ → Window → Type 0
Reached slots counts w = (64 * (w.first + w.n) ≤ length slots) × (w.first + w.n ≤ length counts) × ((k : ℕ) → k < w.first + w.n → get_or counts k 0 ≤ 64)

-- The slots show these segments, with these counts; a key that is put in is from 1 up and is not live, and one that is taken out is in the window.
pub record Asked (slots counts : List ℕ) (w : Window) (ss : Segments) : Type 0 where
  pub shows : Shows ss slots
  pub counted : CountsOf ss counts
  pub put_in : T w.grows → (0 < w.key) × T (not (member w.key (keys ss)))
  pub taken_out : T (not w.grows) → T (member w.key (keys (part w ss)))

-- A cell's marker is 0 or live, and is not the key that is taken out; the cell names its segment.
pub record Aims (w : Window) (ss : Segments) (c : Cell) : Type 0 where
  pub live : Marker ss c.marker
  pub place : c.segment ≡ segment_of ss c.marker
  pub other : T (not w.grows) → c.marker ≢ w.key

-- All that the marks are found from.
pub record Marking (slots counts : List ℕ) (F : Forecast) (w : Window) (ss : Segments) : Type 0 where
  pub asked : Asked slots counts w ss
  pub fitting : Fitting F
  pub cells : All (Aims w ss) (used_cells F)

-- What one cell does to the marks of rising keys: nothing where its marker is no key; else its place and count are put where the place belongs.
pub record OneMarked (c : Cell) (ks at weights at' weights' : List ℕ) : Type 0 where
  pub absent : T (not (member c.marker ks)) → (at' ≡ at) × (weights' ≡ weights)
  pub present : T (member c.marker ks)
      → let p : ℕ = length (below c.marker ks) in
      (at' ≡ insert_at (place_by (leb p) at) p at) × (weights' ≡ insert_at (place_by (leb p) at) c.count weights)
