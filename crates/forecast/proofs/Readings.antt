-- What a reading of one cell finds, in words: it is fine, or it is bad in one of six ways.
use mathlib.Core.Path.{◌≡◌, sym, ap, ◌∙◌, subst}
use mathlib.Core.Bool.{Bool, true, false, not, ◌&&◌, ◌||◌}
use mathlib.Core.Logic.{inl, inr, ◌≢◌}
use mathlib.Core.List.{Memᴰ as Mem}
use Prim.Native.Nat.{ℕ, ◌≤◌, ◌<◌}
use native.Mathlib.Omega.{arith}
use lib.Dec.{T, T_not, leb, ltb, eqb, leb→le, nleb→lt, ltb→lt, nltb→le, eqb→eq}
use lib.ListN.{length, take, get_or}
use lib.Seq.{get_or-take, length-take-le}
use Rattle.std.proofs.Common.{if◌then◌else◌}
use Rattle.std.specs.Prelude.{Result, Ok, Err, ⊤}
use Rattle.lists.specs.Lists.{any_of}
use Rattle.lists.proofs.Tests.{and_left, and_right, or_cases, neither, double-not, neqb→ne}
use Rattle.lists.proofs.Members.{mem-at, at_mem}
use Rattle.lists.proofs.Filtered.{any_none, any_some}
use Rattle.slots.specs.Segments.{Segments, keys}
use Rattle.slots.specs.Keys.{member, segment_of}
use Rattle.cells.specs.declared.Cell.{Cell}
use Rattle.cells.specs.Cells.{zero_cell, marks}
use Rattle.cells.proofs.Ruled.{Counted}
use Rattle.forecast.specs.declared.Forecast.{Forecast}
use Rattle.forecast.specs.declared.Fault.{Fault}
use Rattle.forecast.specs.declared.Fault.TheVariants.{NotZero, Count, Repeated, NotLive, Misplaced}
use Rattle.forecast.specs.Cells.{cells}
use Rattle.forecast.specs.Tidy.{Marker}
use Rattle.forecast.specs.Faults.{is_zero, fault_at}
use Rattle.slots.proofs.Keys.{member→mem, mem→member}

-- the cell at a place
abbrev pub nth : Forecast → ℕ → Cell
nth F i = get_or (cells F) i zero_cell

-- the ways in which a forecast is bad
pub data BadBy (P : ℕ) (ss : Segments) (F : Forecast) : Type 0 where
  too_many : P < F.used → BadBy P ss F
  no_count : (i : ℕ) → i < F.used → (nth F i).count < 1 → BadBy P ss F
  over_count : (i : ℕ) → i < F.used → P < (nth F i).count → BadBy P ss F
  repeated : (i j : ℕ) → j < i → i < F.used → i < length (cells F) → (nth F j).marker ≡ (nth F i).marker → BadBy P ss F
  not_live : (i : ℕ) → i < F.used → (nth F i).marker ≢ 0 → ¬ Mem (nth F i).marker (keys ss) → BadBy P ss F
  misplaced : (i : ℕ) → i < F.used → Marker ss (nth F i).marker → (nth F i).segment ≢ segment_of ss (nth F i).marker → BadBy P ss F
  not_zero : (i : ℕ) → F.used ≤ i → i < length (cells F) → nth F i ≢ zero_cell → BadBy P ss F

-- a used cell that is fine
pub record Good (P : ℕ) (ss : Segments) (F : Forecast) (i : ℕ) : Type 0 where
  pub counted : Counted P (nth F i)
  pub new : (j : ℕ) → j < i → (nth F j).marker ≢ (nth F i).marker
  pub live : Marker ss (nth F i).marker
  pub placed : (nth F i).segment ≡ segment_of ss (nth F i).marker

-- a cell that is fine
pub record Fine (P : ℕ) (ss : Segments) (F : Forecast) (i : ℕ) : Type 0 where
  pub used : i < F.used → Good P ss F i
  pub unused : F.used ≤ i → nth F i ≡ zero_cell

-- what a reading of a place says
abbrev pub Says : ℕ → Segments → Forecast → ℕ → Result ⊤ Fault → Type 0
Says P ss F i (Ok x) = Fine P ss F i
Says P ss F i (Err f) = BadBy P ss F

is-zero : (c : Cell) → T (is_zero c) → c ≡ zero_cell
is-zero c t =
    let a = eqb c.marker 0 in
    let b = eqb c.segment 0 in
    let d = eqb c.count 0 in
    let m : c.marker ≡ 0 = eqb→eq _ _ (and_left a b (and_left (a && b) d t)) in
    let s : c.segment ≡ 0 = eqb→eq _ _ (and_right a b (and_left (a && b) d t)) in
    let n : c.count ≡ 0 = eqb→eq _ _ (and_right (a && b) d t) in
    λ i. record { marker = m i; segment = s i; count = n i }

not-zero : (c : Cell) → T (not (is_zero c)) → c ≢ zero_cell
not-zero c t e = subst (λ (d : Cell). T (not (is_zero d))) e t

-- what a test tells, passed or not
abbrev Tells : Bool → Type 0 → Type 0 → Type 0
Tells b Y N = (T b → Y) × (T (not b) → N)

module _ (P : ℕ) (ss : Segments) (F : Forecast) (i : ℕ) (h : i < length (cells F)) where
  abbrev c : Cell
  c = nth F i

  abbrev Bad : Type 0
  Bad = i < F.used → BadBy P ss F

  tells-count : Tells (ltb c.count 1 || ltb P c.count) Bad (Counted P c)
  tells-count = (
    λ t u. elim (or_cases (ltb c.count 1) (ltb P c.count) t) [ inl l ↦ no_count i u (ltb→lt _ _ l) | inr l ↦ over_count i u (ltb→lt _ _ l) ],
    λ t.
        let n = neither (ltb c.count 1) (ltb P c.count) t in
        (nltb→le c.count 1 n.0, nltb→le P c.count n.1),
  )

  front : length (take i (cells F)) ≡ i
  front = length-take-le i (cells F) (omega arith)

  tells-again : Tells (any_of (marks c.marker) (take i (cells F))) Bad ((j : ℕ) → j < i → (nth F j).marker ≢ c.marker)
  tells-again = (
    λ t u. again u (any_some (marks c.marker) (take i (cells F)) t),
    λ t j l e.
        neqb→ne (nth F j).marker c.marker
        (subst (λ (d : Cell). T (not (marks c.marker d))) (get_or-take i (cells F) j zero_cell l) (any_none (marks c.marker) (take i (cells F)) t _ (at_mem (take i (cells F)) j zero_cell (omega (arith, front))))) e,
  )
    where
      found : i < F.used → (d : Cell) → d.marker ≡ c.marker → (j : ℕ) × (j < length (take i (cells F))) × (get_or (take i (cells F)) j zero_cell ≡ d) → BadBy P ss F
      found u d e (j, l, q) =
          let k : j < i = omega (arith, front) in
          repeated i j k u h (ap (λ (b : Cell). b.marker) (sym (get_or-take i (cells F) j zero_cell k) ∙ q) ∙ e)

      again : i < F.used → (d : Cell) × Mem d (take i (cells F)) × T (marks c.marker d) → BadBy P ss F
      again u (d, m, t) = found u d (eqb→eq _ _ t) (mem-at d (take i (cells F)) zero_cell m)

  tells-live : Tells (not (eqb c.marker 0 || member c.marker (keys ss))) Bad (Marker ss c.marker)
  tells-live = (
    λ t u.
        let n = neither (eqb c.marker 0) (member c.marker (keys ss)) t in
        not_live i u (neqb→ne _ _ n.0) (λ m. T_not (member c.marker (keys ss)) n.1 (mem→member _ _ m)),
    λ t.
        elim (or_cases (eqb c.marker 0) (member c.marker (keys ss)) (double-not (eqb c.marker 0 || member c.marker (keys ss)) t)) [
          | inl e ↦ inl (eqb→eq _ _ e)
          | inr m ↦ inr (member→mem c.marker (keys ss) m)
        ],
  )

  tells-place : Tells (not (eqb c.segment (segment_of ss c.marker))) (c.segment ≢ segment_of ss c.marker) (c.segment ≡ segment_of ss c.marker)
  tells-place = (neqb→ne _ _, λ t. eqb→eq _ _ (double-not (eqb c.segment (segment_of ss c.marker)) t))

  -- the reading of a cell says what it finds
  pub read_at : Says P ss F i (fault_at P ss F i)
  unfolding fault_at
  read_at =
      go (leb F.used i) (leb→le _ _, nleb→lt _ _) (is_zero c) (is-zero c, not-zero c) (ltb c.count 1 || ltb P c.count) tells-count
      (any_of (marks c.marker) (take i (cells F))) tells-again (not (eqb c.marker 0 || member c.marker (keys ss))) tells-live
      (not (eqb c.segment (segment_of ss c.marker))) tells-place
    where
      go : (u : Bool) → Tells u (F.used ≤ i) (i < F.used) → (z : Bool) → Tells z (c ≡ zero_cell) (c ≢ zero_cell) → (n : Bool) → Tells n Bad (Counted P c)
          → (r : Bool) → Tells r Bad ((j : ℕ) → j < i → (nth F j).marker ≢ c.marker) → (l : Bool) → Tells l Bad (Marker ss c.marker)
          → (s : Bool) → Tells s (c.segment ≢ segment_of ss c.marker) (c.segment ≡ segment_of ss c.marker)
          → Says P ss F i (if u then (if z then Ok tt else Err (NotZero i)) else if n then Err (Count i) else if r then Err (Repeated i) else if l then Err (NotLive i) else if s then Err (Misplaced i) else Ok tt)
      go true tu true tz n tn r tr l tl s ts = record { used = λ k. absurd (omega (arith, tu.0 tt)); unused = λ k. tz.0 tt }
      go true tu false tz n tn r tr l tl s ts = not_zero i (tu.0 tt) h (tz.1 tt)
      go false tu z tz true tn r tr l tl s ts = tn.0 tt (tu.1 tt)
      go false tu z tz false tn true tr l tl s ts = tr.0 tt (tu.1 tt)
      go false tu z tz false tn false tr true tl s ts = tl.0 tt (tu.1 tt)
      go false tu z tz false tn false tr false tl true ts = misplaced i (tu.1 tt) (tl.1 tt) (ts.0 tt)
      go false tu z tz false tn false tr false tl false ts = record {
        used = λ k. record { counted = tn.1 tt; new = tr.1 tt; live = tl.1 tt; placed = ts.1 tt };
        unused = λ k. absurd (omega (arith, tu.1 tt));
      }
