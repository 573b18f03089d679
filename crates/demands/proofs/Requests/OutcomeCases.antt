-- The outcome of a request by cases: one equation for each way through the tests of an insert and of a delete.
use mathlib.Core.Path.{◌≡◌, ap, ◌∙◌}
use mathlib.Core.Bool.{false, true, not}
use mathlib.Core.Logic.{◌≢◌}
use mathlib.Core.Option.{none, some}
use mathlib.Core.List.{[], Memᴰ as Mem}
use Prim.Native.Nat.{ℕ, ◌+◌, ◌≤◌, ◌<◌}
use native.Mathlib.Omega.{arith}
use lib.Dec.{T, ltb}
use lib.ListN.{length, get_or}
use borrow.Author.Tests.{lt-ltb, le-ltb, le-leb, lt-leb, eq-eqb, ne_eqb}
use Rattle.lists.proofs.Tests.{is_true, is_false}
use Rattle.slots.specs.Segments.{Segments, keys}
use Rattle.slots.specs.Windows.{count}
use Rattle.slots.specs.Keys.{Listed, member, above, cut, predecessor, segment_of}
use Rattle.slots.proofs.Rising.{length-put, length_cut}
use Rattle.slots.proofs.Keys.{not-member, keys-put, keys-cut}
use Rattle.cells.specs.Steps.{noted, dropped}
use Rattle.rules.specs.declared.Request.TheVariants.{Insert, Delete}
use Rattle.rules.specs.Shares.{Shares, capacity, sparse_below, cells_of}
use Rattle.rules.specs.Placing.{Room, refused_by, accept, home, put_in, cut_from, chosen, insert_level, delete_level, sweep, settled, insert_key, delete_key, outcome}
use Rattle.demands.proofs.Sweeping.SweptWindow.{home-in, here_in}

-- the list gains a key, or loses one, before any sweep
pub length-keys-put : (y : ℕ) (ss : Segments) → Listed ss → 0 < length ss → T (not (member y (keys ss))) → length (keys (put_in y ss)) ≡ length (keys ss) + 1
length-keys-put y ss g h t = ap length (keys-put y ss (home y ss) (home-in y ss g h t)) ∙ omega (arith, length-put y (keys ss) (not-member y (keys ss) t))

pub length-keys-cut : (y : ℕ) (ss : Segments) → Listed ss → Mem y (keys ss) → length (keys (cut_from y ss)) + 1 ≡ length (keys ss)
length-keys-cut y ss g m = omega (arith, ap length (keys-cut y ss (segment_of ss y) (here_in y ss g m)), length_cut y (keys ss) g.rising m)

module _ (S : Shares) (y : ℕ) (R : Room) where
  -- AN INSERT refused: key 0, a key that is there, a full list
  pub outcome-insert-zero : y ≡ 0 → outcome S (Insert y) R ≡ refused_by 5 R
  unfolding outcome
  outcome-insert-zero e = rw (eq-eqb y 0 e)

  pub outcome-insert-present : y ≢ 0 → T (member y (keys R.segments)) → outcome S (Insert y) R ≡ refused_by 6 R
  unfolding outcome
  outcome-insert-present n t = rw (ne_eqb y 0 n, is_true (member y (keys R.segments)) t)

  pub outcome-insert-full : y ≢ 0 → T (not (member y (keys R.segments))) → capacity S ≤ length (keys R.segments) → outcome S (Insert y) R ≡ refused_by 8 R
  unfolding outcome
  outcome-insert-full n t c = rw (ne_eqb y 0 n, is_false (member y (keys R.segments)) t, le-leb (capacity S) (length (keys R.segments)) c)

  -- and worked
  module _ (n : y ≢ 0) (t : T (not (member y (keys R.segments)))) (c : length (keys R.segments) < capacity S) where
    insert-works : outcome S (Insert y) R ≡ insert_key S y R
    unfolding outcome
    insert-works = rw (ne_eqb y 0 n, is_false (member y (keys R.segments)) t, lt-leb (capacity S) (length (keys R.segments)) c)

    -- its segment is not full: a shift
    pub insert-shifted : length (get_or R.segments (home y R.segments) []) < S.high 0
        → outcome S (Insert y) R
        ≡ accept (put_in y R.segments) (noted (cells_of S) (predecessor y R.segments) (home y R.segments) R.cells)
        (length (above y (get_or R.segments (home y R.segments) [])) + 1) false false
    unfolding insert_key insert_level settled
    insert-shifted f = insert-works ∙ rw (lt-ltb (length (get_or R.segments (home y R.segments) [])) (S.high 0) f)

    -- it is full: a sweep of the window of level l
    pub insert-swept : (l : ℕ) → S.high 0 ≤ length (get_or R.segments (home y R.segments) []) → chosen S (home y R.segments) (put_in y R.segments) ≡ some l
        → outcome S (Insert y) R
        ≡ accept
        (sweep S l (home y R.segments) (noted (cells_of S) (predecessor y R.segments) (home y R.segments) R.cells) (put_in y R.segments))
        (noted (cells_of S) (predecessor y R.segments) (home y R.segments) R.cells) (count l (home y R.segments) (put_in y R.segments)) true false
    unfolding insert_key insert_level settled
    insert-swept l f e = insert-works ∙ rw (le-ltb (length (get_or R.segments (home y R.segments) [])) (S.high 0) f, e)

  -- A DELETE refused: key 0, a key that is not there
  pub outcome-delete-zero : y ≡ 0 → outcome S (Delete y) R ≡ refused_by 5 R
  unfolding outcome
  outcome-delete-zero e = rw (eq-eqb y 0 e)

  pub outcome-delete-absent : y ≢ 0 → T (not (member y (keys R.segments))) → outcome S (Delete y) R ≡ refused_by 7 R
  unfolding outcome
  outcome-delete-absent n t = rw (ne_eqb y 0 n, is_false (member y (keys R.segments)) t)

  -- and worked
  module _ (n : y ≢ 0) (t : T (member y (keys R.segments))) where
    delete-works : outcome S (Delete y) R ≡ delete_key S y R
    unfolding outcome
    delete-works = rw (ne_eqb y 0 n, is_true (member y (keys R.segments)) t)

    -- no window is swept, for either reason: a shift
    pub delete-stays : delete_level S y R.segments ≡ none
        → outcome S (Delete y) R
        ≡ accept (cut_from y R.segments) (dropped y R.cells) (length (above y (get_or R.segments (segment_of R.segments y) []))) false
        (ltb (length (keys (cut_from y R.segments))) (sparse_below S))
    unfolding delete_key settled
    delete-stays e = delete-works ∙ rw e

    -- it has too few: a sweep of the window of level l
    pub delete-swept : (l : ℕ) → length (cut y (get_or R.segments (segment_of R.segments y) [])) < S.low 0 → chosen S (segment_of R.segments y) (cut_from y R.segments) ≡ some l
        → outcome S (Delete y) R
        ≡ accept (sweep S l (segment_of R.segments y) (dropped y R.cells) (cut_from y R.segments)) (dropped y R.cells)
        (count l (segment_of R.segments y) (cut_from y R.segments)) true (ltb (length (keys (cut_from y R.segments))) (sparse_below S))
    unfolding delete_key delete_level settled
    delete-swept l f e = delete-works ∙ rw (lt-ltb (length (cut y (get_or R.segments (segment_of R.segments y) []))) (S.low 0) f, e)
