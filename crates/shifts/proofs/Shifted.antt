-- The index after a key is put in or taken out where a search for it ended.
use mathlib.Core.Path.{◌≡◌, sym, ap, subst, ◌∙◌}
use mathlib.Core.Bool.{not}
use mathlib.Core.Logic.{inl, inr, ◌≢◌}
use mathlib.Core.List.{List, []}
use Prim.Native.Nat.{ℕ, ◌+◌, ◌-◌, ◌*◌, ◌/◌, ◌^◌, ◌≤◌, ◌<◌}
use native.Mathlib.Omega.{arith}
use lib.Dec.{T}
use lib.ListN.{length, take, drop, get_or, set}
use borrow.Rule.Slice.PartMut.{put_mid}
use Rattle.lists.specs.Lists.{insert_at, without}
use Rattle.lists.proofs.Members.{at_mem, mem-set}
use Rattle.slots.specs.declared.Place.{Place}
use Rattle.slots.specs.Segments.{Segments, keys, render}
use Rattle.slots.specs.Keys.{Rising, member, put, cut}
use Rattle.gaps.specs.Gaps.{opened, closed}
use Rattle.slots.specs.Shown.{Shows, seat, Located}
use Rattle.slots.proofs.Rising.{put-rising, put-mem, length-put, cut-rising, cut-mem, length_cut}
use Rattle.slots.proofs.Keys.{member→mem, not-member, rising_part, keys-put, keys-cut}
use Rattle.slots.proofs.ByPlace.{put-at, cut_at}
use Rattle.slots.proofs.Seats.{seat-between, seat-member}
use Rattle.levels.specs.Tables.{table_of}
use Rattle.tables.specs.Kept.{Summed}
use Rattle.tables.proofs.RightTables.{table-summed}
use Rattle.seats.specs.Bounds.{Bounded, Near, Indexed}
use Rattle.seats.proofs.Indexes.{some-segments, table-many}
use Rattle.bounding.proofs.Changes.{cut-behind}
use Rattle.shifts.proofs.InSegment.{Lies, opened-put, closed-put}
use Rattle.bounding.proofs.Kept.{indexed-set, indexed-put, indexed-one}

-- the walk asks for a table that is right
pub index-summed : {ss : Segments} {list bounds table : List ℕ} → Indexed ss list bounds table → Summed (length table / 2 + 1) table
index-summed {ss} {list} {table = table} ix =
    let e : length table / 2 + 1 ≡ 2 ^ ix.height = table-many ix ∙ ix.size in
    rw e (table-summed ix.height ss table ix.size ix.low ix.shows.fits ix.right)

module _ (y : ℕ) (ss : Segments) (list bounds table : List ℕ) (p : Place) (ix : Indexed ss list bounds table) (at : Located y ss p) where
  abbrev s : ℕ
  s = seat y ss

  abbrev old : List ℕ
  old = get_or ss (seat y ss) []

  inside : seat y ss < length ss
  inside = (seat-between y ss ix.shows.listed (some-segments ix)).0

  many-segments : length ss ≡ length table / 2 + 1
  many-segments = sym (table-many ix)

  -- what the walk promises of a new number of keys and the old one
  abbrev Walks : (ℕ → ℕ → Type 0) → List ℕ → Type 0
  Walks P table' = (h : ℕ) (zs : Segments) (new : List ℕ) → length table / 2 + 1 ≡ 2 ^ h → length zs ≡ length table / 2 + 1 → table ≡ table_of h zs → P (length new) (length (get_or zs p.segment []))
      → table' ≡ table_of h (set zs p.segment new)

  walked : (P : ℕ → ℕ → Type 0) (table' : List ℕ) → Walks P table' → (new : List ℕ) → P (length new) (length old) → table' ≡ table_of ix.height (set ss s new)
  walked P table' did new m =
      subst (λ (j : ℕ). P (length new) (length (get_or ss j [])) → table' ≡ table_of ix.height (set ss j new)) at.segment
      (did ix.height ss new (sym many-segments ∙ ix.size) many-segments ix.right) m

  rises : Rising old
  rises = rising_part ss s inside ix.shows.listed.rising

  -- the slots, as a lent segment comes back
  module _ (a e : ℕ) (last : List ℕ) (start : a ≡ 64 * p.segment) (end : e ≡ a + 64) where
    lies : Lies 0 ss s p.held a e list
    lies = record {
      fits = ix.shows.fits;
      inside = inside;
      held = at.held;
      whole = ix.shows.whole;
      begins = start ∙ ap (λ (k : ℕ). 64 * k) at.segment;
      ends = end;
    }

    -- A NEW KEY
    module _ (t : T (not (member y (keys ss)))) (key : 0 < y) (low : p.at ≤ p.held) (room : p.held < 64) (r : last ≡ opened p.held p.at y (take (e - a) (drop a list))) where
      fresh : T (not (member y old))
      fresh = rw (seat-member y ss ix.shows.listed (some-segments ix)) t

      many : length (put y old) ≡ p.held + 1
      many = omega (arith, length-put y old (not-member y old fresh), at.held)

      shows : Shows (set ss (seat y ss) (put y (get_or ss (seat y ss) []))) (put_mid a (e - a) list last)
      shows =
          record {
            whole =
                opened-put 0 ss s p.held a e list lies p.at last y low room r
                ∙ ap (λ (k : ℕ). render 0 (set ss s (insert_at k y old))) at.at ∙ ap (λ (l : List ℕ). render 0 (set ss s l)) (sym (put-at y old rises fresh));
            fits = λ x m. elim (mem-set ss s (put y old) x inside m) [ inl q ↦ rw q (omega (arith, many)) | inr q ↦ ix.shows.fits x q ];
            listed = record {
              rising = rw (keys-put y ss s (seat-between y ss ix.shows.listed (some-segments ix))) (put-rising y (keys ss) ix.shows.listed.rising);
              live = rw (keys-put y ss s (seat-between y ss ix.shows.listed (some-segments ix))) (λ k m. elim (put-mem y (keys ss) k m) [ inl q ↦ rw q key | inr q ↦ ix.shows.listed.live k q ]);
            };
          }

      pub shifted_in : (table' : List ℕ) → Walks (λ new was. new ≡ was + 1) table'
          → Indexed (set ss (seat y ss) (put y (get_or ss (seat y ss) []))) (put_mid a (e - a) list last) bounds table'
      shifted_in table' did =
          indexed-put ss list bounds table ix (put_mid a (e - a) list last) table' y t shows (walked (λ new was. new ≡ was + 1) table' did (put y old) (omega (arith, many, at.held)))

    -- A LIVE KEY
    module _ (t : T (member y (keys ss))) (low : p.at < p.held) (r : last ≡ closed 0 p.held p.at (take (e - a) (drop a list))) where
      there : T (member y old)
      there = rw (seat-member y ss ix.shows.listed (some-segments ix)) t

      few : length (cut y old) ≡ p.held - 1
      few = omega (arith, length_cut y old rises (member→mem y old there), at.held)

      left : Shows (set ss (seat y ss) (cut y (get_or ss (seat y ss) []))) (put_mid a (e - a) list last)
      left =
          record {
            whole =
                closed-put 0 ss s p.held a e list lies p.at last low r
                ∙ ap (λ (k : ℕ). render 0 (set ss s (without k old))) at.at ∙ ap (λ (l : List ℕ). render 0 (set ss s l)) (sym (cut_at y old rises (member→mem y old there)));
            fits = λ x m. elim (mem-set ss s (cut y old) x inside m) [
              | inl q ↦ rw q (omega (arith, few, at.held, ix.shows.fits old (at_mem ss s [] inside)))
              | inr q ↦ ix.shows.fits x q
            ];
            listed = record {
              rising = rw (keys-cut y ss s (seat-between y ss ix.shows.listed (some-segments ix))) (cut-rising y (keys ss) ix.shows.listed.rising);
              live = rw (keys-cut y ss s (seat-between y ss ix.shows.listed (some-segments ix))) (λ k m. ix.shows.listed.live k (cut-mem y (keys ss) k m));
            };
          }

      -- behind another of its segment
      module _ (table' : List ℕ) (did : Walks (λ new was. new + 1 ≡ was) table') where
        right : table' ≡ table_of ix.height (set ss s (cut y old))
        right = walked (λ new was. new + 1 ≡ was) table' did (cut y old) (omega (arith, few, at.held, low))

        pub shifted-out : p.at ≢ 0 → Indexed (set ss (seat y ss) (cut y (get_or ss (seat y ss) []))) (put_mid a (e - a) list last) bounds table'
        shifted-out n =
            indexed-set ss list bounds table ix (put_mid a (e - a) list last) bounds table' s (cut y old) left
            (cut-behind y ss ix.shows.listed s inside (omega (arith, at.at, n)) 1 bounds ix.bound) right

        -- its segment's first: the bounds are written again
        pub shifted-first : (bounds' : List ℕ)
            → ((m : ℕ) (zs : Segments) → m ≤ p.segment + 1 → Shows zs (put_mid a (e - a) list last) → length zs ≤ 64 → Near m zs p.segment (p.segment + 1) bounds → Bounded m zs bounds')
            → Indexed (set ss (seat y ss) (cut y (get_or ss (seat y ss) []))) (put_mid a (e - a) list last) bounds' table'
        shifted-first bounds' promise =
            indexed-one ss list bounds table ix (put_mid a (e - a) list last) bounds' table' s (cut y old) left (rw at.segment at promise) right
