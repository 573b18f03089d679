-- No segment overflows and the list keeps to its capacity; an insert into a full segment always finds a window.
use mathlib.Core.Path.{◌≡◌, refl, sym, ap, ◌∙◌, subst}
use mathlib.Core.Bool.{Bool, true, false, not}
use mathlib.Core.Logic.{inl, inr}
use mathlib.Core.Option.{Option, none, some, none-ne-some}
use mathlib.Core.List.Memᴰ.{append_cases as in_either}
use mathlib.Core.List.{List, [], append-nil, Memᴰ as Mem}
use Prim.Native.Nat.{ℕ, suc, ◌+◌, ◌^◌, ◌≤◌, ◌<◌}
use native.Mathlib.Nat.{pow-zero}
use native.Mathlib.Omega.{arith}
use lib.Dec.{T, ltb, ltb→lt, nltb→le}
use borrow.Author.Tests.{le-ltb}
use lib.ListN.{length, take, drop, get_or, set, length-set}
use lib.Seq.{get_or-set_same, take-set-le, drop-set-lt}
use Rattle.std.proofs.Common.{if◌then◌else◌}
use Rattle.lists.specs.Lists.{All}
use Rattle.lists.proofs.Members.{mem-at, at_mem, mem-take, mem-drop, mem-set}
use Rattle.slots.specs.Segments.{Segments, keys}
use Rattle.slots.specs.Windows.{start, window, count}
use Rattle.slots.specs.Keys.{member, put, cut, segment_of}
use Rattle.slots.proofs.Windows.{pow_pos, start-le, lt-end, window-zero}
use Rattle.slots.proofs.Rising.{length-put, length_cut}
use Rattle.slots.proofs.Keys.{not-member, member→mem, segment-mem, in-part, rising_part, home-between, keys-put}
use Rattle.cells.specs.declared.Cell.{Cell}
use Rattle.cells.specs.Cells.{weight}
use Rattle.rules.specs.declared.Request.TheVariants.{Insert, Delete, Bad}
use Rattle.rules.specs.Shares.{Shares, Lawful, capacity}
use Rattle.rules.specs.Placing.{Room, home, put_in, insert_level, delete_level, front_weight, new_window, sweep, settled, chosen, insert_key, delete_key}
use Rattle.rules.specs.Readings.{Limits, Proper, InsertFinds}
use Rattle.demands.specs.Demand3.{SizesKept}
use Rattle.demands.proofs.Sharing.SharingOut.{inside-share_out, length-share_out}
use Rattle.demands.proofs.Sharing.Climb.{within→limits, insert_finds, climb_is}
use Rattle.demands.proofs.Sweeping.Settled.{Asked}
use Rattle.demands.proofs.Requests.Accepted.{insert-accepted, delete-accepted, bad-refused}
use Rattle.demands.proofs.Requests.Moved.{asked-insert, asked-delete, keys-insert, keys-delete}

abbrev Sized : ℕ → Segments → Type 0
Sized b ss = All (λ x. length x ≤ b) ss

-- the segments of a window that is shared out
new-sized : (S : Shares) → Lawful S → (k s : ℕ) (cs : List Cell) (ms : Segments) → 1 ≤ k → k ≤ S.height → Limits S k k (count k s ms) → Sized (S.high 0) (new_window S k s cs ms)
new-sized S L k s cs ms p q h x m = omega (arith, c, rw (pow-zero 2) at i.1, L.falls 0 (omega arith))
  where
    new : Segments
    new = new_window S k s cs ms

    a : (t : ℕ) × (t < length new) × (get_or new t [] ≡ x)
    a = mem-at x new [] m

    e : length new ≡ 2 ^ k
    e = length-share_out S (weight cs) (front_weight k s cs) k (keys (window k s ms))

    i : Limits S 0 1 (count 0 a.0 new)
    i = inside-share_out S L (weight cs) (front_weight k s cs) k (keys (window k s ms)) q h 0 a.0 p (omega (arith, a.1, e))

    c : count 0 a.0 new ≡ length x
    c = ap (λ (ys : Segments). length (keys ys)) (window-zero a.0 new [] a.1) ∙ ap length (append-nil (get_or new a.0 []) ∙ a.2)

-- a request at segment s that leaves new there before any sweep; segments have at most m keys
module _ (S : Shares) (L : Lawful S) (m : ℕ) (h₀ : S.high 0 ≤ m) (ss : Segments) (s : ℕ) (new : List ℕ) (cs : List Cell) (n : ℕ) (b : Bool) (f : s < length ss) (z : Sized m ss) where
  settled-sized : (r : Option ℕ) → Asked S s (set ss s new) r → (r ≡ none → length new ≤ m) → Sized m (settled S s cs (set ss s new) n b r).room.segments
  unfolding settled sweep
  settled-sized none a h x i = elim (mem-set ss s new x f i) [ inl e ↦ rw e (h refl) | inr o ↦ z x o ]
  settled-sized (some k) a h x i =
      elim (in_either (take (start k s) (set ss s new)) i) [
        | inl o ↦ z x (mem-take (start k s) ss x (subst (Mem x) (take-set-le (start k s) ss s new (start-le k s)) o))
        | inr o ↦
            elim (in_either (new_window S k s cs (set ss s new)) o) [
              | inl i ↦ omega (arith, new-sized S L k s cs (set ss s new) a.0.0 a.1 (within→limits S k _ a.0.1) x i)
              | inr i ↦ z x (mem-drop (start k s + 2 ^ k) ss x (subst (Mem x) (drop-set-lt (start k s + 2 ^ k) ss s new (lt-end k s)) i))
            ]
      ]

-- a segment that is full always has a window to sweep
full-finds : (S : Shares) → Lawful S → (y : ℕ) (ss : Segments) → length ss ≡ 2 ^ S.height → home y ss < length ss
    → length (put y (get_or ss (home y ss) [])) ≡ suc (length (get_or ss (home y ss) [])) → length (keys (put_in y ss)) ≤ capacity S
    → insert_level S y ss ≡ none → length (put y (get_or ss (home y ss) [])) ≤ S.high 0
unfolding insert_level
full-finds S L y ss n f e c = go (ltb (length (get_or ss (home y ss) [])) (S.high 0)) (ltb→lt _ _) (nltb→le _ _)
  where
    go : (b : Bool) → (T b → length (get_or ss (home y ss) []) < S.high 0) → (T (not b) → S.high 0 ≤ length (get_or ss (home y ss) []))
        → (if b then none else chosen S (home y ss) (put_in y ss)) ≡ none → length (put y (get_or ss (home y ss) [])) ≤ S.high 0
    go true p q r = omega (arith, p tt)
    go false p q r =
        absurd (none-ne-some _ (sym r ∙
        (insert_finds S L (home y ss) (put_in y ss) (length-set ss _ _ ∙ n) (omega arith) (rw (get_or-set_same ss (home y ss) (put y (get_or ss (home y ss) [])) [] f) (omega (arith, q tt))) c).1))

module _ (S : Shares) (L : Lawful S) (m : ℕ) (h₀ : S.high 0 ≤ m) (y : ℕ) (R : Room) (K : Proper S R.segments) (z : Sized m R.segments) where
  sized-insert : T (not (member y (keys R.segments))) → length (keys R.segments) < capacity S
      → Sized m (insert_key S y R).room.segments × (length (keys (insert_key S y R).room.segments) ≤ capacity S)
  unfolding insert_key
  sized-insert t c = (
    settled-sized S L m h₀ R.segments s (put y seg) _ _ _ f z (insert_level S y R.segments) (asked-insert S y R.segments f e) (λ r. omega (arith, none-fits r)),
    rw (keys-insert S y R K.listed p t) (omega (arith, length-put y (keys R.segments) (not-member y (keys R.segments) t))),
  )
    where
      s : ℕ
      s = home y R.segments

      seg : List ℕ
      seg = get_or R.segments s []

      p : 0 < length R.segments
      p = omega (arith, K.size, pow_pos S.height)

      f : home y R.segments < length R.segments
      f = (home-between y R.segments K.listed p (not-member y (keys R.segments) t)).0

      e : length (put y (get_or R.segments (home y R.segments) [])) ≡ suc (length (get_or R.segments (home y R.segments) []))
      e = length-put y (get_or R.segments (home y R.segments) []) (λ k m. not-member y (keys R.segments) t k (in-part R.segments (home y R.segments) f k m))

      none-fits : insert_level S y R.segments ≡ none → length (put y (get_or R.segments (home y R.segments) [])) ≤ S.high 0
      none-fits =
          full-finds S L y R.segments K.size f e
          (rw (keys-put y R.segments (home y R.segments) (home-between y R.segments K.listed p (not-member y (keys R.segments) t)))
          (omega (arith, length-put y (keys R.segments) (not-member y (keys R.segments) t))))

  sized-delete : Mem y (keys R.segments) → length (keys R.segments) ≤ capacity S
      → Sized m (delete_key S y R).room.segments × (length (keys (delete_key S y R).room.segments) ≤ capacity S)
  unfolding delete_key
  sized-delete i c = (
    settled-sized S L m h₀ R.segments s (cut y seg) _ _ _ f z (delete_level S y R.segments) (asked-delete S y R.segments f)
        (λ r. omega (arith, e, z seg (at_mem R.segments s [] f))),
    rw (keys-delete S y R K.listed i) (omega (arith, length_cut y (keys R.segments) K.listed.rising i)),
  )
    where
      s : ℕ
      s = segment_of R.segments y

      seg : List ℕ
      seg = get_or R.segments s []

      f : segment_of R.segments y < length R.segments
      f = (segment-mem R.segments y (K.listed.live y i) i).0

      e : suc (length (cut y (get_or R.segments (segment_of R.segments y) []))) ≡ length (get_or R.segments (segment_of R.segments y) [])
      e = length_cut y (get_or R.segments (segment_of R.segments y) []) (rising_part R.segments (segment_of R.segments y) f K.listed.rising) (segment-mem R.segments y (K.listed.live y i) i).1

pub sizes_kept : SizesKept
sizes_kept S L (Insert y) R K t m h z c = rw (insert-accepted S y R t).is (sized-insert S L m h y R K z (insert-accepted S y R t).fresh (insert-accepted S y R t).room)
sizes_kept S L (Delete y) R K t m h z c =
    rw (delete-accepted S y R t).is (sized-delete S L m h y R K z (member→mem y (keys R.segments) (delete-accepted S y R t).present) c)
sizes_kept S L Bad R K t m h z c = absurd (bad-refused S R t)

-- AN INSERT FINDS A WINDOW
pub insert-always-finds : InsertFinds
unfolding insert_level
insert-always-finds S L y ss K p n c f = rw (le-ltb (length (get_or ss (home y ss) [])) (S.high 0) f) (k.0, k.1, ((climb_is S (home y ss) (put_in y ss)).0 k.0).0 k.1)
  where
    b : (home y ss < length ss) × All (λ k. k < y) (keys (take (home y ss) ss)) × All (λ k. y < k) (keys (drop (suc (home y ss)) ss))
    b = home-between y ss K.listed (omega (arith, K.size, pow_pos S.height)) n

    more : S.high 0 < length (get_or (put_in y ss) (home y ss) [])
    more =
        rw (get_or-set_same ss (home y ss) (put y (get_or ss (home y ss) [])) [] b.0)
        (omega (arith, length-put y (get_or ss (home y ss) []) (λ k m. n k (in-part ss (home y ss) b.0 k m))))

    few : length (keys (put_in y ss)) ≤ capacity S
    few = rw (keys-put y ss (home y ss) b) (omega (arith, length-put y (keys ss) n))

    k : (k : ℕ) × (chosen S (home y ss) (put_in y ss) ≡ some k) × (1 ≤ k) × (k ≤ S.height) × Limits S k k (count k (home y ss) (put_in y ss))
    k = insert_finds S L (home y ss) (put_in y ss) (length-set ss _ _ ∙ K.size) (omega (arith, b.0, K.size)) more few
