-- A sweep and what is settled: keys, the number of segments, and the counts of windows inside, round and beside it.
use mathlib.Core.Path.{◌≡◌, refl, sym, ap, ◌∙◌}
use mathlib.Core.Bool.{Bool, not}
use mathlib.Core.Logic.{◌⊎◌, inl, inr}
use mathlib.Core.Option.{Option, none, some}
use mathlib.Core.List.{List, map}
use Prim.Native.Nat.{ℕ, zero, suc, ◌+◌, ◌-◌, ◌*◌, ◌^◌, ◌≤◌, ◌<◌}
use native.Mathlib.Decide.{dec_le}
use native.Mathlib.Omega.{arith}
use lib.Dec.{T, T_not, leb, eqb, leb→le, le→leb, eqb→eq}
use lib.ListN.{length, length-map}
use Rattle.lists.specs.Lists.{total, splice}
use Rattle.lists.proofs.Tests.{and_left, and_right, and_both, eq→eqb}
use Rattle.lists.proofs.Joined.{length-joined}
use Rattle.lists.proofs.Maps.{map-splice, length-splice}
use Rattle.lists.proofs.Search.{First}
use Rattle.slots.specs.Segments.{Segments, keys}
use Rattle.slots.specs.Windows.{start, window, count}
use Rattle.slots.proofs.Windows.{start_fits, start-le, lt-end}
use Rattle.slots.proofs.Counts.{Outside, ends_above, ends-beside, window-splice, window-inside, count-window}
use Rattle.slots.proofs.Keys.{keys-splice}
use Rattle.cells.specs.declared.Cell.{Cell}
use Rattle.cells.specs.Cells.{weight}
use Rattle.rules.specs.Shares.{Shares, Lawful, within}
use Rattle.rules.specs.Placing.{front_weight, new_window, sweep, settled}
use Rattle.rules.specs.Readings.{Limits}
use Rattle.demands.specs.History.{sweeps_at}
use Rattle.demands.proofs.Sharing.SharingOut.{inside-share_out, length-share_out, keys-share_out}
use Rattle.demands.proofs.Sharing.Climb.{within→limits, limits→within}

-- a sweep loses no key, adds none and keeps their order, whichever window and whatever the forecast
pub keys-sweep : (S : Shares) (l s : ℕ) (cs : List Cell) (ss : Segments) → keys (sweep S l s cs ss) ≡ keys ss
unfolding sweep
keys-sweep S l s cs ss =
    keys-splice (start l s) (2 ^ l) (new_window S l s cs ss) ss
    (keys-share_out S (weight cs) (front_weight l s cs) l (keys (window l s ss)))

pub keys-settled : (S : Shares) (s : ℕ) (cs : List Cell) (ss : Segments) (n : ℕ) (b : Bool) (r : Option ℕ) → keys (settled S s cs ss n b r).room.segments ≡ keys ss
unfolding settled
keys-settled S s cs ss n b none = refl
keys-settled S s cs ss n b (some l) = keys-sweep S l s cs ss

-- the number of segments
pub length-sweep : (S : Shares) (l s : ℕ) (cs : List Cell) (ss : Segments) (h : ℕ) → l ≤ h → s < 2 ^ h → length ss ≡ 2 ^ h → length (sweep S l s cs ss) ≡ 2 ^ h
unfolding sweep
length-sweep S l s cs ss h p q e =
    length-splice (start l s) (2 ^ l) (new_window S l s cs ss) ss (length-share_out S (weight cs) (front_weight l s cs) l (keys (window l s ss))) (omega (arith, start_fits l h s p q)) ∙ e

abbrev pub AtMost : ℕ → Option ℕ → Type 0
AtMost h none = Unit {0}
AtMost h (some l) = l ≤ h

pub length-settled : (S : Shares) (s : ℕ) (cs : List Cell) (ss : Segments) (n : ℕ) (b : Bool) (r : Option ℕ) (h : ℕ) → AtMost h r → s < 2 ^ h
    → length ss ≡ 2 ^ h → length (settled S s cs ss n b r).room.segments ≡ 2 ^ h
unfolding settled
length-settled S s cs ss n b none h p q e = e
length-settled S s cs ss n b (some l) h p q e = length-sweep S l s cs ss h p q e

-- not within limits
outside-limits : (S : Shares) (l c : ℕ) → T (not (within S l c)) → (2 ^ l * S.high l < c) ⊎ (c < 2 ^ l * S.low l)
outside-limits S l c t =
    elim (dec_le (2 ^ l * S.low l) c) [
      | yes p ↦ elim (dec_le c (2 ^ l * S.high l)) [ yes q ↦ absurd (T_not (within S l c) t (limits→within S l c (p, q))) | no q ↦ inl (omega arith) ]
      | no p ↦ inr (omega arith)
    ]

-- a sweep of the window of level k round s: what it does to the windows that are not inside it
module _ (S : Shares) (k s : ℕ) (cs : List Cell) (ms : Segments) (h : start k s + 2 ^ k ≤ length ms) where
  length-new : length (new_window S k s cs ms) ≡ 2 ^ k
  length-new = length-share_out S (weight cs) (front_weight k s cs) k (keys (window k s ms))

  total-new : total (map length (new_window S k s cs ms)) ≡ total (window k s (map length ms))
  total-new = sym (length-joined (new_window S k s cs ms)) ∙ ap length (keys-share_out S (weight cs) (front_weight k s cs) k (keys (window k s ms))) ∙ count-window k s ms

  pub sweep-leaves : (l t : ℕ) → Outside k s (start l t) × Outside k s (start l t + 2 ^ l) → count l t (sweep S k s cs ms) ≡ count l t ms
  unfolding sweep
  sweep-leaves l t o =
      count-window l t (splice (start k s) (2 ^ k) (new_window S k s cs ms) ms)
      ∙ ap (λ (ns : List ℕ). total (window l t ns)) (map-splice length (start k s) (2 ^ k) (new_window S k s cs ms) ms)
      ∙ window-splice k s l t (map length (new_window S k s cs ms)) (map length ms) (length-map (new_window S k s cs ms) length ∙ length-new)
      (omega (arith, length-map ms length)) total-new o
      ∙ sym (count-window l t ms)

  pub sweep-inside : Lawful S → k ≤ S.height → Limits S k k (count k s ms) → (l t : ℕ) → l < k → start k s ≡ start k t → Limits S l (suc l) (count l t (sweep S k s cs ms))
  unfolding sweep
  sweep-inside L p q l t r e =
      rw (window-inside k s l t (new_window S k s cs ms) ms length-new (omega arith) (omega arith) e)
      (inside-share_out S L (weight cs) (front_weight k s cs) k (keys (window k s ms)) p q l (t - start k s) r (omega (arith, lt-end k t, start-le k t)))

-- what is known of a request's level: the smallest window within limits, and that the segment asked for it
abbrev pub Asked : Shares → ℕ → Segments → Option ℕ → Type 0
Asked S s ms none = Unit {0}
Asked S s ms (some k) =
    First (λ l. within S l (count l s ms)) 1 k × (k ≤ S.height) × ((2 ^ 0 * S.high 0 < count 0 s ms) ⊎ (count 0 s ms < 2 ^ 0 * S.low 0))

-- a request at segment s, with ms the segments after it and before any sweep
module _ (S : Shares) (L : Lawful S) (s : ℕ) (cs : List Cell) (ms : Segments) (n : ℕ) (b : Bool) (e : length ms ≡ 2 ^ S.height) (q : s < 2 ^ S.height) where
  abbrev end : Option ℕ → Segments
  end r = (settled S s cs ms n b r).room.segments

  -- a half of a window that it does not sweep keeps its count
  pub kept : (r : Option ℕ) → Asked S s ms r → (l t : ℕ) → T (not (sweeps_at (suc l) t s r)) → count l t (end r) ≡ count l t ms
  unfolding settled
  kept none a l t u = refl
  kept (some k) a l t u =
      elim (dec_le k l) [
        | yes p ↦ sweep-leaves S k s cs ms f l t (ends_above k l s t p)
        | no p ↦ sweep-leaves S k s cs ms f l t (ends-beside k l s t (omega arith) (λ c. T_not (sweeps_at (suc l) t s (some k)) u (and_both (leb (suc l) k) (eqb (start k s) (start k t)) (le→leb (suc l) k (omega arith)) (eq→eqb (start k s) (start k t) c))))
      ]
    where
      f : start k s + 2 ^ k ≤ length ms
      f = omega (arith, start_fits k S.height s a.1 q)

  -- a half of a window that it sweeps is left within the shares of the window's level
  pub left : (r : Option ℕ) → Asked S s ms r → (l t : ℕ) → T (sweeps_at (suc l) t s r) → Limits S l (suc l) (count l t (end r))
  unfolding settled
  left none a l t u = absurd u
  left (some k) a l t u =
      sweep-inside S k s cs ms (omega (arith, start_fits k S.height s a.1 q)) L a.1 (within→limits S k _ a.0.1) l t
      (leb→le (suc l) k (and_left (leb (suc l) k) (eqb (start k s) (start k t)) u))
      (eqb→eq _ _ (and_right (leb (suc l) k) (eqb (start k s) (start k t)) u))

  -- the half that it falls in, of a window that it sweeps, is not within its limits
  pub cause : (r : Option ℕ) → Asked S s ms r → (l : ℕ) → T (sweeps_at (suc l) s s r) → (2 ^ l * S.high l < count l s ms) ⊎ (count l s ms < 2 ^ l * S.low l)
  cause none a l u = absurd u
  cause (some k) a zero u = a.2
  cause (some k) a (suc l) u =
      outside-limits S (suc l) (count (suc l) s ms)
      (a.0.2 (suc l) (omega arith) (leb→le (suc (suc l)) k (and_left (leb (suc (suc l)) k) (eqb (start k s) (start k s)) u)))
