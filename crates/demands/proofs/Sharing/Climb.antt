-- Climbing: the smallest window within limits, and that an insert into a full segment always finds one.
use mathlib.Core.Path.{◌≡◌, refl, subst}
use mathlib.Core.Bool.{Bool, true, false, ◌&&◌, not}
use mathlib.Core.Option.{Option, none, some}
use mathlib.Core.List.{[], map, append-nil}
use Prim.Native.Nat.{ℕ, zero, suc, ◌+◌, ◌*◌, ◌^◌, ◌≤◌, ◌<◌}
use native.Mathlib.Nat.{mul-le-mul_left, le_refl, one-mul, pow-zero}
use native.Mathlib.Omega.{arith}
use lib.Dec.{T, T_not, not_T, leb, leb→le, le→leb, nleb→lt}
use lib.ListN.{length, get_or}
use Rattle.lists.proofs.Tests.{and_left, and_right, and_both}
use Rattle.lists.specs.Search.{first}
use Rattle.lists.proofs.Search.{First, Firsts, firsts, first-is, first-none}
use Rattle.slots.specs.Segments.{Segments, keys}
use Rattle.slots.specs.Windows.{count}
use Rattle.slots.proofs.Windows.{double, window-mono, window-all, window-zero}
use Rattle.slots.proofs.Counts.{count-window}
use Rattle.rules.specs.Shares.{Shares, Lawful, within, capacity}
use Rattle.rules.specs.Placing.{chosen}
use Rattle.rules.specs.Readings.{Limits, Smallest, ClimbIs}
use Rattle.demands.proofs.Sharing.SharingOut.{fair}

pub within→limits : (S : Shares) (l c : ℕ) → T (within S l c) → Limits S l l c
within→limits S l c t = (leb→le _ _ (and_left (leb (2 ^ l * S.low l) c) (leb c (2 ^ l * S.high l)) t), leb→le _ _ (and_right (leb (2 ^ l * S.low l) c) (leb c (2 ^ l * S.high l)) t))

-- not within limits, and not below: above
above-limits : (a b c : ℕ) → T (not (leb a c && leb c b)) → a ≤ c → b < c
above-limits a b c t h = go (leb a c) (le→leb a c h) t
  where
    go : (x : Bool) → T x → T (not (x && leb c b)) → b < c
    go true y u = nleb→lt c b u
    go false y u = absurd y

-- THE CLIMB in words
pub limits→within : (S : Shares) (l c : ℕ) → Limits S l l c → T (within S l c)
limits→within S l c k = and_both (leb (2 ^ l * S.low l) c) (leb c (2 ^ l * S.high l)) (le→leb _ _ k.0) (le→leb _ _ k.1)

-- what is known of the chosen level
pub chosen-first : (S : Shares) (s : ℕ) (ss : Segments) → Firsts (λ l. within S l (count l s ss)) 1 S.height (chosen S s ss)
unfolding chosen
chosen-first S s ss = firsts (λ l. within S l (count l s ss)) 1 S.height

pub smallest : (S : Shares) (s : ℕ) (ss : Segments) (k : ℕ) → First (λ l. within S l (count l s ss)) 1 k → k ≤ S.height → Smallest S s ss k
smallest S s ss k f h = record {
  from = f.0;
  to = h;
  within = within→limits S k (count k s ss) f.1;
  first = λ j p q w. T_not (within S j (count j s ss)) (f.2 j p q) (limits→within S j (count j s ss) w);
}

pub climb_is : ClimbIs
unfolding chosen
climb_is S s ss = (
  λ k. (λ e. there k (subst (Firsts ok 1 S.height) e (firsts ok 1 S.height)), λ m. first-is ok 1 S.height k (back k m) (omega (arith, m.to))),
  (
    λ e j p q w. T_not (ok j) (subst (Firsts ok 1 S.height) e (firsts ok 1 S.height) j p (omega arith)) (limits→within S j (count j s ss) w),
    λ n. first-none ok 1 S.height (λ j p q. not_T (ok j) (λ t. n j p (omega arith) (within→limits S j (count j s ss) t))),
  ),
)
  where
    ok : ℕ → Bool
    ok l = within S l (count l s ss)

    there : (k : ℕ) → Firsts ok 1 S.height (some k) → Smallest S s ss k
    there k f = smallest S s ss k f.0 (omega (arith, f.1))

    back : (k : ℕ) → Smallest S s ss k → First ok 1 k
    back k m = (m.from, limits→within S k (count k s ss) m.within, λ j p q. not_T (ok j) (λ t. m.first j p q (within→limits S j (count j s ss) t)))

-- the counts of the windows round one segment, level by level
module _ (S : Shares) (L : Lawful S) (c : ℕ → ℕ) (mono : (l : ℕ) → c l ≤ c (suc l)) (room : c S.height ≤ capacity S) (full : S.high 0 < c 0) where
  abbrev ok : ℕ → Bool
  ok l = within S l (c l)

  less-than : (l : ℕ) → l < S.height → 2 * S.low (suc l) ≤ S.high l
  less-than l k = omega (arith, fair S L (suc l) k, L.falls l k)

  -- above the limits of a level, and so not below those of the next
  over : ((j : ℕ) → 1 ≤ j → j < 1 + S.height → T (not (ok j))) → (l : ℕ) → l ≤ S.height → 2 ^ l * S.high l < c l
  over h zero k = rw (pow-zero 2, one-mul) full
  over h (suc l) k =
      above-limits (2 ^ suc l * S.low (suc l)) (2 ^ suc l * S.high (suc l)) (c (suc l)) (h (suc l) (omega arith) (omega arith))
      (rw double (omega (arith, mul-le-mul_left (2 ^ l) (less-than l k), over h l (omega arith), mono l)))

  -- an insert into a full segment of a list below its capacity finds a window
  pub finds : (k : ℕ) × (first ok 1 S.height ≡ some k) × First ok 1 k × (k ≤ S.height)
  finds = go (first ok 1 S.height) (firsts ok 1 S.height)
    where
      go : (r : Option ℕ) → Firsts ok 1 S.height r → (k : ℕ) × (r ≡ some k) × First ok 1 k × (k ≤ S.height)
      go none h = absurd (omega (arith, over h S.height (le_refl _), room))
      go (some k) h = (k, refl, h.0, omega arith)

-- the same of the segments: ss has the new key in segment s, which was full
pub insert_finds : (S : Shares) → Lawful S → (s : ℕ) (ss : Segments) → length ss ≡ 2 ^ S.height → s < 2 ^ S.height
    → S.high 0 < length (get_or ss s []) → length (keys ss) ≤ capacity S
    → (k : ℕ) × (chosen S s ss ≡ some k) × (1 ≤ k) × (k ≤ S.height) × Limits S k k (count k s ss)
unfolding chosen
insert_finds S L s ss e hs full room = (f.0, f.1, f.2.0, f.3, within→limits S f.0 _ f.2.1)
  where
    c : ℕ → ℕ
    c l = count l s ss

    mono : (l : ℕ) → c l ≤ c (suc l)
    mono l = rw (count-window l s ss, count-window (suc l) s ss) (window-mono l s (map length ss))

    f : (k : ℕ) × (chosen S s ss ≡ some k) × First (λ l. within S l (c l)) 1 k × (k ≤ S.height)
    f = finds S L c mono (rw (window-all S.height s ss hs e) room) (rw (window-zero s ss [] (omega arith), append-nil) full)
