-- The tables of shares are their formulas, and their shares are lawful: one computed test each, over both profiles.
use mathlib.Core.Path.{◌≡◌}
use mathlib.Core.Bool.{Bool, ◌&&◌}
use Prim.Native.Nat.{ℕ, zero, suc, ◌+◌, ◌*◌, ◌≤◌, ◌<◌}
use native.Mathlib.Omega.{arith}
use lib.Dec.{T, leb, ltb, eqb, eqb→eq, leb→le, ltb→lt}
use Rattle.lists.proofs.Tests.{and_left, and_right}
use Rattle.lists.proofs.Computed.{all_below, below_at}
use Rattle.rules.specs.declared.Profile.{Profile}
use Rattle.rules.specs.declared.Profile.TheVariants.{First, Second}
use Rattle.rules.specs.Profiles.{most, fewest}
use Rattle.rules.specs.Shares.{shares, high_by, low_by}
use Rattle.rules.specs.Readings.{Table, TableLawful}

-- a test of each level below h + k, for each height h from 1 to 6, in both profiles
abbrev pub everywhere : ℕ → (Profile → ℕ → ℕ → Bool) → Bool
everywhere k t = all_below 6 (λ h. all_below (h + k) (λ l. t First (suc h) l && t Second (suc h) l))

pub at : (k : ℕ) (t : Profile → ℕ → ℕ → Bool) → T (everywhere k t) → (p : Profile) (h l : ℕ) → h < 6 → l < h + k → T (t p (suc h) l)
at k t e p h l hb lb = go p (below_at (h + k) both (below_at 6 (λ h. all_below (h + k) (λ l. t First (suc h) l && t Second (suc h) l)) e h hb) l lb)
  where
    both : ℕ → Bool
    both l = t First (suc h) l && t Second (suc h) l

    go : (p : Profile) → T (both l) → T (t p (suc h) l)
    go First b = and_left (t First (suc h) l) (t Second (suc h) l) b
    go Second b = and_right (t First (suc h) l) (t Second (suc h) l) b

-- THE TABLE is the formulas
abbrev agrees : Profile → ℕ → ℕ → Bool
agrees p h l = eqb ((shares p h).high l) (high_by p h l) && eqb ((shares p h).low l) (low_by p h l)

pub table : Table
table p zero l from to within = absurd (omega arith)
table p (suc h) l from to within = (
  eqb→eq _ _ (and_left (eqb ((shares p (suc h)).high l) (high_by p (suc h) l)) (eqb ((shares p (suc h)).low l) (low_by p (suc h) l)) t),
  eqb→eq _ _ (and_right (eqb ((shares p (suc h)).high l) (high_by p (suc h) l)) (eqb ((shares p (suc h)).low l) (low_by p (suc h) l)) t),
)
  where
    t : T (agrees p (suc h) l)
    t = at 2 agrees tt p h l to (omega arith)

-- ITS SHARES are lawful
pub lawful : TableLawful
lawful p zero from to = absurd (omega arith)
lawful p (suc h) from to = record {
  falls = λ l k. ltb→lt _ _ (at 1 (λ p h l. ltb ((shares p h).high (suc l)) ((shares p h).high l)) tt p h l to (omega arith));
  rises = λ l k. ltb→lt _ _ (at 1 (λ p h l. ltb ((shares p h).low l) ((shares p h).low (suc l))) tt p h l to (omega arith));
  fits = leb→le _ _ (at 1 (λ p h l. leb ((shares p h).high 0) 64) tt p h 0 to (omega arith));
  gaps = λ l k. ltb→lt _ _ (at 1 (λ p h l. ltb ((shares p h).high (suc l)) 64) tt p h l to (omega arith));
  doubled = ltb→lt _ _ (at 1 (λ p h l. ltb (2 * (shares p h).low h) ((shares p h).high h)) tt p h 0 to (omega arith));
}

-- what the table says of a whole list: the most keys that a segment of it holds, and the fewest that are not sparse
pub whole : (p : Profile) (h : ℕ) → 1 ≤ h → h ≤ 6 → ((shares p h).high h ≡ most p) × ((shares p h).low h ≡ fewest p)
whole p zero from to = absurd (omega arith)
whole p (suc h) from to = (
  eqb→eq _ _ (at 1 (λ p h l. eqb ((shares p h).high h) (most p)) tt p h 0 to (omega arith)),
  eqb→eq _ _ (at 1 (λ p h l. eqb ((shares p h).low h) (fewest p)) tt p h 0 to (omega arith)),
)
