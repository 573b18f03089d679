-- The constant tables' rows are the rules' shares: one computed test of the highs of both profiles, and one of the lows.
use mathlib.Core.Path.{◌≡◌, refl, sym, ap, ◌∙◌}
use mathlib.Core.Bool.{Bool, ◌&&◌}
use mathlib.Core.List.{List, [], ◌∷◌, ◌++◌, map}
use Prim.Native.Nat.{ℕ, zero, suc, ◌-◌, ◌≤◌, ◌<◌}
use native.Mathlib.Omega.{arith}
use lib.Dec.{T, leb, eqb, eqb→eq, leb→le}
use Rattle.lists.proofs.Tests.{and_left, and_right}
use lib.ListN.{length, take, replicate, get_or, length-take, length-append}
use Rattle.std.proofs.Math.ListN.{get_or-map}
use Rattle.rules.specs.declared.Profile.{Profile}
use Rattle.rules.specs.declared.Profile.TheVariants.{First, Second}
use Rattle.rules.specs.Shares.{shares, row_at, high_rows, low_rows}
use Rattle.rules.proofs.Sharing.Table.{everywhere, at}
use Rattle.shares.specs.Rows.{Row, Rows}
use Rattle.shares.specs.declared.LevelShares.{LevelShares}

-- the constants' rows: those of the rules, filled up with 0
abbrev wide : List (List ℕ) → List (List ℕ)
wide = map (λ r. take 7 (r ++ replicate 7 0))

-- an entry is the share, and no larger than this
abbrev right : (Profile → List (List ℕ)) → (Profile → ℕ → ℕ → ℕ) → ℕ → Profile → ℕ → ℕ → Bool
right rows f bound p h l = eqb (row_at (wide (rows p)) h l) (f p h l) && leb (row_at (wide (rows p)) h l) bound

read : (rows : Profile → List (List ℕ)) (f : Profile → ℕ → ℕ → ℕ) (bound : ℕ) → T (everywhere 2 (right rows f bound))
    → (p : Profile) (h l : ℕ) → 1 ≤ h → h ≤ 6 → l ≤ h → (row_at (wide (rows p)) h l ≡ f p h l) × (row_at (wide (rows p)) h l ≤ bound)
read rows f bound t p zero l from to within = absurd (omega arith)
read rows f bound t p (suc h) l from to within =
    let x : ℕ = row_at (wide (rows p)) (suc h) l in
    let r : T (right rows f bound p (suc h) l) = at 2 (right rows f bound) t p h l to (omega arith) in
    (eqb→eq _ _ (and_left (eqb x (f p (suc h) l)) (leb x bound) r), leb→le _ _ (and_right (eqb x (f p (suc h) l)) (leb x bound) r))

-- so no share is above 64, and no low one above 20
pub high_small : (p : Profile) (h l : ℕ) → 1 ≤ h → h ≤ 6 → l ≤ h → (shares p h).high l ≤ 64
high_small p h l from to within = let e = read high_rows (λ p h l. (shares p h).high l) 64 tt p h l from to within in omega (arith, e.0, e.1)

pub low_small : (p : Profile) (h l : ℕ) → 1 ≤ h → h ≤ 6 → l ≤ h → (shares p h).low l ≤ 20
low_small p h l from to within = let e = read low_rows (λ p h l. (shares p h).low l) 20 tt p h l from to within in omega (arith, e.0, e.1)

-- each row is as wide as the constants, so it has an entry for each level
wide-long : (rows : List (List ℕ)) (k : ℕ) → k < length rows → length (get_or (wide rows) k []) ≡ 7
wide-long [] k h = absurd (omega arith)
wide-long (r ∷ rows) zero h = simp (length-take, length-append) (omega arith)
wide-long (r ∷ rows) (suc k) h = wide-long rows k (omega arith)

-- a row of the constants has the shares of its height
row_of : (rows : Profile → List (List ℕ)) (f : Profile → ℕ → ℕ → ℕ) (bound : ℕ) → ((p : Profile) → length (rows p) ≡ 6) → T (everywhere 2 (right rows f bound))
    → (p : Profile) (h : ℕ) → (1 ≤ h) × (h ≤ 6) → Row h (f p h) (get_or (wide (rows p)) (h - 1) []) × (row_at (wide (rows p)) h h ≤ bound)
row_of rows f bound six t p h i = (
  record { long = omega (arith, wide-long (rows p) (h - 1) (omega (arith, six p))); is = λ l k. (read rows f bound t p h l i.0 i.1 k).0 },
  (read rows f bound t p h h i.0 i.1 (omega arith)).1,
)

pub high-told : (p : Profile) (h : ℕ) → (1 ≤ h) × (h ≤ 6) → Row h (shares p h).high (get_or (wide (high_rows p)) (h - 1) []) × (row_at (wide (high_rows p)) h h ≤ 64)
high-told = row_of high_rows (λ p h l. (shares p h).high l) 64 six tt
  where
    six : (p : Profile) → length (high_rows p) ≡ 6
    six First = refl
    six Second = refl

pub low_told : (p : Profile) (h : ℕ) → (1 ≤ h) × (h ≤ 6) → Row h (shares p h).low (get_or (wide (low_rows p)) (h - 1) []) × (row_at (wide (low_rows p)) h h ≤ 20)
low_told = row_of low_rows (λ p h l. (shares p h).low l) 20 six tt
  where
    six : (p : Profile) → length (low_rows p) ≡ 6
    six First = refl
    six Second = refl

-- the rows of a profile beside one another, as the code's table of it has them
abbrev pub table : Profile → List LevelShares
table p = map (λ k. record { highs = get_or (wide (high_rows p)) k []; lows = get_or (wide (low_rows p)) k [] }) (0 ∷ 1 ∷ 2 ∷ 3 ∷ 4 ∷ 5 ∷ [])

-- so an entry of it has the shares of its height
abbrev pub Told : Profile → ℕ → LevelShares → Type 0
Told p h r = Rows (shares p h) r.lows r.highs × (get_or r.highs h 0 ≤ 64) × (get_or r.lows h 0 ≤ 20)

pub table-told : (p : Profile) (h : ℕ) → (1 ≤ h) × (h ≤ 6) → Told p h (get_or (table p) (h - 1) (record { highs = []; lows = [] }))
table-told p h i =
    let none : LevelShares = record { highs = []; lows = [] } in
    let high : get_or (wide (high_rows p)) (h - 1) [] ≡ (get_or (table p) (h - 1) none).highs = ap (λ rows. get_or rows (h - 1) []) (sym (highs p)) ∙ get_or-map (λ (r : LevelShares). r.highs) (table p) (h - 1) none in
    let low : get_or (wide (low_rows p)) (h - 1) [] ≡ (get_or (table p) (h - 1) none).lows = ap (λ rows. get_or rows (h - 1) []) (sym (lows p)) ∙ get_or-map (λ (r : LevelShares). r.lows) (table p) (h - 1) none in
    rw (sym high, sym low) (record { low = (low_told p h i).0; high = (high-told p h i).0 }, (high-told p h i).1, (low_told p h i).1)
  where
    highs : (p : Profile) → map (λ (r : LevelShares). r.highs) (table p) ≡ wide (high_rows p)
    highs First = refl
    highs Second = refl

    lows : (p : Profile) → map (λ (r : LevelShares). r.lows) (table p) ≡ wide (low_rows p)
    lows First = refl
    lows Second = refl
