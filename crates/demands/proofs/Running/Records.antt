-- The records of a run's bytes, each where the one before it ends: the n-th stands after the bytes of the first n.
use mathlib.Core.Path.{◌≡◌, refl, sym, ap, ap₂, ◌∙◌}
use mathlib.Core.Logic.{◌≢◌, ◌↔◌}
use mathlib.Core.List.Memᴰ.{head as here}
use mathlib.Core.List.Memᴰ.{tail as there}
use mathlib.Core.List.{List, [], ◌∷◌, ◌++◌, map}
use Prim.Native.Nat.{ℕ, zero, suc, ◌+◌, ◌-◌, ◌≤◌, ◌<◌}
use native.Mathlib.Decide.{dec_le}
use native.Mathlib.Omega.{arith}
use lib.ListN.{length, take, drop, get_or, length-drop, length-take}
use lib.Seq.{drop-nil, drop-drop, get_or-drop, drop-append-le}
use Rattle.lists.specs.Lists.{All, total}
use Rattle.lists.proofs.Members.{mem-take}
use Rattle.rules.specs.declared.Request.TheVariants.{Bad}
use Rattle.rules.specs.declared.Record.{Record}
use Rattle.rules.specs.Runs.{asking, record_of, records, records_of}
use Rattle.demands.proofs.Running.RecordBytes.{size-some, size_fits, record-take, record-append, no_bytes, drop-take}

-- the bytes of records
abbrev pub sizes : List Record → ℕ
sizes rs = total (map (λ r. r.size) rs)

-- none of them is bad
abbrev pub AllGood : List Record → Type 0
AllGood rs = All (λ r. r.request ≢ Bad) rs

-- what follows the first record is less
abbrev rest : ℕ → List ℕ → List ℕ
rest b bs = drop (record_of (b ∷ bs)).size (b ∷ bs)

shorter : (b : ℕ) (bs : List ℕ) → length (rest b bs) ≤ length bs
shorter b bs = omega (arith, size-some (b ∷ bs), length-drop (record_of (b ∷ bs)).size (b ∷ bs))

-- enough is enough: a bound above the number of bytes bounds nothing
records-enough : (n m : ℕ) (bs : List ℕ) → length bs ≤ n → length bs ≤ m → records n bs ≡ records m bs
records-enough zero zero bs h k = refl
records-enough zero (suc m) [] h k = refl
records-enough zero (suc m) (b ∷ bs) h k = absurd (omega arith)
records-enough (suc n) zero [] h k = refl
records-enough (suc n) zero (b ∷ bs) h k = absurd (omega arith)
records-enough (suc n) (suc m) [] h k = refl
records-enough (suc n) (suc m) (b ∷ bs) h k =
    ap {B = List Record} (λ r. record_of (b ∷ bs) ∷ r)
    (records-enough n m (rest b bs) (omega (arith, shorter b bs)) (omega (arith, shorter b bs)))

-- no bytes, no records; else the first record, and those of what follows its bytes
pub records-nil : records_of [] ≡ []
unfolding records_of
records-nil = refl

pub records-cons : (b : ℕ) (bs : List ℕ) → records_of (b ∷ bs) ≡ record_of (b ∷ bs) ∷ records_of (drop (record_of (b ∷ bs)).size (b ∷ bs))
unfolding records_of
records-cons b bs =
    ap {B = List Record} (λ r. record_of (b ∷ bs) ∷ r)
    (records-enough (length bs) (length (rest b bs)) (rest b bs) (shorter b bs) (omega arith))

pub records-first : (bs : List ℕ) → 0 < length bs → records_of bs ≡ record_of bs ∷ records_of (drop (record_of bs).size bs)
records-first [] h = absurd (omega arith)
records-first (b ∷ bs) h = records-cons b bs

-- the record at a place, and those after it
pub records-from : (p : ℕ) (bs : List ℕ) → p < length bs → records_of (drop p bs) ≡ record_of (drop p bs) ∷ records_of (drop (p + (record_of (drop p bs)).size) bs)
records-from p bs h =
    records-first (drop p bs) (omega (arith, length-drop p bs))
    ∙ ap (λ (l : List ℕ). record_of (drop p bs) ∷ records_of l) (drop-drop (record_of (drop p bs)).size p bs)

-- past the first n records are the records past their bytes
pub records-drop : (n : ℕ) (bs : List ℕ) → drop n (records_of bs) ≡ records_of (drop (sizes (take n (records_of bs))) bs)
records-drop zero bs = refl
records-drop (suc n) [] = simp (records-nil, drop-nil)
records-drop (suc n) (b ∷ bs) =
    rw (records-cons b bs) (records-drop n (rest b bs) ∙ ap records_of (drop-drop (sizes (take n (records_of (rest b bs)))) (record_of (b ∷ bs)).size (b ∷ bs)))

-- the n-th record is the one that begins there; past the end there is none, and no bytes are a bad one
pub record-at : (n : ℕ) (bs : List ℕ) → get_or (records_of bs) n (asking Bad 0 11) ≡ record_of (drop (sizes (take n (records_of bs))) bs)
record-at n bs =
    let e : n + 0 ≡ n = omega arith in
    ap (λ (k : ℕ). get_or (records_of bs) k (asking Bad 0 11)) (sym e) ∙ sym (get_or-drop n (records_of bs) 0 (asking Bad 0 11))
    ∙ ap (λ (rs : List Record). get_or rs 0 (asking Bad 0 11)) (records-drop n bs) ∙ first (drop (sizes (take n (records_of bs))) bs)
  where
    first : (bs : List ℕ) → get_or (records_of bs) 0 (asking Bad 0 11) ≡ record_of bs
    first [] = rw records-nil (sym no_bytes)
    first (b ∷ bs) = rw (records-cons b bs)

-- there is an n-th record exactly when the byte after the first n is there
some-record : (bs : List ℕ) → (0 < length (records_of bs)) ↔ (0 < length bs)
some-record [] = rw records-nil (λ h. h, λ h. h)
some-record (b ∷ bs) = rw (records-cons b bs) (λ h. omega arith, λ h. omega arith)

module _ (n : ℕ) (bs : List ℕ) where
  abbrev p : ℕ
  p = sizes (take n (records_of bs))

  left : length (records_of (drop (sizes (take n (records_of bs))) bs)) ≡ length (records_of bs) - n
  left = ap (λ (rs : List Record). length rs) (sym (records-drop n bs)) ∙ length-drop n (records_of bs)

  pub byte-of-record : n < length (records_of bs) → sizes (take n (records_of bs)) < length bs
  byte-of-record h =
      let s : 0 < length (drop p bs) = (some-record (drop p bs)).0 (omega (arith, left)) in
      omega (arith, length-drop p bs)

  pub record-of-byte : sizes (take n (records_of bs)) < length bs → n < length (records_of bs)
  record-of-byte h =
      let s : 0 < length (records_of (drop p bs)) = (some-record (drop p bs)).1 (omega (arith, length-drop p bs)) in
      omega (arith, left)

-- the bytes of a single record: some, and at most its own
pub single-record : (bs : List ℕ) (r : Record) → records_of bs ≡ r ∷ [] → (r ≡ record_of bs) × (0 < length bs) × (length bs ≤ r.size)
single-record bs r e =
    let p : 0 < length bs = (some-record bs).0 (omega (arith, many)) in
    (sym (ap (λ (l : List Record). get_or l 0 (asking Bad 0 11)) e) ∙ ap (λ (l : List Record). get_or l 0 (asking Bad 0 11)) (records-first bs p), p, long)
  where
    many : length (records_of bs) ≡ 1
    many = ap (λ (l : List Record). length l) e

    size : sizes (take 1 (records_of bs)) ≡ r.size + 0
    size = ap (λ (l : List Record). sizes (take 1 l)) e

    long : length bs ≤ r.size
    long = elim (dec_le (length bs) r.size) [ yes h ↦ h | no h ↦ absurd (omega (arith, many, record-of-byte 1 bs (omega (arith, size)))) ]

-- a first record that is not bad, and n more after it
module _ (b : ℕ) (bs : List ℕ) where
  abbrev s : ℕ
  s = (record_of (b ∷ bs)).size

  good-first : (n : ℕ) → AllGood (take (suc n) (records_of (b ∷ bs))) → ((record_of (b ∷ bs)).request ≢ Bad) × AllGood (take n (records_of (rest b bs)))
  good-first n g =
      let h : AllGood (record_of (b ∷ bs) ∷ take n (records_of (rest b bs))) = rw (records-cons b bs) at g in
      (h _ (here refl), λ r m. h r (there m))

  -- with m bytes after it, and with any bytes after them all
  first-take : (m : ℕ) → (record_of (b ∷ bs)).request ≢ Bad → records_of (take (s + m) (b ∷ bs)) ≡ record_of (b ∷ bs) ∷ records_of (take m (rest b bs))
  first-take m g =
      let e : record_of (take (s + m) (b ∷ bs)) ≡ record_of (b ∷ bs) = record-take (s + m) (b ∷ bs) g (omega arith) in
      records-first (take (s + m) (b ∷ bs)) (omega (arith, size-some (b ∷ bs), length-take (s + m) (b ∷ bs)))
      ∙ ap₂ {C = List Record} (λ (r : Record) (l : List ℕ). r ∷ records_of l) e (ap (λ (r : Record). drop r.size (take (s + m) (b ∷ bs))) e ∙ drop-take s m (b ∷ bs))

  first-append : (cs : List ℕ) → (record_of (b ∷ bs)).request ≢ Bad → records_of (b ∷ bs ++ cs) ≡ record_of (b ∷ bs) ∷ records_of (rest b bs ++ cs)
  first-append cs g =
      let e : record_of (b ∷ bs ++ cs) ≡ record_of (b ∷ bs) = record-append (b ∷ bs) cs g in
      records-cons b (bs ++ cs)
      ∙ ap₂ {C = List Record} (λ (r : Record) (l : List ℕ). r ∷ records_of l) e
      (ap (λ (r : Record). drop r.size (b ∷ bs ++ cs)) e ∙ drop-append-le s (b ∷ bs) cs (size_fits (b ∷ bs) g))

-- the first n records that are not bad have their bytes
pub bytes-of-good : (n : ℕ) (bs : List ℕ) → AllGood (take n (records_of bs)) → sizes (take n (records_of bs)) ≤ length bs
bytes-of-good zero bs g = omega arith
bytes-of-good (suc n) [] g = rw records-nil (omega arith)
bytes-of-good (suc n) (b ∷ bs) g =
    let h : sizes (take n (records_of (rest b bs))) ≤ length (rest b bs) = bytes-of-good n (rest b bs) (good-first b bs n g).1 in
    rw (records-cons b bs) (omega (arith, h, size_fits (b ∷ bs) (good-first b bs n g).0, length-drop (record_of (b ∷ bs)).size (b ∷ bs)))

-- and the records of just those bytes are the first n
pub records-take : (n : ℕ) (bs : List ℕ) → AllGood (take n (records_of bs)) → records_of (take (sizes (take n (records_of bs))) bs) ≡ take n (records_of bs)
records-take zero bs g = records-nil
records-take (suc n) [] g = rw records-nil records-nil
records-take (suc n) (b ∷ bs) g =
    rw (records-cons b bs)
    (first-take b bs (sizes (take n (records_of (rest b bs)))) (good-first b bs n g).0
    ∙ ap {B = List Record} (λ l. record_of (b ∷ bs) ∷ l) (records-take n (rest b bs) (good-first b bs n g).1))

-- bytes after bytes of records that are not bad: those records, then the records of what follows
append-bound : (n : ℕ) (bs cs : List ℕ) → length bs ≤ n → AllGood (take n (records_of bs)) → records_of (bs ++ cs) ≡ records_of bs ++ records_of cs
append-bound zero [] cs h g = rw records-nil refl
append-bound zero (b ∷ bs) cs h g = absurd (omega arith)
append-bound (suc n) [] cs h g = rw records-nil refl
append-bound (suc n) (b ∷ bs) cs h g =
    rw (records-cons b bs)
    (first-append b bs cs (good-first b bs n g).0
    ∙ ap {B = List Record} (λ l. record_of (b ∷ bs) ∷ l) (append-bound n (rest b bs) cs (omega (arith, shorter b bs)) (good-first b bs n g).1))

pub records-append : (bs cs : List ℕ) → AllGood (records_of bs) → records_of (bs ++ cs) ≡ records_of bs ++ records_of cs
records-append bs cs g = append-bound (length bs) bs cs (omega arith) (λ r m. g r (mem-take (length bs) (records_of bs) r m))
