-- A record is read from its own bytes: how many they are, and that what follows them does not matter.
use mathlib.Core.Path.{◌≡◌, refl, sym, ap, ◌∙◌}
use mathlib.Core.Bool.{Bool, true, false, not}
use mathlib.Core.Logic.{◌≢◌}
use mathlib.Core.List.{List, [], ◌∷◌, ◌++◌}
use Prim.Native.Nat.{ℕ, zero, suc, ◌+◌, ◌≤◌, ◌<◌}
use native.Mathlib.Nat.{zero-add, suc-add}
use native.Mathlib.Omega.{arith}
use lib.Dec.{T, ltb, eqb, eqb→eq, nltb→le}
use borrow.Author.Tests.{le-ltb, lt-ltb}
use lib.ListN.{length, take, drop, get_or, length-take}
use lib.Seq.{take-nil, drop-nil, take-take, get_or-take, length-take-le, take-append-le}
use Rattle.std.proofs.Common.{if◌then◌else◌}
use Rattle.lists.proofs.Tests.{either, is_true}
use Rattle.rules.specs.declared.Request.TheVariants.{Insert, Delete, Bad}
use Rattle.rules.specs.declared.Record.{Record}
use Rattle.rules.specs.Runs.{key_of, card_of, size_of, asking, record_of}

-- no bytes are a bad record, as are too few
pub short-bad : (bs : List ℕ) → length bs < size_of (get_or bs 2 0) → record_of bs ≡ asking Bad 0 11
unfolding record_of
short-bad bs h = rw (lt-ltb (length bs) (size_of (get_or bs 2 0)) h)

pub no_bytes : record_of [] ≡ asking Bad 0 11
no_bytes = short-bad [] (omega arith)

-- by the tests, in order: enough bytes, the two marks, the kind
abbrev pub by_tests : Bool → Bool → Bool → Bool → Bool → Bool → ℕ → ℕ → Record
by_tests a b c d e f key card =
    if a then asking Bad 0 11
    else if not b then asking Bad 0 11
    else if not c then asking Bad 0 11
    else if d then asking (Insert key) 0 11
    else if e then asking (Delete key) 0 11
    else if f then asking (Insert key) card 15
    else asking Bad 0 11

-- a record is 11 bytes, or 15
module _ (bs : List ℕ) where
  pub size-some : 11 ≤ (record_of bs).size
  unfolding record_of
  size-some = go (ltb (length bs) (size_of (get_or bs 2 0))) (eqb (get_or bs 0 0) 0xA5) (eqb (get_or bs 1 0) 0x5A) (eqb (get_or bs 2 0) 1) (eqb (get_or bs 2 0) 2) (eqb (get_or bs 2 0) 4)
    where
      go : (a b c d e f : Bool) → 11 ≤ (by_tests a b c d e f (key_of bs) (card_of bs)).size
      go a b c d e f =
          let P : Record → Type 0 = λ r. 11 ≤ r.size in
          either P a (omega arith) (either P (not b) (omega arith) (either P (not c) (omega arith) (either P d (omega arith) (either P e (omega arith) (either P f (omega arith) (omega arith))))))

  -- one that is not bad has all its bytes, as many as its kind asks
  pub whole-record : (record_of bs).request ≢ Bad → ((record_of bs).size ≡ size_of (get_or bs 2 0)) × (size_of (get_or bs 2 0) ≤ length bs)
  unfolding record_of
  whole-record =
      go (ltb (length bs) (size_of (get_or bs 2 0))) (nltb→le _ _) (eqb (get_or bs 0 0) 0xA5) (eqb (get_or bs 1 0) 0x5A) (eqb (get_or bs 2 0) 4)
      (eqb (get_or bs 2 0) 1) (λ t. ap (λ (k : ℕ). eqb k 4) (eqb→eq (get_or bs 2 0) 1 t)) (eqb (get_or bs 2 0) 2) (λ t. ap (λ (k : ℕ). eqb k 4) (eqb→eq (get_or bs 2 0) 2 t))
    where
      go : (a : Bool) → (T (not a) → size_of (get_or bs 2 0) ≤ length bs) → (b c f d : Bool) → (T d → f ≡ false) → (e : Bool) → (T e → f ≡ false)
          → (by_tests a b c d e f (key_of bs) (card_of bs)).request ≢ Bad
          → ((by_tests a b c d e f (key_of bs) (card_of bs)).size ≡ (if f then 15 else 11)) × (size_of (get_or bs 2 0) ≤ length bs)
      go true p b c f d q e r n = absurd (n refl)
      go false p false c f d q e r n = absurd (n refl)
      go false p true false f d q e r n = absurd (n refl)
      go false p true true f true q e r n = (rw (q tt), p tt)
      go false p true true f false q true r n = (rw (r tt), p tt)
      go false p true true true false q false r n = (refl, p tt)
      go false p true true false false q false r n = absurd (n refl)

  pub size_fits : (record_of bs).request ≢ Bad → (record_of bs).size ≤ length bs
  size_fits n = omega (arith, (whole-record n).0, (whole-record n).1)

-- a stretch of the first bytes
pub drop-take : (n m : ℕ) (bs : List ℕ) → drop n (take (n + m) bs) ≡ take m (drop n bs)
drop-take zero m bs = rw zero-add
drop-take (suc n) m [] = simp (take-nil, drop-nil)
drop-take (suc n) m (b ∷ bs) = rw suc-add (drop-take n m bs)

-- bytes that begin alike, for as many as the record's kind asks, begin with the same record
module _ (bs cs : List ℕ) (n : ℕ) (is : n ≡ size_of (get_or bs 2 0)) (fits : n ≤ length bs) (alike : take n bs ≡ take n cs) where
  some : 11 ≤ n
  some = rw is (either (λ (k : ℕ). 11 ≤ k) (eqb (get_or bs 2 0) 4) (omega arith) (omega arith))

  byte : (i : ℕ) → i < n → get_or cs i 0 ≡ get_or bs i 0
  byte i h = sym (get_or-take n cs i 0 h) ∙ ap (λ (l : List ℕ). get_or l i 0) (sym alike) ∙ get_or-take n bs i 0 h

  long : n ≤ length cs
  long = omega (arith, length-take n cs, length-take-le n bs fits, ap length alike)

  part : (a m : ℕ) → a + m ≤ n → take m (drop a cs) ≡ take m (drop a bs)
  part a m h =
      sym (drop-take a m cs) ∙ ap (drop a) (sym (take-take (a + m) n cs h) ∙ ap (take (a + m)) (sym alike) ∙ take-take (a + m) n bs h) ∙ drop-take a m bs

  pub record_same : record_of cs ≡ record_of bs
  unfolding record_of
  record_same =
      rw (
        byte 0 (omega (arith, some)),
        byte 1 (omega (arith, some)),
        byte 2 (omega (arith, some)),
        part 3 8 some,
        le-ltb (length cs) (size_of (get_or bs 2 0)) (omega (arith, is, long)),
        le-ltb (length bs) (size_of (get_or bs 2 0)) (omega (arith, is, fits)),
      )
      (go (eqb (get_or bs 0 0) 0xA5) (eqb (get_or bs 1 0) 0x5A) (eqb (get_or bs 2 0) 1) (eqb (get_or bs 2 0) 2) (eqb (get_or bs 2 0) 4) (λ t. card (is ∙ kind t)))
    where
      kind : T (eqb (get_or bs 2 0) 4) → size_of (get_or bs 2 0) ≡ 15
      kind t = rw (is_true (eqb (get_or bs 2 0) 4) t)

      card : n ≡ 15 → card_of cs ≡ card_of bs
      card e = rw (part 11 4 (omega arith))

      go : (b c d e f : Bool) → (T f → card_of cs ≡ card_of bs) → by_tests false b c d e f (key_of bs) (card_of cs) ≡ by_tests false b c d e f (key_of bs) (card_of bs)
      go b c d e true h = rw (h tt)
      go b c d e false h = refl

-- so more bytes, or fewer, after its own do not matter
pub record-take : (k : ℕ) (bs : List ℕ) → (record_of bs).request ≢ Bad → (record_of bs).size ≤ k → record_of (take k bs) ≡ record_of bs
record-take k bs g h = record_same bs (take k bs) (record_of bs).size (whole-record bs g).0 (size_fits bs g) (sym (take-take (record_of bs).size k bs h))

pub record-append : (bs cs : List ℕ) → (record_of bs).request ≢ Bad → record_of (bs ++ cs) ≡ record_of bs
record-append bs cs g =
    record_same bs (bs ++ cs) (record_of bs).size (whole-record bs g).0 (size_fits bs g) (sym (take-append-le (record_of bs).size bs cs (size_fits bs g)))
