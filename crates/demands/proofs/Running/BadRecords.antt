-- A record is bad exactly when it is short, or has a wrong mark or a wrong kind; and one good record of each kind read in full.
use mathlib.Core.Path.{◌≡◌, refl, sym, ap, ◌∙◌, subst}
use mathlib.Core.Bool.{Bool, true, false, not}
use mathlib.Core.Logic.{◌≢◌}
use mathlib.Core.List.{List, [], ◌∷◌}
use Prim.Native.Nat.{ℕ, ◌+◌, ◌≤◌, ◌<◌}
use native.Mathlib.Omega.{arith}
use lib.Dec.{T, T_not, ltb, eqb, ltb→lt, nltb→le, eqb→eq}
use borrow.Author.Tests.{eq-eqb}
use lib.ListN.{length, drop, get_or, length-drop}
use lib.Seq.{get_or-drop}
use Rattle.std.proofs.Common.{if◌then◌else◌}
use Rattle.lists.proofs.Tests.{either, neqb→ne}
use Rattle.rules.specs.declared.Request.{Request}
use Rattle.rules.specs.declared.Request.TheVariants.{Insert, Delete, Bad}
use Rattle.rules.specs.Runs.{key_of, card_of, size_of, asking, record_of, is_bad}
use Rattle.demands.specs.Rows.{BadRecord, short, short_card, first_mark, second_mark, wrong_kind}
use Rattle.demands.proofs.Running.RecordBytes.{by_tests}

-- the key stands high byte first; kind 1 means card 0
pub read-high-first : record_of (0xA5 ∷ 0x5A ∷ 1 ∷ 0 ∷ 0 ∷ 0 ∷ 0 ∷ 0 ∷ 0 ∷ 1 ∷ 2 ∷ []) ≡ asking (Insert 258) 0 11
unfolding record_of
read-high-first = refl

-- kind 2 asks for a delete
pub read-delete : record_of (0xA5 ∷ 0x5A ∷ 2 ∷ 1 ∷ 0 ∷ 0 ∷ 0 ∷ 0 ∷ 0 ∷ 0 ∷ 3 ∷ []) ≡ asking (Delete 72057594037927939) 0 11
unfolding record_of
read-delete = refl

-- and kind 4 for an insert with the card that follows the key, high byte first too
pub read-card : record_of (0xA5 ∷ 0x5A ∷ 4 ∷ 0 ∷ 0 ∷ 0 ∷ 0 ∷ 0 ∷ 0 ∷ 1 ∷ 2 ∷ 1 ∷ 0 ∷ 0 ∷ 3 ∷ []) ≡ asking (Insert 258) 16777219 15
unfolding record_of
read-card = refl

pub not-bad : (q : Request) → T (not (is_bad q)) → q ≢ Bad
not-bad q t e = T_not (is_bad q) t (subst (λ (z : Request). T (is_bad z)) (sym e) tt)

-- what the tests say of the record at the head of the bytes
module _ (bs : List ℕ) where
  abbrev kind : ℕ
  kind = get_or bs 2 0

  -- too few bytes for the kind, and enough
  too_few : length bs < size_of (get_or bs 2 0) → BadRecord bs 0
  too_few h = go (eqb kind 4) (eqb→eq kind 4) h
    where
      go : (f : Bool) → (T f → get_or bs 2 0 ≡ 4) → length bs < (if f then 15 else 11) → BadRecord bs 0
      go true p h = short_card (p tt) (omega arith)
      go false p h = short (omega arith)

  bad-head : T (is_bad (record_of bs).request) → BadRecord bs 0
  unfolding record_of
  bad-head =
      go (ltb (length bs) (size_of kind)) (λ t. too_few (ltb→lt _ _ t)) (eqb (get_or bs 0 0) 0xA5) (neqb→ne _ _) (eqb (get_or bs 1 0) 0x5A) (neqb→ne _ _)
      (eqb kind 1) (neqb→ne _ _) (eqb kind 2) (neqb→ne _ _) (eqb kind 4) (neqb→ne _ _)
    where
      go : (a : Bool) → (T a → BadRecord bs 0) → (b : Bool) → (T (not b) → get_or bs 0 0 ≢ 0xA5) → (c : Bool) → (T (not c) → get_or bs 1 0 ≢ 0x5A)
          → (d : Bool) → (T (not d) → get_or bs 2 0 ≢ 1) → (e : Bool) → (T (not e) → get_or bs 2 0 ≢ 2) → (f : Bool) → (T (not f) → get_or bs 2 0 ≢ 4)
          → T (is_bad (by_tests a b c d e f (key_of bs) (card_of bs)).request) → BadRecord bs 0
      go true p b q c r d s e u f v t = p tt
      go false p false q c r d s e u f v t = first_mark (q tt)
      go false p true q false r d s e u f v t = second_mark (r tt)
      go false p true q true r true s e u f v t = absurd t
      go false p true q true r false s true u f v t = absurd t
      go false p true q true r false s false u true v t = absurd t
      go false p true q true r false s false u false v t = wrong_kind (s tt) (u tt) (v tt)

  good-head : T (not (is_bad (record_of bs).request)) → ¬ (BadRecord bs 0)
  unfolding record_of
  good-head =
      go (ltb (length bs) (size_of kind)) (nltb→le _ _) (eqb (get_or bs 0 0) 0xA5) (eqb→eq _ _) (eqb (get_or bs 1 0) 0x5A) (eqb→eq _ _)
      (eqb kind 1) (eqb→eq _ _) (eqb kind 2) (eqb→eq _ _) (eqb kind 4) (eqb→eq _ _)
    where
      -- a record with its bytes, its marks and a kind is not bad
      no-fault : size_of (get_or bs 2 0) ≤ length bs → get_or bs 0 0 ≡ 0xA5 → get_or bs 1 0 ≡ 0x5A → (get_or bs 2 0 ≢ 1 → get_or bs 2 0 ≢ 2 → get_or bs 2 0 ≢ 4 → ⊥)
          → ¬ (BadRecord bs 0)
      no-fault p q r s (short h) = omega (arith, p, either (λ (k : ℕ). 11 ≤ k) (eqb (get_or bs 2 0) 4) {x = 15} {y = 11} (omega arith) (omega arith))
      no-fault p q r s (short_card e h) = let k : 15 ≤ length bs = rw (eq-eqb (get_or bs 2 0) 4 e) at p in omega arith
      no-fault p q r s (first_mark h) = h q
      no-fault p q r s (second_mark h) = h r
      no-fault p q r s (wrong_kind h k l) = s h k l

      go : (a : Bool) → (T (not a) → size_of (get_or bs 2 0) ≤ length bs) → (b : Bool) → (T b → get_or bs 0 0 ≡ 0xA5) → (c : Bool) → (T c → get_or bs 1 0 ≡ 0x5A)
          → (d : Bool) → (T d → get_or bs 2 0 ≡ 1) → (e : Bool) → (T e → get_or bs 2 0 ≡ 2) → (f : Bool) → (T f → get_or bs 2 0 ≡ 4)
          → T (not (is_bad (by_tests a b c d e f (key_of bs) (card_of bs)).request)) → ¬ (BadRecord bs 0)
      go true p b q c r d s e u f v t = absurd t
      go false p false q c r d s e u f v t = absurd t
      go false p true q false r d s e u f v t = absurd t
      go false p true q true r true s e u f v t = no-fault (p tt) (q tt) (r tt) (λ h k l. h (s tt))
      go false p true q true r false s true u f v t = no-fault (p tt) (q tt) (r tt) (λ h k l. k (u tt))
      go false p true q true r false s false u true v t = no-fault (p tt) (q tt) (r tt) (λ h k l. l (v tt))
      go false p true q true r false s false u false v t = absurd t

-- the same at byte place p
module _ (bytes : List ℕ) (p : ℕ) where
  mark : get_or (drop p bytes) 0 0 ≡ get_or bytes p 0
  mark = let e : p + 0 ≡ p = omega arith in get_or-drop p bytes 0 0 ∙ ap (λ (k : ℕ). get_or bytes k 0) e

  from-head : BadRecord (drop p bytes) 0 → BadRecord bytes p
  from-head (short h) = short (omega (arith, length-drop p bytes))
  from-head (short_card e h) = short_card (sym (get_or-drop p bytes 2 0) ∙ e) (omega (arith, length-drop p bytes))
  from-head (first_mark h) = first_mark (λ e. h (mark ∙ e))
  from-head (second_mark h) = second_mark (λ e. h (get_or-drop p bytes 1 0 ∙ e))
  from-head (wrong_kind h k l) = wrong_kind (λ e. h (get_or-drop p bytes 2 0 ∙ e)) (λ e. k (get_or-drop p bytes 2 0 ∙ e)) (λ e. l (get_or-drop p bytes 2 0 ∙ e))

  to-head : BadRecord bytes p → BadRecord (drop p bytes) 0
  to-head (short h) = short (omega (arith, length-drop p bytes))
  to-head (short_card e h) = short_card (get_or-drop p bytes 2 0 ∙ e) (omega (arith, length-drop p bytes))
  to-head (first_mark h) = first_mark (λ e. h (sym mark ∙ e))
  to-head (second_mark h) = second_mark (λ e. h (sym (get_or-drop p bytes 1 0) ∙ e))
  to-head (wrong_kind h k l) =
      wrong_kind (λ e. h (sym (get_or-drop p bytes 2 0) ∙ e)) (λ e. k (sym (get_or-drop p bytes 2 0) ∙ e)) (λ e. l (sym (get_or-drop p bytes 2 0) ∙ e))

  pub bad-at : T (is_bad (record_of (drop p bytes)).request) → BadRecord bytes p
  bad-at t = from-head (bad-head (drop p bytes) t)

  pub good-at : T (not (is_bad (record_of (drop p bytes)).request)) → ¬ (BadRecord bytes p)
  good-at t b = good-head (drop p bytes) t (to-head b)
