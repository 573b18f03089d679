-- Refusal 14: when a table is found right, and when wrong.
use mathlib.Core.Path.{◌≡◌, refl, sym, ap, ◌∙◌}
use mathlib.Core.Logic.{◌≢◌}
use mathlib.Core.Bool.{Bool, false}
use mathlib.Core.List.{List, [], ◌∷◌, map}
use Prim.Native.Nat.{ℕ, zero, suc, ◌+◌, ◌-◌, ◌*◌, ◌^◌, ◌≤◌, ◌<◌}
use native.Mathlib.Omega.{arith}
use lib.ListN.{length, take, drop, get_or, length-drop, length-map, get_or-map}
use lib.Seq.{drop-cons, get_or-take, get_or-drop, length-take-le, ext_get_or}
use Rattle.lists.specs.Lists.{total}
use Rattle.lists.proofs.Joined.{total-suc}
use Rattle.slots.specs.Segments.{Segments}
use Rattle.slots.specs.Shown.{CountsOf}
use Rattle.levels.specs.Tables.{table_of}
use Rattle.levels.proofs.Tables.{length-table, table-first}
use Rattle.tables.specs.Tree.{Sums}
use Rattle.tables.proofs.RightTables.{sums-right, sums-table}
use Rattle.judging.specs.Answers.{Answers}

-- NO SUM IS LARGE. The entries from 2i up to n + i, where the sums below are right, have all keys between them.
abbrev pub front : ℕ → ℕ → List ℕ → ℕ
front n i t = total (take (n - i) (drop (2 * i) t))

-- counts of at most 64 add up to at most 64 each
total-few : (n : ℕ) (t : List ℕ) → ((k : ℕ) → k < n → get_or t k 0 ≤ 64) → total (take n t) ≤ 64 * n
total-few zero t a = omega arith
total-few (suc n) [] a = omega arith
total-few (suc n) (x ∷ t) a = omega (arith, a 0 (omega arith), total-few n t (λ k l. a (suc k) (omega arith)))

pub front-start : (n : ℕ) (t : List ℕ) → n ≤ 64 → ((k : ℕ) → k < n → get_or t k 0 ≤ 64) → front n 0 t ≤ 4096
front-start n t q a = let e : n - 0 ≡ n = omega arith in rw e (omega (arith, total-few n t a))

module _ (n i : ℕ) (t : List ℕ) (long : length t + 1 ≡ 2 * n) (q : i + 1 < n) where
  front-here : (r : ℕ) → n - i ≡ suc (suc r) → front n i t ≡ get_or t (2 * i) 0 + (get_or t (suc (2 * i)) 0 + total (take r (drop (suc (suc (2 * i))) t)))
  front-here r e = rw (e, drop-cons t (2 * i) 0 (omega arith), drop-cons t (suc (2 * i)) 0 (omega arith)) refl

  next : suc (2 * i) ≡ 2 * i + 1
  next = omega arith

  -- the two that are added next
  pub front-two : get_or t (2 * i) 0 + get_or t (2 * i + 1) 0 ≤ front n i t
  front-two = omega (arith, front-here (n - i - 2) (omega arith), ap (λ (j : ℕ). get_or t j 0) next)

  pub front-more : get_or t (n + i) 0 ≡ get_or t (2 * i) 0 + get_or t (2 * i + 1) 0 → front n (i + 1) t ≡ front n i t
  front-more s =
      let r : ℕ = n - i - 2 in
      let e : n - (i + 1) ≡ suc r = omega arith in
      let d : 2 * (i + 1) ≡ suc (suc (2 * i)) = omega arith in
      let f : suc (suc (2 * i)) + r ≡ n + i = omega arith in
      rw (e, d)
      (omega (
        arith,
        total-suc (drop (suc (suc (2 * i))) t) r (omega (arith, length-drop (suc (suc (2 * i))) t)),
        get_or-drop (suc (suc (2 * i))) t r 0,
        ap (λ (j : ℕ). get_or t j 0) f,
        ap (λ (j : ℕ). get_or t j 0) next,
        front-here r (omega arith),
        s,
      ))

-- THE THREE TESTS
module _ (h : ℕ) (ss : Segments) (n : ℕ) (p : n ≡ 2 ^ h) (many : length ss ≡ n) (t : List ℕ) where
  pub long-answers : length t + 1 ≢ 2 * n → Answers (t ≡ table_of h ss) false
  long-answers w = record { yes = λ x. absurd x; no = λ e. absurd (w (ap (λ (l : List ℕ). length l + 1) e ∙ length-table h ss (many ∙ p) ∙ ap (λ (m : ℕ). 2 * m) (sym p))) }

  module _ (counts : List ℕ) (each : CountsOf ss counts) (room : n ≤ length counts) where
    counts-front : take n counts ≡ map length ss
    counts-front =
        ext_get_or 0 (take n counts) (map length ss) (length-take-le n counts room ∙ sym (length-map ss length ∙ many))
        (λ k l.
        let m : k < n = omega (arith, length-take-le n counts room) in
        get_or-take n counts k 0 m ∙ each k (omega arith) ∙ sym (get_or-map length ss k []))

    pub counts-answers : take n t ≢ take n counts → Answers (t ≡ table_of h ss) false
    counts-answers w = record {
      yes = λ y. absurd y;
      no = λ e. absurd (w (ap (take n) e ∙ ap (λ (m : ℕ). take m (table_of h ss)) p ∙ table-first h ss (many ∙ p) ∙ sym counts-front));
    }

    pub sums-answers : take n t ≡ take n counts → length t + 1 ≡ 2 * n → (r : Bool) → Answers (Sums n t) r → Answers (t ≡ table_of h ss) r
    sums-answers x long r s = record { yes = λ y. sums-table h ss n p many t (s.yes y) (x ∙ counts-front) long; no = λ e. s.no (sums-right h ss n p many t e) }

-- entries of equal fronts
pub front-same : (n : ℕ) (t counts : List ℕ) → take n t ≡ take n counts → (k : ℕ) → k < n → get_or t k 0 ≡ get_or counts k 0
front-same n t counts e k l = sym (get_or-take n t k 0 l) ∙ ap (λ (m : List ℕ). get_or m k 0) e ∙ get_or-take n counts k 0 l
