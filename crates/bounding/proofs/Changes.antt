-- Which bounds change with the segments: those of the changed ones and of the empty ones before them, and none where first keys stay.
use mathlib.Core.Path.{◌≡◌, refl, sym, ap, ◌∙◌, subst}
use mathlib.Core.Bool.{not}
use mathlib.Core.Logic.{◌≢◌}
use mathlib.Core.List.Memᴰ.{head as here}
use mathlib.Core.List.Memᴰ.{not-nil as nowhere}
use mathlib.Core.List.{List, [], ◌∷◌, ◌++◌, Memᴰ as Mem}
use Prim.Native.Nat.{ℕ, zero, suc, ◌+◌, ◌-◌, ◌≤◌, ◌<◌}
use native.Mathlib.Decide.{dec_lt}
use native.Mathlib.Omega.{arith}
use lib.Dec.{T}
use borrow.Author.Tests.{lt-ltb, eq-eqb}
use lib.ListN.{length, take, drop, get_or, set, length-take, length-drop, length-set, take-append-drop, get_or-eq_default}
use lib.Seq.{drop-drop, drop-append-le, get_or-drop, get_or-take, take-set-le, drop-set-lt, take_at, drop-append-add, length-take-le}
use Rattle.lists.specs.Lists.{splice}
use Rattle.lists.proofs.Joined.{joined-append}
use Rattle.slots.specs.Segments.{Segments, keys}
use Rattle.slots.specs.Keys.{Rising, Listed, member, below, put, cut, predecessor, segment_of}
use Rattle.slots.specs.Shown.{seat}
use Rattle.slots.proofs.Keys.{in-part, rising_part, segment-front}
use Rattle.slots.proofs.Halving.{place-below}
use Rattle.slots.proofs.Seats.{seat-free, seat-between, pred-at}
use Rattle.seats.specs.Bounds.{first_bound, bound_at, Bounded, Near}

-- SEGMENTS THAT AGREE before a and from e on
-- the first of keys that are some does not depend on what follows
first-same : (xs ys zs : List ℕ) → xs ≢ [] → first_bound (xs ++ ys) ≡ first_bound (xs ++ zs)
first-same [] ys zs n = absurd (n refl)
first-same (x ∷ xs) ys zs n = refl

some_first : (xs : List ℕ) → xs ≢ [] → (x : ℕ) × Mem x xs
some_first [] n = absurd (n refl)
some_first (x ∷ xs) n = (x, here refl)

module _ (ss : Segments) (a k j : ℕ) (l : k ≤ j) (h : j < a) (n : get_or ss j [] ≢ []) where
  there : j < length ss
  there = elim (dec_lt j (length ss)) [ yes p ↦ p | no p ↦ absurd (n (get_or-eq_default ss [] (omega arith))) ]

  -- the segments from k up to a have keys
  has-keys : keys (drop k (take a ss)) ≢ []
  has-keys e =
      let x = some_first (get_or ss j []) n in
      let f : k + (j - k) ≡ j = omega arith in
      let g : get_or (drop k (take a ss)) (j - k) [] ≡ get_or ss j [] = get_or-drop k (take a ss) (j - k) [] ∙ ap (λ (i : ℕ). get_or (take a ss) i []) f ∙ get_or-take a ss j [] h in
      let m : Mem x.0 (keys (drop k (take a ss))) =
      in-part (drop k (take a ss)) (j - k) (omega (arith, there, length-drop k (take a ss), length-take a ss)) x.0 (subst (Mem x.0) (sym g) x.1) in
      nowhere (subst (Mem x.0) e m)

  by_parts : bound_at ss k ≡ first_bound (keys (drop k (take a ss)) ++ keys (drop a ss))
  unfolding bound_at
  by_parts =
      ap (λ (r : Segments). first_bound (keys (drop k r))) (sym (take-append-drop a ss))
      ∙ ap (λ (r : Segments). first_bound (keys r)) (drop-append-le k (take a ss) (drop a ss) (omega (arith, there, length-take a ss)))
      ∙ ap first_bound (joined-append (drop k (take a ss)) (drop a ss))

pub bound-drop : (ss ss' : Segments) (e : ℕ) → drop e ss ≡ drop e ss' → (k : ℕ) → e ≤ k → bound_at ss k ≡ bound_at ss' k
unfolding bound_at
bound-drop ss ss' e q k l =
    let f : e + (k - e) ≡ k = omega arith in
    ap (λ (i : ℕ). first_bound (keys (drop i ss))) (sym f)
    ∙ ap (λ (r : Segments). first_bound (keys r)) (sym (drop-drop (k - e) e ss) ∙ ap (drop (k - e)) q ∙ drop-drop (k - e) e ss')
    ∙ ap (λ (i : ℕ). first_bound (keys (drop i ss'))) f

pub near_same : (m : ℕ) (ss ss' : Segments) (bs : List ℕ) (a e : ℕ) → Bounded m ss bs → take a ss ≡ take a ss' → drop e ss ≡ drop e ss' → Near m ss' a e bs
near_same m ss ss' bs a e w p q = record { long = w.long; after = λ k g l h. w.each k g h ∙ bound-drop ss ss' e q k l; before = before }
  where
    before : (k j : ℕ) → m ≤ k → k < 64 → k ≤ j → j < a → get_or ss' j [] ≢ [] → get_or bs k 0 ≡ bound_at ss' k
    before k j g u l h n =
        let same : get_or ss j [] ≡ get_or ss' j [] = sym (get_or-take a ss j [] h) ∙ ap (λ (r : Segments). get_or r j []) p ∙ get_or-take a ss' j [] h in
        let n₀ : get_or ss j [] ≢ [] = rw same n in
        w.each k g u ∙ by_parts ss a k j l h n₀ ∙ ap (λ (r : Segments). first_bound (keys (drop k r) ++ keys (drop a ss))) p
        ∙ first-same (keys (drop k (take a ss'))) (keys (drop a ss)) (keys (drop a ss')) (has-keys ss' a k j l h n) ∙ sym (by_parts ss' a k j l h n)

-- one segment changed: rebound at s, s + 1
pub near-one : (m : ℕ) (ss : Segments) (bs : List ℕ) (s : ℕ) (new : List ℕ) → Bounded m ss bs → Near m (set ss s new) s (s + 1) bs
near-one m ss bs s new w =
    near_same m ss (set ss s new) bs s (s + 1) w (sym (take-set-le s ss s new (omega arith))) (sym (drop-set-lt (s + 1) ss s new (omega arith)))

-- a window that has the changed segment swept: rebound at its ends
pub near-swept : (m : ℕ) (ss : Segments) (bs : List ℕ) (s : ℕ) (new : List ℕ) (i n : ℕ) (window : Segments) → Bounded m ss bs → i ≤ s → s < i + n → length window ≡ n
    → i + n ≤ length ss → Near m (splice i n window (set ss s new)) i (i + n) bs
near-swept m ss bs s new i n window w l h e u = near_same m ss (splice i n window ss') bs i (i + n) w first rest
  where
    ss' : Segments
    ss' = set ss s new

    long : length (take i ss') ≡ i
    long = length-take-le i ss' (omega (arith, length-set ss s new))

    first : take i ss ≡ take i (splice i n window ss')
    first = sym (take_at (take i ss') (window ++ drop (i + n) ss') i long ∙ take-set-le i ss s new l)

    rest : drop (i + n) ss ≡ drop (i + n) (splice i n window ss')
    rest =
        let a : length (take i ss') + n ≡ i + n = omega (arith, long) in
        let b : length window + 0 ≡ n = omega arith in
        sym (ap (λ (k : ℕ). drop k (splice i n window ss')) (sym a) ∙ drop-append-add (take i ss') (window ++ drop (i + n) ss') n
        ∙ ap (λ (k : ℕ). drop k (window ++ drop (i + n) ss')) (sym b) ∙ drop-append-add window (drop (i + n) ss') 0 ∙ drop-set-lt (i + n) ss s new h)

-- FIRST KEYS THAT STAY
-- that a segment begins as another is said by what follows: first_bound (new ++ r) ≡ first_bound (old ++ r) for each r
first-after : (xs ys zs : List ℕ) → first_bound ys ≡ first_bound zs → first_bound (xs ++ ys) ≡ first_bound (xs ++ zs)
first-after [] ys zs e = e
first-after (x ∷ xs) ys zs e = refl

bound-alike : (ss : Segments) (s : ℕ) (new : List ℕ) → ((r : List ℕ) → first_bound (new ++ r) ≡ first_bound (get_or ss s [] ++ r)) → (k : ℕ) → bound_at (set ss s new) k ≡ bound_at ss k
unfolding bound_at
bound-alike [] s new a k = refl
bound-alike (x ∷ ss) zero new a zero = a (keys ss)
bound-alike (x ∷ ss) zero new a (suc k) = refl
bound-alike (x ∷ ss) (suc s) new a zero = first-after x (keys (set ss s new)) (keys ss) (bound-alike ss s new a zero)
bound-alike (x ∷ ss) (suc s) new a (suc k) = bound-alike ss s new a k

pub bounded-alike : (m : ℕ) (ss : Segments) (bs : List ℕ) (s : ℕ) (new : List ℕ) → ((r : List ℕ) → first_bound (new ++ r) ≡ first_bound (get_or ss s [] ++ r)) → Bounded m ss bs
    → Bounded m (set ss s new) bs
bounded-alike m ss bs s new a w = record { long = w.long; each = λ k g h. w.each k g h ∙ sym (bound-alike ss s new a k) }

-- a key put in or taken out behind another
module _ (y : ℕ) (ks : List ℕ) (rises : Rising ks) (h : 0 < length (below y ks)) where
  put-alike : (r : List ℕ) → first_bound (put y ks ++ r) ≡ first_bound (ks ++ r)
  put-alike = go ks h (place-below y ks rises 0 h)
    where
      go : (ks : List ℕ) → 0 < length (below y ks) → get_or ks 0 0 < y → (r : List ℕ) → first_bound (put y ks ++ r) ≡ first_bound (ks ++ r)
      go [] h l r = absurd (omega arith)
      go (x ∷ xs) h l r = rw (lt-ltb x y l) refl

  cut-alike : (r : List ℕ) → first_bound (cut y ks ++ r) ≡ first_bound (ks ++ r)
  cut-alike = go ks h (place-below y ks rises 0 h)
    where
      go : (ks : List ℕ) → 0 < length (below y ks) → get_or ks 0 0 < y → (r : List ℕ) → first_bound (cut y ks ++ r) ≡ first_bound (ks ++ r)
      go [] h l r = absurd (omega arith)
      go (x ∷ xs) h l r = rw (lt-ltb x y l) refl

module _ (y : ℕ) (ss : Segments) (listed : Listed ss) (s : ℕ) (inside : s < length ss) (h : 0 < length (below y (get_or ss s []))) where
  rises : Rising (get_or ss s [])
  rises = rising_part ss s inside listed.rising

  pub put-behind : (m : ℕ) (bs : List ℕ) → Bounded m ss bs → Bounded m (set ss s (put y (get_or ss s []))) bs
  put-behind m bs = bounded-alike m ss bs s (put y (get_or ss s [])) (put-alike y (get_or ss s []) rises h)

  -- a delete that is not of a segment's first key changes no bound
  pub cut-behind : (m : ℕ) (bs : List ℕ) → Bounded m ss bs → Bounded m (set ss s (cut y (get_or ss s []))) bs
  cut-behind m bs = bounded-alike m ss bs s (cut y (get_or ss s [])) (cut-alike y (get_or ss s []) rises h)

-- A CHANGE OF THE FIRST SEGMENT changes the first bound alone
pub first-changed : (m : ℕ) (ss : Segments) (bs : List ℕ) (new : List ℕ) → 1 ≤ m → Bounded m ss bs → Bounded m (set ss 0 new) bs
first-changed m ss bs new l w =
    record { long = w.long; each = λ k g h. w.each k g h ∙ bound-drop ss (set ss 0 new) 1 (sym (drop-set-lt 1 ss 0 new (omega arith))) k (omega arith) }

-- AN INSERT where the search for a new key ends, as the place in the segment tells
module _ (y : ℕ) (ss : Segments) (listed : Listed ss) (some : 0 < length ss) (t : T (not (member y (keys ss)))) where
  abbrev at : ℕ
  at = length (below y (get_or ss (seat y ss) []))

  -- the first place of a segment is the front of the list
  pub front-seat : at ≡ 0 → seat y ss ≡ 0
  front-seat e =
      let p : predecessor y ss ≡ 0 = pred-at y ss listed some t ∙ rw (eq-eqb at 0 e) refl in
      seat-free y ss t ∙ ap (segment_of ss) p ∙ segment-front ss

  -- no bound from 1 on changes
  pub put-kept : (bs : List ℕ) → Bounded 1 ss bs → Bounded 1 (set ss (seat y ss) (put y (get_or ss (seat y ss) []))) bs
  put-kept bs w =
      elim (dec_lt 0 at) [
        | yes h ↦ put-behind y ss listed (seat y ss) (seat-between y ss listed some).0 h 1 bs w
        | no h ↦ rw (front-seat (omega arith)) (first-changed 1 ss bs (put y (get_or ss 0 [])) (omega arith) w)
      ]
