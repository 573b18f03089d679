-- Counts of segments, one after the other, and the slots of one segment in a list.
use mathlib.Core.Path.{◌≡◌, sym, ap, ap₂, ◌∙◌}
use mathlib.Core.List.{List, [], ◌∷◌, ◌++◌, map, map-append, append_assoc}
use Prim.Native.Nat.{ℕ, suc, ◌+◌, ◌-◌, ◌*◌, ◌≤◌, ◌<◌}
use native.Mathlib.Numerals.{add-one}
use native.Mathlib.Omega.{arith}
use lib.ListN.{length, take, drop, get_or, set, length-append, length-drop, length-map, get_or-map}
use lib.Seq.{take-suc, get_or-take, get_or-drop, drop-cons, set_at, length-take-le, ext_get_or}
use Rattle.lists.specs.Lists.{All, total, splice, padded}
use Rattle.lists.proofs.Members.{at_mem}
use Rattle.lists.proofs.Fill.{length-padded}
use Rattle.lists.proofs.Joined.{total-append, length-joined}
use Rattle.slots.proofs.Carried.{segment-part}
use Rattle.slots.specs.Segments.{Segments, keys, pad}
use Rattle.slots.specs.Shown.{Shows, CountsOf, Counted}
use Rattle.slots.proofs.Keys.{in-part}
use Rattle.slots.proofs.Render.{length-render}

-- ONE SEGMENT of slots that show segments
module _ (ss : Segments) (slots : List ℕ) (sh : Shows ss slots) (s : ℕ) (h : 64 * s + 64 ≤ length slots) where
  pub shown-within : s < length ss
  shown-within = omega (arith, ap length sh.whole, length-render 0 ss sh.fits)

  -- its slots are its keys, filled up with gaps
  pub shown-part : take (64 * s + 64 - 64 * s) (drop (64 * s) slots) ≡ pad 0 (get_or ss s [])
  shown-part =
      let e : 64 * s + 64 - 64 * s ≡ 64 = omega arith in
      rw (e, sh.whole) (segment-part 0 ss s sh.fits shown-within)

  pub shown-few : length (get_or ss s []) ≤ 64
  shown-few = sh.fits (get_or ss s []) (at_mem ss s [] shown-within)

  -- what counts the keys of a padded list counts its keys
  pub shown-count : (r : ℕ) (part : List ℕ) → part ≡ take (64 * s + 64 - 64 * s) (drop (64 * s) slots)
      → ((ks : List ℕ) → All (λ k. 0 < k) ks → length ks ≤ length part → part ≡ padded (length part) 0 ks → r ≡ length ks) → r ≡ length (get_or ss s [])
  shown-count r part e count =
      let whole : part ≡ pad 0 (get_or ss s []) = e ∙ shown-part in
      let long : length part ≡ 64 = ap length whole ∙ length-padded 64 0 (get_or ss s []) shown-few in
      count (get_or ss s []) (λ k m. sh.listed.live k (in-part ss s shown-within k m)) (omega (arith, shown-few)) (rw long whole)

-- MANY
pub counted-more : (ss : Segments) (first i r c : ℕ) (counts counts' : List ℕ) → Counted ss first i counts r counts'
    → first + i < length ss → first + i < length counts → c ≡ length (get_or ss (first + i) []) → Counted ss first (i + 1) counts (r + c) (set counts' (first + i) c)
counted-more ss first i r c counts counts' w h k e = record { sum = sums; places = places }
  where
    old : List ℕ
    old = map length (take i (drop first ss))

    rest : List ℕ
    rest = drop (suc (first + i)) counts

    new : map length (take (i + 1) (drop first ss)) ≡ old ++ (c ∷ [])
    new =
        rw (add-one i)
        (ap (map length) (take-suc (drop first ss) i [] (omega (arith, length-drop first ss))) ∙ map-append length (take i (drop first ss)) (get_or (drop first ss) i [] ∷ [])
        ∙ ap (λ (l : List ℕ). old ++ (length l ∷ [])) (get_or-drop first ss i []) ∙ ap (λ (n : ℕ). old ++ (n ∷ [])) (sym e))

    sums : r + c ≡ total (map length (take (i + 1) (drop first ss)))
    sums = rw new (omega (arith, w.sum, total-append old (c ∷ [])))

    long : length (take first counts ++ old) ≡ first + i
    long =
        omega (
          arith,
          length-append (take first counts) old,
          length-take-le first counts (omega arith),
          length-map (take i (drop first ss)) (length {A = ℕ}),
          length-take-le i (drop first ss) (omega (arith, length-drop first ss)),
        )

    places : set counts' (first + i) c ≡ splice first (i + 1) (map length (take (i + 1) (drop first ss))) counts
    places =
        let n : suc (first + i) ≡ first + (i + 1) = omega arith in
        ap (λ (l : List ℕ). set l (first + i) c)
        (w.places ∙ sym (append_assoc (take first counts) old (drop (first + i) counts))
        ∙ ap {B = List ℕ} (λ l. (take first counts ++ old) ++ l) (drop-cons counts (first + i) 0 k))
        ∙ set_at (take first counts ++ old) (get_or counts (first + i) 0) rest c (first + i) long
        ∙ append_assoc (take first counts) old (c ∷ rest)
        ∙ ap {B = List ℕ} (λ l. take first counts ++ l) (sym (append_assoc old (c ∷ []) rest))
        ∙ ap₂ {C = List ℕ} (λ (l : List ℕ) (t : ℕ). take first counts ++ (l ++ drop t counts)) (sym new) n

-- A TABLE that has each count in its place: the counts of a stretch, and their sum
module _ (ss : Segments) (counts : List ℕ) (each : CountsOf ss counts) (f n : ℕ) (h : f + n ≤ length ss) (l : f + n ≤ length counts) where
  pub counts-within : take n (drop f counts) ≡ map length (take n (drop f ss))
  counts-within =
      ext_get_or 0 (take n (drop f counts)) (map length (take n (drop f ss))) (long ∙ sym (length-map (take n (drop f ss)) length ∙ length-take-le n (drop f ss) (omega (arith, length-drop f ss))))
      (λ i p.
      let q : i < n = omega (arith, long) in
      get_or-take n (drop f counts) i 0 q ∙ get_or-drop f counts i 0 ∙ each (f + i) (omega arith)
      ∙ sym (get_or-map length (take n (drop f ss)) i [] ∙ ap length (get_or-take n (drop f ss) i [] q ∙ get_or-drop f ss i [])))
    where
      long : length (take n (drop f counts)) ≡ n
      long = length-take-le n (drop f counts) (omega (arith, length-drop f counts))

  pub sum-within : total (take n (drop f counts)) ≡ length (keys (take n (drop f ss)))
  sum-within = ap total counts-within ∙ sym (length-joined (take n (drop f ss)))
