-- The counts of the segments, first in a table; and an element of a list with a stretch exchanged.
use mathlib.Core.Path.{◌≡◌, sym, ap, ◌∙◌}
use mathlib.Core.Logic.{◌⊎◌, inl, inr}
use mathlib.Core.List.{List, [], ◌++◌, map}
use Prim.Native.Nat.{ℕ, ◌+◌, ◌-◌, ◌≤◌, ◌<◌}
use native.Mathlib.Omega.{arith}
use lib.ListN.{length, take, drop, get_or, length-map, get_or-map, get_or-append}
use lib.Seq.{get_or-append-add, get_or-take, get_or-drop, length-take-le}
use Rattle.lists.specs.Lists.{splice}
use Rattle.slots.specs.Segments.{Segments}
use Rattle.slots.specs.Shown.{CountsOf}

-- the table of a list, whatever stands after
pub counts-front : (ss : Segments) (counts rest : List ℕ) → counts ≡ map length ss ++ rest → CountsOf ss counts
counts-front ss counts rest e k h =
    ap (λ (l : List ℕ). get_or l k 0) e ∙ get_or-append (map length ss) rest 0 k (omega (arith, length-map ss length)) ∙ get_or-map length ss k []

-- an element of a list with a stretch exchanged
module _ {A : Type 0} (i n : ℕ) (new xs : List A) (d : A) (e : length new ≡ n) (h : i + n ≤ length xs) where
  long : length (take i xs) ≡ i
  long = length-take-le i xs (omega arith)

  splice-before : (k : ℕ) → k < i → get_or (splice i n new xs) k d ≡ get_or xs k d
  splice-before k l = get_or-append (take i xs) (new ++ drop (i + n) xs) d k (omega (arith, long)) ∙ get_or-take i xs k d l

  pub splice-in : (k : ℕ) → k < n → get_or (splice i n new xs) (i + k) d ≡ get_or new k d
  splice-in k l =
      let f : i + k ≡ length (take i xs) + k = omega (arith, long) in
      ap (λ (j : ℕ). get_or (splice i n new xs) j d) f ∙ get_or-append-add (take i xs) (new ++ drop (i + n) xs) k d
      ∙ get_or-append new (drop (i + n) xs) d k (omega arith)

  splice-after : (k : ℕ) → get_or (splice i n new xs) (i + n + k) d ≡ get_or xs (i + n + k) d
  splice-after k =
      let f : i + n + k ≡ length (take i xs) + (length new + k) = omega (arith, long) in
      ap (λ (j : ℕ). get_or (splice i n new xs) j d) f ∙ get_or-append-add (take i xs) (new ++ drop (i + n) xs) (length new + k) d
      ∙ get_or-append-add new (drop (i + n) xs) k d ∙ get_or-drop (i + n) xs k d

  pub splice-beside : (k : ℕ) → (k < i) ⊎ (i + n ≤ k) → get_or (splice i n new xs) k d ≡ get_or xs k d
  splice-beside k (inl l) = splice-before k l
  splice-beside k (inr l) =
      let f : i + n + (k - (i + n)) ≡ k = omega arith in
      ap (λ (j : ℕ). get_or (splice i n new xs) j d) (sym f) ∙ splice-after (k - (i + n)) ∙ ap (λ (j : ℕ). get_or xs j d) f
