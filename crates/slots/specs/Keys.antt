-- Where a key stands among the keys, and the segment that it is in.
use Rattle.std.specs.Prelude.{ℕ, ◌<◌, Bool, true, false, List, [], ◌∷◌, ◌++◌, ltb, eqb, if◌then◌else◌}
use Rattle.lists.specs.Lists.{All, only, any_of}
use Rattle.lists.specs.Search.{place_by}
use Rattle.slots.specs.Segments.{Segments, keys}

-- Keys rise strictly.
abbrev pub Rising : List ℕ → Type 0
Rising [] = Unit {0}
Rising (k ∷ ks) = All (λ j. k < j) ks × Rising ks

-- Over the whole list they do, from 1 up.
pub record Listed (ss : Segments) : Type 0 where
  pub rising : Rising (keys ss)
  pub live : All (λ k. 0 < k) (keys ss)

abbrev pub member : ℕ → List ℕ → Bool
member k = any_of (eqb k)

abbrev pub below : ℕ → List ℕ → List ℕ
below y = only (λ k. ltb k y)

abbrev pub above : ℕ → List ℕ → List ℕ
above y = only (λ k. ltb y k)

-- A key put in its place among others, and taken out; either, as a flag says.
abbrev pub put : ℕ → List ℕ → List ℕ
put y ks = below y ks ++ (y ∷ above y ks)

abbrev pub cut : ℕ → List ℕ → List ℕ
cut y ks = below y ks ++ above y ks

abbrev pub changed : Bool → ℕ → List ℕ → List ℕ
changed true y ks = put y ks
changed false y ks = cut y ks

abbrev pub largest : List ℕ → ℕ
largest [] = 0
largest (k ∷ ks) = let m = largest ks in if ltb k m then m else k

-- The predecessor of y: the largest live key below y, or 0 for the front of the list.
unfoldable pub predecessor : ℕ → Segments → ℕ
predecessor y ss = largest (below y (keys ss))

-- The segment where a key is; 0 for the front; the number of segments for a key that is in none.
unfoldable pub segment_of : Segments → ℕ → ℕ
segment_of ss k = let at = place_by (member k) ss in if eqb k 0 then 0 else at
