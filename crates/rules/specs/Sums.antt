-- Document 01, "Sums to check", 1 to 9: what is done, and the numbers that the document gives for it, in the first profile.
use Rattle.std.specs.Prelude.{ℕ, zero, suc, ◌-◌, ◌≡◌, length, replicate}
use mathlib.Core.List.{List, [], ◌∷◌, ◌++◌, map, Memᴰ as Mem}
use Rattle.slots.specs.Segments.{Segments}
use Rattle.cells.specs.declared.Cell.{Cell}
use Rattle.cells.specs.Cells.{cell, weight}
use Rattle.rules.specs.declared.Profile.{Profile}
use Rattle.rules.specs.declared.Profile.TheVariants.{First}
use Rattle.rules.specs.declared.Request.{Request}
use Rattle.rules.specs.declared.Request.TheVariants.{Insert, Delete}
use Rattle.rules.specs.Shares.{Shares, shares}
use Rattle.rules.specs.SharingOut.{share_out}
use Rattle.rules.specs.Placing.{Room, Outcome, refused_by, outcome}
use Rattle.rules.specs.Runs.{one}

-- n numbers from a upward, and n down to 1
abbrev pub up_from : ℕ → ℕ → List ℕ
up_from a zero = []
up_from a (suc n) = a ∷ up_from (suc a) n

abbrev pub down_from : ℕ → List ℕ
down_from zero = []
down_from (suc n) = suc n ∷ down_from n

abbrev pub room : Segments → List Cell → Room
room ss cs = record { segments = ss; cells = cs }

pub data Case : Type 0 where
  -- requests on a list of height h, and the numbers that the last one leaves
  Requested : ℕ → Room → List Request → List ℕ → Case
  -- keys shared out over a whole list of height h, by a forecast, and the counts of the segments
  Shared : ℕ → List Cell → List ℕ → List ℕ → Case

abbrev pub last : Shares → List Request → Outcome → Outcome
last S [] o = o
last S (q ∷ qs) o = last S qs (outcome S q o.room)

-- The counts of the segments; the last request's number, moves and sparse; the number of cells; the front's count.
abbrev pub seen : Outcome → List ℕ
seen o =
    map length o.room.segments
    ++ (o.answer.number ∷ o.answer.moves ∷ one o.answer.sparse ∷ length o.room.cells ∷ weight o.room.cells 0 ∷ [])

-- What a case gives in a profile, and what it says.
abbrev pub gives : Profile → Case → List ℕ
gives p (Requested h R qs ns) = seen (last (shares p h) qs (refused_by 0 R))
gives p (Shared h cs ks ns) = map length (share_out (shares p h) (weight cs) (weight cs 0) h ks)

abbrev pub says : Case → List ℕ
says (Requested h R qs ns) = ns
says (Shared h cs ks ns) = ns

-- An empty list of height 2, and a list of height 1 with a and b keys in its segments and no cell.
abbrev pub empty : Room
empty = room (replicate 4 []) []

abbrev pub pair : ℕ → ℕ → Room
pair a b = room (up_from 1 a ∷ up_from 101 b ∷ []) []

-- A delete of each key of segment 0 in turn, of 7 keys, beside b keys; ns by the key.
abbrev pub deletes_beside : ℕ → (ℕ → List ℕ) → List Case
deletes_beside b ns = map (λ y. Requested 1 (pair 7 b) (Delete y ∷ []) (ns y)) (up_from 1 7)

abbrev pub sum1 : List Case
sum1 = Requested 2 empty (map Insert (up_from 1 65)) (48 ∷ 17 ∷ 0 ∷ 0 ∷ 0 ∷ 65 ∷ 0 ∷ 7 ∷ 0 ∷ []) ∷ []

abbrev pub sum2 : List Case
sum2 = Requested 2 empty (map Insert (down_from 65)) (17 ∷ 48 ∷ 0 ∷ 0 ∷ 0 ∷ 65 ∷ 0 ∷ 1 ∷ 7 ∷ []) ∷ []

abbrev pub sum3 : List Case
sum3 = deletes_beside 30 (λ y. 18 ∷ 18 ∷ 0 ∷ 36 ∷ 0 ∷ 0 ∷ 0 ∷ [])

abbrev pub sum4 : List Case
sum4 = deletes_beside 19 (λ y. 6 ∷ 19 ∷ 0 ∷ (7 - y) ∷ 1 ∷ 0 ∷ 0 ∷ [])

abbrev pub sum5 : List Case
sum5 = deletes_beside 20 (λ y. 13 ∷ 13 ∷ 0 ∷ 26 ∷ 0 ∷ 0 ∷ 0 ∷ [])

abbrev pub sum6 : List Case
sum6 = Shared 1 (cell 10 0 1 ∷ cell 30 0 1 ∷ []) (up_from 1 37) (18 ∷ 19 ∷ []) ∷ []

abbrev pub sum7 : List Case
sum7 = Shared 1 [] (up_from 1 37) (19 ∷ 18 ∷ []) ∷ []

-- 64 keys in segment 0: a new key gives 8, each present one 6.
abbrev pub sum8 : List Case
sum8 =
    Requested 1 (pair 64 0) (Insert 65 ∷ []) (64 ∷ 0 ∷ 8 ∷ 0 ∷ 0 ∷ 0 ∷ 0 ∷ [])
    ∷ map (λ y. Requested 1 (pair 64 0) (Insert y ∷ []) (64 ∷ 0 ∷ 6 ∷ 0 ∷ 0 ∷ 0 ∷ 0 ∷ [])) (up_from 1 64)

abbrev pub sum9 : List Case
sum9 = Requested 1 (room ((7 ∷ []) ∷ [] ∷ []) (cell 7 0 3 ∷ [])) (Delete 7 ∷ []) (0 ∷ 0 ∷ 0 ∷ 0 ∷ 1 ∷ 0 ∷ 0 ∷ []) ∷ []

abbrev pub cases : List Case
cases = sum1 ++ (sum2 ++ (sum3 ++ (sum4 ++ (sum5 ++ (sum6 ++ (sum7 ++ (sum8 ++ sum9)))))))

abbrev pub Sums : Type 0
Sums = (c : Case) → Mem c cases → gives First c ≡ says c
