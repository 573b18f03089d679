-- A plain sorted set of at most `most` keys, each with its card, and how it answers. It uses nothing of the rules.
use Rattle.std.specs.Prelude.{ℕ, Bool, true, false, ◌&&◌, List, [], ◌∷◌, ◌++◌, map, leb, ltb, eqb, length, take, drop, if◌then◌else◌}

-- A set of keys is a strictly rising list of numbers.
abbrev pub has : ℕ → List ℕ → Bool
has y [] = false
has y (k ∷ ks) = if eqb y k then true else has y ks

abbrev pub add : ℕ → List ℕ → List ℕ
add y [] = y ∷ []
add y (k ∷ ks) = let rest = k ∷ add y ks in if ltb y k then y ∷ k ∷ ks else if eqb y k then k ∷ ks else rest

abbrev pub remove : ℕ → List ℕ → List ℕ
remove y [] = []
remove y (k ∷ ks) = let rest = k ∷ remove y ks in if eqb y k then ks else rest

abbrev pub beyond : ℕ → List ℕ → List ℕ
beyond a [] = []
beyond a (k ∷ ks) = let rest = beyond a ks in if ltb a k then k ∷ rest else rest

-- A set of keys with their cards: the keys, and the card of each. (Of a number that is no key of it the card says nothing.)
pub record Events : Type 0 where
  pub keys : List ℕ
  pub card : ℕ → ℕ

abbrev pub empty : Events
empty = record { keys = []; card = λ k. 0 }

abbrev pub gain : ℕ → ℕ → Events → Events
gain y v E = record { keys = add y E.keys; card = λ k. if eqb k y then v else E.card k }

abbrev pub lose : ℕ → Events → Events
lose y E = record { keys = remove y E.keys; card = E.card }

-- What is asked, and what is told. A scan is asked with the two outputs that are lent.
pub data Ask : Type 0 where
  -- the key, and the card that comes with it
  Insert : ℕ → ℕ → Ask
  Delete : ℕ → Ask
  Lookup : ℕ → Ask
  Scan : ℕ → List ℕ → List ℕ → Ask

pub data Told : Type 0 where
  -- the number
  Inserted : ℕ → Told
  -- the number, and sparse
  Deleted : ℕ → Bool → Told
  -- the number, present, and the card
  Found : ℕ → Bool → ℕ → Told
  -- the number, how many are written, whether more remain, and the two outputs
  Scanned : ℕ → ℕ → Bool → List ℕ → List ℕ → Told

-- How a set of at most `most` keys answers; with fewer than `few` it is sparse.
abbrev pub insert_number : ℕ → ℕ → List ℕ → ℕ
insert_number most y ks = if eqb y 0 then 5 else if has y ks then 6 else if leb most (length ks) then 8 else 0

abbrev pub delete_number : ℕ → List ℕ → ℕ
delete_number y ks = if eqb y 0 then 5 else if has y ks then 0 else 7

abbrev pub told : ℕ → ℕ → Ask → Events → Told
told most few (Insert y v) E = Inserted (insert_number most y E.keys)
told most few (Delete y) E = Deleted (delete_number y E.keys) (eqb (delete_number y E.keys) 0 && ltb (length (remove y E.keys)) few)
told most few (Lookup y) E = if eqb y 0 then Found 5 false 0 else if has y E.keys then Found 0 true (E.card y) else Found 0 false 0
told most few (Scan a out cards) E =
    let found : List ℕ = beyond a E.keys in
    let page : List ℕ = take (length cards) (take (length out) found) in
    Scanned 0 (length page) (ltb (length page) (length found)) (page ++ drop (length page) out) (map E.card page ++ drop (length page) cards)

-- A key that is there keeps its card.
abbrev pub after : ℕ → Ask → Events → Events
after most (Insert y v) E = if eqb (insert_number most y E.keys) 0 then gain y v E else E
after most (Delete y) E = if eqb (delete_number y E.keys) 0 then lose y E else E
after most (Lookup y) E = E
after most (Scan a out cards) E = E

-- Any sequence: what is told, in order, and the set then.
abbrev pub all_told : ℕ → ℕ → List Ask → Events → List Told
all_told most few [] E = []
all_told most few (a ∷ asks) E = told most few a E ∷ all_told most few asks (after most a E)

abbrev pub after_all : ℕ → List Ask → Events → Events
after_all most [] E = E
after_all most (a ∷ asks) E = after_all most asks (after most a E)
