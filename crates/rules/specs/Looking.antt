-- Document 01, "Lookup and scan", with the cards of document 02, (ii), on a list that has passed its check. c is the card of each key.
use Rattle.std.specs.Prelude.{ℕ, Bool, true, false, List, [], ◌∷◌, ◌++◌, map, ltb, eqb, length, take, drop, if◌then◌else◌}
use Rattle.lists.specs.Lists.{any_of}
use Rattle.slots.specs.Segments.{Segments, keys}
use Rattle.slots.specs.Keys.{member, above, segment_of}

-- Lookup says present, with the segment and the card, or not present.
pub record Found : Type 0 where
  pub number : ℕ
  pub present : Bool
  pub segment : ℕ
  pub card : ℕ

abbrev pub not_found : ℕ → Found
not_found n = record { number = n; present = false; segment = 0; card = 0 }

unfoldable pub looked_up : ℕ → (ℕ → ℕ) → Segments → Found
looked_up y c ss =
    if eqb y 0 then not_found 5
    else if member y (keys ss) then record { number = 0; present = true; segment = segment_of ss y; card = c y }
    else not_found 0

-- Scan from a writes the live keys above a, rising, and their cards into two outputs until either is full or they end: the shorter sets how
-- many fit. The rest of both stays. It tells the number written and whether a live key remains above the last one written, or above a if
-- none was.
pub record Scanned : Type 0 where
  pub number : ℕ
  pub written : ℕ
  pub more : Bool
  pub output : List ℕ
  pub cards : List ℕ

abbrev pub last_or : ℕ → List ℕ → ℕ
last_or a [] = a
last_or a (k ∷ ks) = last_or k ks

unfoldable pub scanned : ℕ → (ℕ → ℕ) → Segments → List ℕ → List ℕ → Scanned
scanned a c ss out cards =
    let ks : List ℕ = take (length cards) (take (length out) (above a (keys ss))) in
    record {
      number = 0;
      written = length ks;
      more = any_of (ltb (last_or a ks)) (keys ss);
      output = ks ++ drop (length ks) out;
      cards = map c ks ++ drop (length ks) cards;
    }
