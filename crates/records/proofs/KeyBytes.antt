-- The key of a record from its eight bytes, high byte first, and the card from its four; and both as std reads them.
use mathlib.Core.Path.{◌≡◌, refl, sym, ◌∙◌}
use mathlib.Core.List.{List, [], ◌∷◌}
use Prim.Native.Nat.{ℕ, ◌+◌, ◌*◌, ◌≤◌}
use native.Mathlib.Omega.{arith}
use lib.ListN.{length, take, drop, get_or, length-drop}
use lib.Seq.{get_or-drop}
use Rattle.std.specs.Int.{w32, w64, from_be_bytes}
use Rattle.rules.specs.Runs.{high_first, key_of, card_of}

abbrev quad : ℕ → ℕ → ℕ → ℕ → ℕ
quad a b c d = ((a * 256 + b) * 256 + c) * 256 + d

-- the high four bytes, then the low four
pub key-bytes : (bs : List ℕ) (h l : ℕ) → 11 ≤ length bs → h ≡ quad (get_or bs 3 0) (get_or bs 4 0) (get_or bs 5 0) (get_or bs 6 0)
    → l ≡ quad (get_or bs 7 0) (get_or bs 8 0) (get_or bs 9 0) (get_or bs 10 0) → h * 4294967296 + l ≡ key_of bs
key-bytes (x ∷ y ∷ z ∷ a ∷ b ∷ c ∷ d ∷ e ∷ f ∷ g ∷ k ∷ bs) h l n p q = omega arith
key-bytes [] h l n p q = absurd (omega arith)
key-bytes (x ∷ []) h l n p q = absurd (omega arith)
key-bytes (x ∷ y ∷ []) h l n p q = absurd (omega arith)
key-bytes (x ∷ y ∷ z ∷ []) h l n p q = absurd (omega arith)
key-bytes (x ∷ y ∷ z ∷ a ∷ []) h l n p q = absurd (omega arith)
key-bytes (x ∷ y ∷ z ∷ a ∷ b ∷ []) h l n p q = absurd (omega arith)
key-bytes (x ∷ y ∷ z ∷ a ∷ b ∷ c ∷ []) h l n p q = absurd (omega arith)
key-bytes (x ∷ y ∷ z ∷ a ∷ b ∷ c ∷ d ∷ []) h l n p q = absurd (omega arith)
key-bytes (x ∷ y ∷ z ∷ a ∷ b ∷ c ∷ d ∷ e ∷ []) h l n p q = absurd (omega arith)
key-bytes (x ∷ y ∷ z ∷ a ∷ b ∷ c ∷ d ∷ e ∷ f ∷ []) h l n p q = absurd (omega arith)
key-bytes (x ∷ y ∷ z ∷ a ∷ b ∷ c ∷ d ∷ e ∷ f ∷ g ∷ []) h l n p q = absurd (omega arith)

-- four bytes, high byte first
four-first : (bs : List ℕ) → 4 ≤ length bs → quad (get_or bs 0 0) (get_or bs 1 0) (get_or bs 2 0) (get_or bs 3 0) ≡ high_first 0 (take 4 bs)
four-first (a ∷ b ∷ c ∷ d ∷ bs) n = omega arith
four-first [] n = absurd (omega arith)
four-first (a ∷ []) n = absurd (omega arith)
four-first (a ∷ b ∷ []) n = absurd (omega arith)
four-first (a ∷ b ∷ c ∷ []) n = absurd (omega arith)

pub card-bytes : (bs : List ℕ) (v : ℕ) → 15 ≤ length bs → v ≡ quad (get_or bs 11 0) (get_or bs 12 0) (get_or bs 13 0) (get_or bs 14 0) → v ≡ card_of bs
card-bytes bs v n p =
    p ∙ sym (rw (get_or-drop 11 bs 0 0, get_or-drop 11 bs 1 0, get_or-drop 11 bs 2 0, get_or-drop 11 bs 3 0) refl)
    ∙ four-first (drop 11 bs) (omega (arith, length-drop 11 bs))

-- as std reads them
pub key-read : (bs : List ℕ) → 11 ≤ length bs
    → from_be_bytes w64 (get_or bs 3 0 ∷ get_or bs 4 0 ∷ get_or bs 5 0 ∷ get_or bs 6 0 ∷ get_or bs 7 0 ∷ get_or bs 8 0 ∷ get_or bs 9 0 ∷ get_or bs 10 0 ∷ []) ≡ key_of bs
key-read bs n = omega (arith, key-bytes bs _ _ n refl refl)

pub card-read : (bs : List ℕ) → 15 ≤ length bs → from_be_bytes w32 (get_or bs 11 0 ∷ get_or bs 12 0 ∷ get_or bs 13 0 ∷ get_or bs 14 0 ∷ []) ≡ card_of bs
card-read bs n = omega (arith, card-bytes bs _ n refl)
