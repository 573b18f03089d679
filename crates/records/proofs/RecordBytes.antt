-- A mark, a kind, the eight bytes of a key and, of kind 4, the four of a card are one record.
use mathlib.Core.Path.{◌≡◌, sym, ap, ap₂, ◌∙◌}
use mathlib.Core.Bool.{Bool, true, false}
use mathlib.Core.List.{List, [], ◌∷◌, ◌++◌}
use Prim.Native.Nat.{ℕ, ◌+◌, ◌*◌, ◌/◌, ◌%◌, ◌^◌, ◌<◌}
use native.Mathlib.Nat.{div-add-mod, div-div-eq-div-mul}
use native.Mathlib.Omega.{arith}
use lib.ListN.{take}
use Rattle.rules.specs.declared.Record.{Record}
use Rattle.rules.specs.Runs.{high_first, asking, record_of, records_of}
use Rattle.records.specs.Asked.{asked, size_for, card_for}

-- kind 4 puts a key in with its card, kind 2 takes it out
abbrev pub kind_of : Bool → ℕ
kind_of true = 4
kind_of false = 2

-- the bytes of a key, high byte first
abbrev pub bytes_of : ℕ → List ℕ
bytes_of y =
    y / 72057594037927936 % 256 ∷ y / 281474976710656 % 256 ∷ y / 1099511627776 % 256 ∷ y / 4294967296 % 256
    ∷ y / 16777216 % 256 ∷ y / 65536 % 256 ∷ y / 256 % 256 ∷ y % 256 ∷ []

-- one byte more: the bytes down to a unit are the number of times that it goes into the key
next-byte : (y unit : ℕ) → 256 * (y / (unit * 256)) + y / unit % 256 ≡ y / unit
next-byte y unit = ap (λ (n : ℕ). 256 * n + y / unit % 256) (sym (div-div-eq-div-mul y unit 256)) ∙ div-add-mod (y / unit) 256

key-again : (y : ℕ) → y < 2 ^ 64 → high_first 0 (bytes_of y) ≡ y
key-again y h =
    let top : 256 * 0 + y / 72057594037927936 % 256 ≡ y / 72057594037927936 = omega arith in
    rw (top, next-byte y 281474976710656, next-byte y 1099511627776, next-byte y 4294967296, next-byte y 16777216, next-byte y 65536, next-byte y 256) (div-add-mod y 256)

-- the bytes of a card
abbrev pub card_bytes : ℕ → List ℕ
card_bytes v = v / 16777216 % 256 ∷ v / 65536 % 256 ∷ v / 256 % 256 ∷ v % 256 ∷ []

card-again : (v : ℕ) → v < 2 ^ 32 → high_first 0 (card_bytes v) ≡ v
card-again v h =
    let top : 256 * 0 + v / 16777216 % 256 ≡ v / 16777216 = omega arith in
    rw (top, next-byte v 65536, next-byte v 256) (div-add-mod v 256)

pub one-record : (grows : Bool) (y v : ℕ) → y < 2 ^ 64 → v < 2 ^ 32
    → records_of (take (size_for grows) (0xA5 ∷ 0x5A ∷ kind_of grows ∷ bytes_of y ++ card_bytes v)) ≡ asking (asked grows y) (card_for grows v) (size_for grows) ∷ []
unfolding records_of record_of
one-record true y v h k = ap₂ {C = List Record} (λ z w. asking (asked true z) w 15 ∷ []) (key-again y h) (card-again v k)
one-record false y v h k = ap {B = List Record} (λ z. asking (asked false z) 0 11 ∷ []) (key-again y h)
