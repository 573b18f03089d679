-- Slots copied one at a time from another list; and to the left and to the right: where the movements begin and end.
use mathlib.Core.Path.{◌≡◌, sym, ap, ◌∙◌}
use Prim.Native.Nat.{ℕ, ◌+◌, ◌-◌, ◌<◌}
use native.Mathlib.Nat.{add-zero}
use native.Mathlib.Numerals.{add-one}
use native.Mathlib.Omega.{arith}
use mathlib.Core.List.{List, ◌++◌, append_assoc}
use lib.ListN.{length, get_or, set, take, drop, length-drop, take-append-drop}
use lib.Seq.{paste, paste-zero, paste-suc, get_or-drop}
use Rattle.moves.specs.Moves.{moved}

module _ {A : Type 0} where
  -- FROM another list: i slots of s from a on are copied
  pub copy_more : (l s : List A) (a w i : ℕ) (z : A) → w + i < length l → a + i < length s
      → set (paste l w (drop a s) i) (w + i) (get_or s (a + i) z) ≡ paste l w (drop a s) (i + 1)
  copy_more l s a w i z h k =
      let hs : i < length (drop a s) = simp length-drop (omega arith) in
      ap (set (paste l w (drop a s) i) (w + i)) (sym (get_or-drop a s i z))
      ∙ paste-suc l w (drop a s) i z h hs
      ∙ ap (paste l w (drop a s)) (sym (add-one i))

  -- TO THE LEFT: none is copied
  pub left-none : (l : List A) (from to : ℕ) → l ≡ moved from to 0 l
  left-none l from to = paste-zero l to (drop from l)

  -- TO THE RIGHT: what is left to copy are the first i
  abbrev pub Right : List A → ℕ → ℕ → ℕ → ℕ → List A
  Right l from to c i = take (to + i) l ++ (take (c - i) (drop (from + i) l) ++ drop (to + c) l)

  pub right-none : (l : List A) (from to c i : ℕ) → i ≡ c → l ≡ Right l from to c i
  right-none l from to c i e =
      let e₁ : c - c ≡ 0 = omega arith in
      rw (e, e₁) (sym (take-append-drop (to + c) l))

  pub right-all : (l : List A) (from to c : ℕ) → Right l from to c 0 ≡ moved from to c l
  right-all l from to c =
      let e : c - 0 ≡ c = omega arith in
      simp (add-zero, e, append_assoc)
