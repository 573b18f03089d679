-- Slots copied four at a time, the four at the far end, which may overlap those before, read first and written last: laws of a copy of k slots.
use mathlib.Core.Path.{◌≡◌, sym, ap, ap₂, ◌∙◌}
use Prim.Native.Nat.{ℕ, ◌+◌, ◌-◌, ◌≤◌}
use native.Mathlib.Nat.{add-zero}
use native.Mathlib.Omega.{arith}
use mathlib.Core.List.{List, ◌++◌, append_assoc}
use lib.ListN.{length, take, drop, length-take, length-drop}
use lib.Seq.{paste, length_paste_head, length-take-le, take_at, take-append-le, take-append-add, drop-append-le, drop-append-add, take-take, drop-drop, take-add}
use Rattle.moves.specs.Moves.{moved}
use Rattle.moves.proofs.Moving.{Right, right-all}
use Rattle.moves.proofs.Fronts.{drop_past, part-alike, take-drop}

module _ {A : Type 0} where
  -- FROM s: i slots of s from a on are copied to to, and then the k from e on
  take-laid : (l d : List A) (to e i : ℕ) → to + i ≤ length l → i ≤ length d → e ≤ i → take (to + e) (paste l to d i) ≡ take to l ++ take e d
  take-laid l d to e i h k j =
      let lt : length (take to l) ≡ to = length-take-le to l (omega arith) in
      let lp : length (take to l ++ take i d) ≡ to + i = length_paste_head l to d i (omega arith) k in
      take-append-le (to + e) (take to l ++ take i d) (drop (to + i) l) (omega arith)
      ∙ ap (λ (n : ℕ). take (n + e) (take to l ++ take i d)) (sym lt)
      ∙ take-append-add (take to l) (take i d) e
      ∙ ap (λ (t : List A). take to l ++ t) (take-take e i d j)

  lay-on : (l s : List A) (a to e k i : ℕ) → to + (e + k) ≤ length l → a + (e + k) ≤ length s → e ≤ i → i ≤ e + k
      → paste (paste l to (drop a s) i) (to + e) (drop (a + e) s) k ≡ paste l to (drop a s) (e + k)
  lay-on l s a to e k i h q j m =
      let d : List A = drop a s in
      let M : List A = paste l to d i in
      let ld : i ≤ length d = simp length-drop (omega arith) in
      let lp : length (take to l ++ take i d) ≡ to + i = length_paste_head l to d i (omega arith) ld in
      let e₁ : to + e + k ≡ to + (e + k) = omega arith in
      ap (λ (t : List A). t ++ take k (drop (a + e) s) ++ drop (to + e + k) M) (take-laid l d to e i (omega arith) ld j)
      ∙ ap (λ (t : List A). take to l ++ take e d ++ take k t ++ drop (to + e + k) M) (sym (drop-drop e a s))
      ∙ ap (λ (t : List A). take to l ++ take e d ++ take k (drop e d) ++ t) (drop_past (take to l ++ take i d) l (to + i) (to + e + k) lp (omega arith))
      ∙ ap (λ (t : List A). t ++ drop (to + e + k) l) (append_assoc (take to l) (take e d) (take k (drop e d)) ∙ ap (λ (t : List A). take to l ++ t) (sym (take-add e k d)))
      ∙ ap (λ (n : ℕ). take to l ++ take (e + k) d ++ drop n l) e₁

  -- the same, of what was read and what it was laid over
  pub laid_on : (l s read over new : List A) (a to e k i : ℕ) → to + (e + k) ≤ length l → a + (e + k) ≤ length s → e ≤ i → i ≤ e + k
      → take k (drop (a + e) s) ≡ read → over ≡ paste l to (drop a s) i → new ≡ take (to + e) over ++ read ++ drop (to + e + k) over → new ≡ paste l to (drop a s) (e + k)
  laid_on l s read over new a to e k i h q j m r o n =
      n ∙ ap₂ {C = List A} (λ (p vs : List A). take (to + e) p ++ vs ++ drop (to + e + k) p) o (sym r) ∙ lay-on l s a to e k i h q j m

  -- TO THE LEFT: the same from the list itself, as the movement of i slots has left it
  left-on : (l : List A) (from to i k : ℕ) → to ≤ from → from + (i + k) ≤ length l → moved (from + i) (to + i) k (moved from to i l) ≡ moved from to (i + k) l
  left-on l from to i k h q =
      let d : List A = drop from l in
      let M : List A = moved from to i l in
      let lp : length (take to l ++ take i d) ≡ to + i = length_paste_head l to d i (omega arith) (simp length-drop (omega arith)) in
      ap (λ (t : List A). paste M (to + i) t k) (drop_past (take to l ++ take i d) l (to + i) (from + i) lp (omega arith))
      ∙ lay-on l l from to i k i (omega arith) q (omega arith) (omega arith)

  pub left-turn : (l over new : List A) (from to i k : ℕ) → to ≤ from → from + (i + k) ≤ length l → over ≡ moved from to i l → new ≡ moved (from + i) (to + i) k over → new ≡ moved from to (i + k) l
  left-turn l over new from to i k h q o n = n ∙ ap (moved (from + i) (to + i) k) o ∙ left-on l from to i k h q

  -- and the last k of c, read before and laid where i of them stand already
  pub left-laid : (l read over new : List A) (from to c k i : ℕ) → to ≤ from → from + c ≤ length l → k ≤ c → c - k ≤ i → i ≤ c → take k (drop (from + (c - k)) l) ≡ read → over ≡ moved from to i l
      → new ≡ take (to + (c - k)) over ++ read ++ drop (to + (c - k) + k) over → new ≡ moved from to c l
  left-laid l read over new from to c k i h q j m n r o w =
      let e : c - k + k ≡ c = omega arith in
      w ∙ ap₂ {C = List A} (λ (p vs : List A). take (to + (c - k)) p ++ vs ++ drop (to + (c - k) + k) p) o (sym r)
      ∙ lay-on l l from to (c - k) k i (omega arith) (omega arith) m (omega arith)
      ∙ ap (λ (n : ℕ). moved from to n l) e

  -- TO THE RIGHT: the first i of c slots are left to copy, and then the k from j on are copied, read from the list as it was
  drop-right : (l : List A) (from to c i n : ℕ) → from ≤ to → to + c ≤ length l → i ≤ n → n ≤ c
      → drop (to + n) (Right l from to c i) ≡ take (c - n) (drop (from + n) l) ++ drop (to + c) l
  drop-right l from to c i n h k p q =
      let f : List A = take (to + i) l in
      let D : List A = drop (from + i) l in
      let r : List A = drop (to + c) l in
      let lf : length f ≡ to + i = length-take-le (to + i) l (omega arith) in
      let e₁ : to + n ≡ length f + (n - i) = omega arith in
      let e₂ : c - i - (n - i) ≡ c - n = omega arith in
      let e₃ : from + i + (n - i) ≡ from + n = omega arith in
      ap (λ (m : ℕ). drop m (Right l from to c i)) e₁
      ∙ drop-append-add f (take (c - i) D ++ r) (n - i)
      ∙ drop-append-le (n - i) (take (c - i) D) r (simp (length-take, length-drop) (omega arith))
      ∙ ap (λ (t : List A). t ++ r) (sym (take-drop (n - i) (c - i) D (omega arith) (simp length-drop (omega arith))))
      ∙ ap (λ (m : ℕ). take m (drop (n - i) D) ++ r) e₂
      ∙ ap (λ (t : List A). take (c - n) t ++ r) (drop-drop (n - i) (from + i) l ∙ ap (λ (m : ℕ). drop m l) e₃)

  right-lay : (l : List A) (from to c j k i : ℕ) → from ≤ to → to + c ≤ length l → j ≤ i → i ≤ j + k → j + k ≤ c
      → paste (Right l from to c i) (to + j) (drop (from + j) l) k ≡ Right l from to c j
  right-lay l from to c j k i h q p m n =
      let R : List A = Right l from to c i in
      let D : List A = drop (from + j) l in
      let r : List A = drop (to + c) l in
      let lf : length (take (to + i) l) ≡ to + i = length-take-le (to + i) l (omega arith) in
      let e₁ : to + j + k ≡ to + (j + k) = omega arith in
      let e₂ : from + (j + k) ≡ from + j + k = omega arith in
      let e₃ : k + (c - (j + k)) ≡ c - j = omega arith in
      ap (λ (t : List A). t ++ take k D ++ drop (to + j + k) R) (take-append-le (to + j) (take (to + i) l) (take (c - i) (drop (from + i) l) ++ r) (omega arith) ∙ take-take (to + j) (to + i) l (omega arith))
      ∙ ap (λ (t : List A). take (to + j) l ++ take k D ++ t) (ap (λ (m : ℕ). drop m R) e₁ ∙ drop-right l from to c i (j + k) h q m n)
      ∙ ap (λ (t : List A). take (to + j) l ++ take k D ++ (take (c - (j + k)) t ++ r)) (ap (λ (m : ℕ). drop m l) e₂ ∙ sym (drop-drop k (from + j) l))
      ∙ append_assoc (take (to + j) l) (take k D) (take (c - (j + k)) (drop k D) ++ r)
      ∙ ap (λ (t : List A). take (to + j) l ++ t) (sym (append_assoc (take k D) (take (c - (j + k)) (drop k D)) r) ∙ ap (λ (t : List A). t ++ r) (sym (take-add k (c - (j + k)) D)))
      ∙ ap (λ (m : ℕ). take (to + j) l ++ (take m D ++ r)) e₃

  right-last : (l : List A) (from to c k i : ℕ) → from ≤ to → to + c ≤ length l → i ≤ k → k ≤ c → paste (Right l from to c i) to (drop from l) k ≡ moved from to c l
  right-last l from to c k i h q m n =
      ap (λ (t : ℕ). paste (Right l from to c i) t (drop from l) k) (sym (add-zero to))
      ∙ ap (λ (t : ℕ). paste (Right l from to c i) (to + 0) (drop t l) k) (sym (add-zero from))
      ∙ right-lay l from to c 0 k i h q (omega arith) (omega arith) (omega arith)
      ∙ right-all l from to c

  right-on : (l : List A) (from to c i j k : ℕ) → from ≤ to → to + c ≤ length l → i ≤ c → j + k ≡ i → moved (from + j) (to + j) k (Right l from to c i) ≡ Right l from to c j
  right-on l from to c i j k h q m n =
      let R : List A = Right l from to c i in
      let f : List A = take (to + i) l in
      let r : List A = take (c - i) (drop (from + i) l) ++ drop (to + c) l in
      let lf : length f ≡ to + i = length-take-le (to + i) l (omega arith) in
      let e : take k (drop (from + j) R) ≡ take k (drop (from + j) l) = part-alike (from + j) k (to + i) R l (omega arith) (take_at f r (to + i) lf) in
      ap (λ (t : List A). take (to + j) R ++ t ++ drop (to + j + k) R) e
      ∙ right-lay l from to c j k i h q (omega arith) (omega arith) (omega arith)

  -- the same, of what was moved, and of what was read and what it was laid over
  pub right-turn : (l over new : List A) (from to c i j k : ℕ) → from ≤ to → to + c ≤ length l → i ≤ c → j + k ≡ i → over ≡ Right l from to c i
      → new ≡ moved (from + j) (to + j) k over → new ≡ Right l from to c j
  right-turn l over new from to c i j k h q m e o n = n ∙ ap (moved (from + j) (to + j) k) o ∙ right-on l from to c i j k h q m e

  pub right-laid : (l read over new : List A) (from to c k i : ℕ) → from ≤ to → to + c ≤ length l → i ≤ k → k ≤ c → take k (drop from l) ≡ read → over ≡ Right l from to c i
      → new ≡ take to over ++ read ++ drop (to + k) over → new ≡ moved from to c l
  right-laid l read over new from to c k i h q m p r o n =
      n ∙ ap₂ {C = List A} (λ (p vs : List A). take to p ++ vs ++ drop (to + k) p) o (sym r) ∙ right-last l from to c k i h q m p
