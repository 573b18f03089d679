-- The counts of windows, by how many keys stand before a segment: what a changed segment and a sweep do to them.
use mathlib.Core.Path.{◌≡◌, sym, ap, ap₂, ◌∙◌, subst}
use mathlib.Core.Logic.{◌⊎◌, inl, inr, ◌≢◌}
use mathlib.Core.List.{List, [], ◌∷◌, ◌++◌, map, append_assoc, append-nil}
use Prim.Native.Nat.{ℕ, zero, suc, ◌+◌, ◌-◌, ◌*◌, ◌/◌, ◌^◌, ◌≤◌, ◌<◌}
use native.Mathlib.Nat.{not-suc-le-zero, le_of_suc-le-suc, add_comm, add-mul, add-mul-div_right, mul_assoc, mul-le-mul_right}
use native.Mathlib.Decide.{dec_lt}
use native.Mathlib.Omega.{arith}
use lib.ListN.{length, take, drop, get_or, set, length-append, length-take, length-drop, length-map, length-set, get_or-map}
use lib.Seq.{take-add, take-append-le, take-append-add, drop-append-add, drop-append-le, take-set-le, take-set-lt, get_or-take, length-take-le, take-take, get_or-set_same}
use Rattle.lists.specs.Lists.{total, splice}
use Rattle.lists.proofs.Joined.{total-append, length-joined}
use Rattle.lists.proofs.Maps.{map-set}
use Rattle.slots.specs.Segments.{Segments, keys}
use Rattle.slots.specs.Windows.{start, window, count}
use Rattle.slots.proofs.Windows.{pow_pos, divides, start-le, lt-end, start_fits, map-window, window-zero}

-- WINDOWS AGAINST WINDOWS
-- windows stand as they do from any multiple of their size on
pub start-add : (j q t : ℕ) → start j (q * 2 ^ j + t) ≡ q * 2 ^ j + start j t
start-add j q t =
    ap (λ (n : ℕ). n * 2 ^ j) (ap (λ (n : ℕ). n / 2 ^ j) (add_comm (q * 2 ^ j) t) ∙ add-mul-div_right t q (pow_pos j) ∙ add_comm (t / 2 ^ j) q)
    ∙ add-mul q (t / 2 ^ j) (2 ^ j)

-- a window's start is a multiple of the size of any smaller one
pub multiple : (j k s : ℕ) → j ≤ k → start k s ≡ s / 2 ^ k * 2 ^ (k - j) * 2 ^ j
multiple j k s h = ap (λ (n : ℕ). s / 2 ^ k * n) (sym (divides j k h)) ∙ sym (mul_assoc (s / 2 ^ k) (2 ^ (k - j)) (2 ^ j))

-- where a segment's window stands in a larger one round it
pub start-in : (j k s : ℕ) → j ≤ k → start j s ≡ start k s + start j (s - start k s)
start-in j k s h = ap (start j) e ∙ start-add j (s / 2 ^ k * 2 ^ (k - j)) (s - start k s) ∙ ap (λ (n : ℕ). n + start j (s - start k s)) (sym (multiple j k s h))
  where
    e : s ≡ s / 2 ^ k * 2 ^ (k - j) * 2 ^ j + (s - start k s)
    e = omega (arith, multiple j k s h, start-le k s)

pub within-window : (j k s : ℕ) → j ≤ k → (start k s ≤ start j s) × (start j s + 2 ^ j ≤ start k s + 2 ^ k)
within-window j k s h = omega (arith, start-in j k s h, start_fits j k (s - start k s) h (omega (arith, lt-end k s, start-le k s)))

-- two multiples of a size are a size apart
apart : (k p q : ℕ) → (q * 2 ^ k ≤ p * 2 ^ k) ⊎ (p * 2 ^ k + 2 ^ k ≤ q * 2 ^ k)
apart k p q = elim (dec_lt p q) [ yes h ↦ inr (omega (arith, mul-le-mul_right (2 ^ k) h)) | no h ↦ inl (mul-le-mul_right (2 ^ k) (omega arith)) ]

-- m is not strictly inside the window of level k round s
abbrev pub Outside : ℕ → ℕ → ℕ → Type 0
Outside k s m = (m ≤ start k s) ⊎ (start k s + 2 ^ k ≤ m)

-- the ends of a window of level l, at least k, or of one in another window of level k
pub ends_above : (k l s t : ℕ) → k ≤ l → Outside k s (start l t) × Outside k s (start l t + 2 ^ l)
ends_above k l s t h = (subst (Outside k s) (sym (multiple k l t h)) (apart k (s / 2 ^ k) q), subst (Outside k s) e (apart k (s / 2 ^ k) (q + 2 ^ (l - k))))
  where
    q : ℕ
    q = t / 2 ^ l * 2 ^ (l - k)

    e : (q + 2 ^ (l - k)) * 2 ^ k ≡ start l t + 2 ^ l
    e = add-mul q (2 ^ (l - k)) (2 ^ k) ∙ ap₂ ◌+◌ (sym (multiple k l t h)) (divides k l h)

pub ends-beside : (k l s t : ℕ) → l ≤ k → start k s ≢ start k t → Outside k s (start l t) × Outside k s (start l t + 2 ^ l)
ends-beside k l s t h n =
    elim (apart k (s / 2 ^ k) (t / 2 ^ k)) [
      | inr a ↦ (inr (omega (arith, within-window l k t h)), inr (omega (arith, within-window l k t h)))
      | inl a ↦
          elim (apart k (t / 2 ^ k) (s / 2 ^ k)) [
            | inr b ↦ (inl (omega (arith, within-window l k t h)), inl (omega (arith, within-window l k t h, pow_pos l)))
            | inl b ↦ absurd (omega arith)
          ]
    ]

-- COUNTS
-- the keys in a window, by those before its ends
pub by-ends : (l s : ℕ) (ns : List ℕ) → total (take (start l s) ns) + total (window l s ns) ≡ total (take (start l s + 2 ^ l) ns)
by-ends l s ns = sym (ap total (take-add (start l s) (2 ^ l) ns) ∙ total-append (take (start l s) ns) (window l s ns))

-- a window whose ends keep what is before them keeps its count
pub same_ends : (l s : ℕ) (ns ms : List ℕ) → total (take (start l s) ms) ≡ total (take (start l s) ns)
    → total (take (start l s + 2 ^ l) ms) ≡ total (take (start l s + 2 ^ l) ns) → total (window l s ms) ≡ total (window l s ns)
same_ends l s ns ms a b = omega (arith, by-ends l s ns, by-ends l s ms)

-- one count changed
total-set : (ns : List ℕ) (s v : ℕ) → s < length ns → total (set ns s v) + get_or ns s 0 ≡ total ns + v
total-set [] s v h = absurd (not-suc-le-zero h)
total-set (n ∷ ns) zero v h = omega arith
total-set (n ∷ ns) (suc s) v h = omega (arith, total-set ns s v (le_of_suc-le-suc h))

before-set : (m : ℕ) (ns : List ℕ) (s v : ℕ) → s < length ns → s < m → total (take m (set ns s v)) + get_or ns s 0 ≡ total (take m ns) + v
before-set m ns s v h k =
    rw (take-set-lt m ns s v k, ← get_or-take m ns s 0 k) (total-set (take m ns) s v (omega (arith, length-take m ns)))

-- a window round the segment, and one beside it
pub window-set-in : (l t : ℕ) (ns : List ℕ) (s v : ℕ) → s < length ns → start l s ≡ start l t
    → total (window l t (set ns s v)) + get_or ns s 0 ≡ total (window l t ns) + v
window-set-in l t ns s v h e =
    omega (
      arith,
      by-ends l t ns,
      by-ends l t (set ns s v),
      before-set (start l t + 2 ^ l) ns s v h (omega (arith, lt-end l s)),
      ap total (take-set-le (start l t) ns s v (omega (arith, start-le l s))),
    )

pub window-set-out : (l t : ℕ) (ns : List ℕ) (s v : ℕ) → s < length ns → start l s ≢ start l t → total (window l t (set ns s v)) ≡ total (window l t ns)
window-set-out l t ns s v h n =
    elim (apart l (s / 2 ^ l) (t / 2 ^ l)) [
      | inr a ↦
          omega (
            arith,
            by-ends l t ns,
            by-ends l t (set ns s v),
            before-set (start l t) ns s v h (omega (arith, lt-end l s)),
            before-set (start l t + 2 ^ l) ns s v h (omega (arith, lt-end l s)),
          )
      | inl a ↦
          elim (apart l (t / 2 ^ l) (s / 2 ^ l)) [
            | inr b ↦
                same_ends l t ns (set ns s v) (ap total (take-set-le (start l t) ns s v (omega (arith, start-le l s))))
                (ap total (take-set-le (start l t + 2 ^ l) ns s v (omega (arith, start-le l s))))
            | inl b ↦ absurd (omega arith)
          ]
    ]

-- a stretch exchanged for one with the same total
before-splice : (m i n : ℕ) (new ns : List ℕ) → length new ≡ n → i + n ≤ length ns → total new ≡ total (take n (drop i ns)) → (m ≤ i) ⊎ (i + n ≤ m)
    → total (take m (splice i n new ns)) ≡ total (take m ns)
before-splice m i n new ns e h k (inl p) =
    ap total
    (take-append-le m (take i ns) (new ++ drop (i + n) ns) (omega (arith, length-take-le i ns (omega arith))) ∙ take-take m i ns p)
before-splice m i n new ns e h k (inr p) =
    ap (λ (xs : List ℕ). total (take m xs)) (sym (append_assoc (take i ns) new (drop (i + n) ns)))
    ∙ ap total (ap (λ (q : ℕ). take q (a ++ drop (i + n) ns)) u ∙ take-append-add a (drop (i + n) ns) r)
    ∙ total-append a (take r (drop (i + n) ns))
    ∙ ap (λ (q : ℕ). q + total (take r (drop (i + n) ns))) (total-append (take i ns) new ∙ ap (λ (q : ℕ). total (take i ns) + q) k ∙ sym (total-append (take i ns) (take n (drop i ns))) ∙ ap total (sym (take-add i n ns)))
    ∙ sym (total-append (take (i + n) ns) (take r (drop (i + n) ns))) ∙ ap total (sym (take-add (i + n) r ns)) ∙ ap (λ (q : ℕ). total (take q ns)) w
  where
    a : List ℕ
    a = take i ns ++ new

    r : ℕ
    r = m - (i + n)

    w : i + n + r ≡ m
    w = omega arith

    u : m ≡ length a + r
    u = omega (arith, length-append (take i ns) new, length-take-le i ns (omega arith))

-- a sweep, and a window that it leaves whole
pub window-splice : (k s l t : ℕ) (new ns : List ℕ) → length new ≡ 2 ^ k → start k s + 2 ^ k ≤ length ns → total new ≡ total (window k s ns)
    → Outside k s (start l t) × Outside k s (start l t + 2 ^ l) → total (window l t (splice (start k s) (2 ^ k) new ns)) ≡ total (window l t ns)
window-splice k s l t new ns e h q o =
    same_ends l t ns (splice (start k s) (2 ^ k) new ns) (before-splice (start l t) (start k s) (2 ^ k) new ns e h q o.0)
    (before-splice (start l t + 2 ^ l) (start k s) (2 ^ k) new ns e h q o.1)

-- a sweep, and a window inside it
pub window-inside {ℓ} : {A : Type ℓ} (k s l t : ℕ) (new xs : List A) → length new ≡ 2 ^ k → start k s ≤ length xs → l ≤ k → start k s ≡ start k t
    → window l t (splice (start k s) (2 ^ k) new xs) ≡ window l (t - start k s) new
window-inside k s l t new xs e h p q =
    ap (λ (n : ℕ). take (2 ^ l) (drop n (splice (start k s) (2 ^ k) new xs))) u
    ∙ ap (take (2 ^ l)) (drop-append-add (take (start k s) xs) (new ++ drop (start k s + 2 ^ k) xs) (start l (t - start k s)))
    ∙ ap (take (2 ^ l)) (drop-append-le (start l (t - start k s)) new (drop (start k s + 2 ^ k) xs) (omega (arith, f)))
    ∙ take-append-le (2 ^ l) (drop (start l (t - start k s)) new) (drop (start k s + 2 ^ k) xs) (omega (arith, f, length-drop (start l (t - start k s)) new))
  where
    f : start l (t - start k s) + 2 ^ l ≤ 2 ^ k
    f = start_fits l k (t - start k s) p (omega (arith, lt-end k t, start-le k t))

    u : start l t ≡ length (take (start k s) xs) + start l (t - start k s)
    u = start-in l k t p ∙ ap₂ ◌+◌ (sym q ∙ sym (length-take-le (start k s) xs h)) (ap (λ (n : ℕ). start l (t - n)) (sym q))

-- SEGMENTS: the keys in a window, by the counts of the segments
pub count-window : (l s : ℕ) (ss : Segments) → count l s ss ≡ total (window l s (map length ss))
count-window l s ss = length-joined (window l s ss) ∙ ap total (map-window length l s ss)

-- a segment changed
module _ (ss : Segments) (s : ℕ) (new : List ℕ) (h : s < length ss) where
  ns-at : get_or (map length ss) s 0 ≡ length (get_or ss s [])
  ns-at = get_or-map length ss s []

  in-counts : (l t : ℕ) → count l t (set ss s new) ≡ total (window l t (set (map length ss) s (length new)))
  in-counts l t = count-window l t (set ss s new) ∙ ap (λ (ns : List ℕ). total (window l t ns)) (map-set length ss s new)

  pub count-set-in : (l t : ℕ) → start l s ≡ start l t → count l t (set ss s new) + length (get_or ss s []) ≡ count l t ss + length new
  count-set-in l t e =
      omega (arith, in-counts l t, count-window l t ss, ns-at, window-set-in l t (map length ss) s (length new) (omega (arith, length-map ss length)) e)

  pub count-set-out : (l t : ℕ) → start l s ≢ start l t → count l t (set ss s new) ≡ count l t ss
  count-set-out l t n = in-counts l t ∙ window-set-out l t (map length ss) s (length new) (omega (arith, length-map ss length)) n ∙ sym (count-window l t ss)

  pub count-zero : count 0 s (set ss s new) ≡ length new
  count-zero =
      ap (λ (xs : Segments). length (keys xs)) (window-zero s (set ss s new) [] (omega (arith, length-set ss s new)) ∙ ap {B = Segments} (λ (x : List ℕ). x ∷ []) (get_or-set_same ss s new [] h))
      ∙ ap length (append-nil new)

-- windows that begin at one place have one count
pub count-start : (l s t : ℕ) (ss : Segments) → start l s ≡ start l t → count l s ss ≡ count l t ss
count-start l s t ss e = ap (λ (n : ℕ). length (keys (take (2 ^ l) (drop n ss)))) e
