-- A stretch of the segments, n from f on: its keys, and a key put in or taken out in one of its segments.
use mathlib.Core.Path.{◌≡◌, sym, ap, ap₂, ◌∙◌, subst}
use mathlib.Core.Bool.{Bool, true, false}
use mathlib.Core.List.Memᴰ.{append_left as in_left}
use mathlib.Core.List.Memᴰ.{append_right as in_right}
use mathlib.Core.List.{List, [], ◌++◌, Memᴰ as Mem}
use Prim.Native.Nat.{ℕ, suc, ◌+◌, ◌-◌, ◌≤◌, ◌<◌}
use native.Mathlib.Decide.{dec_lt}
use native.Mathlib.Omega.{arith}
use lib.ListN.{length, take, drop, get_or, set, length-append, length-take, length-drop, take-append-drop}
use lib.Seq.{take-set-lt, drop-set-add, drop-append-le, take-take, take-add, drop-drop, get_or-take, get_or-drop}
use Rattle.lists.proofs.Joined.{joined-append}
use Rattle.slots.specs.Segments.{Segments, keys}
use Rattle.slots.specs.Keys.{Rising, Listed, below, put, cut, changed, segment_of}
use Rattle.slots.proofs.Rising.{rising-left, rising-right, below_parts}
use Rattle.slots.proofs.Keys.{Between, keys-parts, in-part, keys-take, keys-drop, keys-put, keys-cut, live-between}

module _ (f n : ℕ) (ss : Segments) where
  -- the keys before it, in it and after it
  before-within : keys (take (f + n) ss) ≡ keys (take f ss) ++ keys (take n (drop f ss))
  before-within = ap keys (take-add f n ss) ∙ joined-append (take f ss) (take n (drop f ss))

  after-within : keys (drop f ss) ≡ keys (take n (drop f ss)) ++ keys (drop n (drop f ss))
  after-within = ap keys (sym (take-append-drop n (drop f ss))) ∙ joined-append (take n (drop f ss)) (drop n (drop f ss))

  -- its keys are the list's, and rise
  pub keys-within : (k : ℕ) → Mem k (keys (take n (drop f ss))) → Mem k (keys ss)
  keys-within k m = keys-drop f ss k (keys-take n (drop f ss) k m)

  pub rising-within : Rising (keys ss) → Rising (keys (take n (drop f ss)))
  rising-within r =
      rising-left (keys (take n (drop f ss))) (keys (drop n (drop f ss)))
      (subst Rising after-within
      (rising-right (keys (take f ss)) (keys (drop f ss)) (subst Rising (ap keys (sym (take-append-drop f ss)) ∙ joined-append (take f ss) (drop f ss)) r)))

  -- A SEGMENT OF IT
  module _ (s : ℕ) (from : f ≤ s) (to : s < f + n) where
    abbrev j : ℕ
    j = s - f

    abbrev part : Segments
    part = take n (drop f ss)

    back : f + (s - f) ≡ s
    back = omega arith

    pub long-within : s < length ss → s - f < length (take n (drop f ss))
    long-within h = omega (arith, length-take n (drop f ss), length-drop f ss)

    pub at-within : get_or (take n (drop f ss)) (s - f) [] ≡ get_or ss s []
    at-within = get_or-take n (drop f ss) j [] (omega arith) ∙ get_or-drop f ss j [] ∙ ap (λ (k : ℕ). get_or ss k []) back

    set-within : (new : List ℕ) → take n (drop f (set ss s new)) ≡ set (take n (drop f ss)) (s - f) new
    set-within new =
        ap (λ (k : ℕ). take n (drop f (set ss k new))) (sym back) ∙ ap (take n) (drop-set-add f ss j new) ∙ take-set-lt n (drop f ss) j new (omega arith)

    -- its keys are the stretch's
    pub key-within : s < length ss → (x : ℕ) → Mem x (get_or ss s []) → Mem x (keys (take n (drop f ss)))
    key-within h x m = in-part part j (long-within h) x (subst (Mem x) (sym at-within) m)

    -- what stands before and after it there stands so in the list
    earlier : (k : ℕ) → Mem k (keys (take (s - f) (take n (drop f ss)))) → Mem k (keys (take s ss))
    earlier k m = subst (Mem k) e (in_right (keys (take f ss)) m)
      where
        e : keys (take f ss) ++ keys (take j (take n (drop f ss))) ≡ keys (take s ss)
        e =
            sym (joined-append (take f ss) (take j (take n (drop f ss))))
            ∙ ap (λ (r : Segments). keys (take f ss ++ r)) (take-take j n (drop f ss) (omega arith))
            ∙ ap keys (sym (take-add f j ss)) ∙ ap (λ (k : ℕ). keys (take k ss)) back

    later : s < length ss → (k : ℕ) → Mem k (keys (drop (suc (s - f)) (take n (drop f ss)))) → Mem k (keys (drop (suc s) ss))
    later h k m = subst (Mem k) (sym e) (in_left (keys (drop n (drop f ss))) m)
      where
        u : f + suc j ≡ suc s
        u = omega arith

        e : keys (drop (suc s) ss) ≡ keys (drop (suc j) (take n (drop f ss))) ++ keys (drop n (drop f ss))
        e =
            ap (λ (k : ℕ). keys (drop k ss)) (sym u) ∙ ap keys (sym (drop-drop (suc j) f ss))
            ∙ ap (λ (r : Segments). keys (drop (suc j) r)) (sym (take-append-drop n (drop f ss)))
            ∙ ap keys (drop-append-le (suc j) (take n (drop f ss)) (drop n (drop f ss)) (omega (arith, long-within h)))
            ∙ joined-append (drop (suc j) (take n (drop f ss))) (drop n (drop f ss))

    -- A KEY y whose place is in that segment
    module _ (y : ℕ) (b : Between y ss s) where
      between-within : Between y (take n (drop f ss)) (s - f)
      between-within = (long-within b.0, λ k m. b.1 k (earlier k m), λ k m. b.2 k (later b.0 k m))

      -- put in or taken out there, it is put in or taken out of the stretch's keys
      pub changed-within : (g : Bool) → keys (take n (drop f (set ss s (changed g y (get_or ss s []))))) ≡ changed g y (keys (take n (drop f ss)))
      changed-within true = ap keys (set-within (put y (get_or ss s [])) ∙ ap (λ (x : List ℕ). set part j (put y x)) (sym at-within)) ∙ keys-put y part j between-within
      changed-within false = ap keys (set-within (cut y (get_or ss s [])) ∙ ap (λ (x : List ℕ). set part j (cut y x)) (sym at-within)) ∙ keys-cut y part j between-within

      -- below it are the keys of the segments before, and those below it in its own
      pub below-within : length (below y (keys (take n (drop f ss)))) ≡ length (keys (take (s - f) (drop f ss))) + length (below y (get_or ss s []))
      below-within =
          ap (λ (ks : List ℕ). length (below y ks)) (keys-parts part j (long-within b.0))
          ∙ ap length (below_parts y (keys (take j part)) (get_or part j []) (keys (drop (suc j) part)) between-within.1 between-within.2)
          ∙ length-append (keys (take j part)) (below y (get_or part j []))
          ∙ ap₂ (λ (r : Segments) (x : List ℕ). length (keys r) + length (below y x)) (take-take j n (drop f ss) (omega arith)) at-within

  -- A KEY OF IT has its segment there
  pub segment-within : Listed ss → (x : ℕ) → Mem x (keys (take n (drop f ss))) → (f ≤ segment_of ss x) × (segment_of ss x < f + n)
  segment-within g x m = (
    elim (dec_lt s f) [ yes h ↦ absurd (omega (arith, b.2 x (past h))) | no h ↦ omega arith ],
    elim (dec_lt s (f + n)) [ yes h ↦ h | no h ↦ absurd (omega (arith, b.1 x (ahead (omega arith)))) ],
  )
    where
      s : ℕ
      s = segment_of ss x

      b : Between x ss (segment_of ss x)
      b = live-between x ss g (keys-within x m)

      past : s < f → Mem x (keys (drop (suc s) ss))
      past h =
          let e : suc s + (f - suc s) ≡ f = omega arith in
          keys-drop (f - suc s) (drop (suc s) ss) x (subst (λ (l : Segments). Mem x (keys l)) (sym (drop-drop (f - suc s) (suc s) ss ∙ ap (λ (k : ℕ). drop k ss) e)) (keys-take n (drop f ss) x m))

      ahead : f + n ≤ s → Mem x (keys (take s ss))
      ahead h =
          keys-take (f + n) (take s ss) x
          (subst (λ (l : Segments). Mem x (keys l)) (sym (take-take (f + n) s ss h)) (subst (Mem x) (sym before-within) (in_right (keys (take f ss)) m)))

-- so a key's segment is the one that it is in
pub segment-own : (ss : Segments) → Listed ss → (s x : ℕ) → s < length ss → Mem x (get_or ss s []) → s ≡ segment_of ss x
segment-own ss g s x h m = omega (arith, segment-within s 1 ss g x (key-within s 1 ss s (omega arith) (omega arith) h x m))
