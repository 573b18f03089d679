-- Slots and segments: slots whose order is kept are the render of their segments, and segments are those of their render.
use mathlib.Core.Path.{◌≡◌, refl, sym, ap, ap₂, ◌∙◌}
use mathlib.Core.List.Memᴰ.{head as here}
use mathlib.Core.List.Memᴰ.{tail as there}
use mathlib.Core.List.{List, [], ◌∷◌, ◌++◌, map}
use mathlib.Core.List.Memᴰ.{append_left as in_left}
use mathlib.Core.List.Memᴰ.{append_right as in_right}
use mathlib.Core.List.Memᴰ.{not-nil as nowhere}
use Prim.Native.Nat.{ℕ, zero, suc, ◌+◌, ◌*◌, ◌/◌, ◌%◌, ◌≤◌, ◌<◌}
use native.Mathlib.Omega.{arith}
use lib.Dec.{T}
use lib.ListN.{length, take, drop, get_or, replicate, length-drop, length-map, take-append-drop, replicate-append-replicate, get_or-eq_default, get_or-append}
use lib.Seq.{length-take-le, get_or-append-add}
use Rattle.lists.specs.Lists.{All, joined, padded, parts}
use Rattle.lists.proofs.Members.{map-all}
use Rattle.lists.proofs.Filtered.{only-append, only-length}
use Rattle.lists.proofs.Fill.{length-padded, get_or-padded}
use Rattle.lists.proofs.Parts.{joined-parts, part_length, parts-joined, length-parts, length-joined-parts}
use Rattle.slots.specs.Segments.{is_key, live, Segments, keys, pad, render, segments_of}
use Rattle.slots.specs.Keys.{Listed}
use Rattle.slots.specs.Orders.{slot_at, order_of, is_kept}
use Rattle.slots.proofs.Orders.{Ordered, Solid, kept←, solid-drop}
use Rattle.slots.proofs.Live.{live-key, ordered-rising, rising-ordered}
use Rattle.slots.proofs.Padded.{pad-live, live-pad, solid-take, past-keys}

-- THE SEGMENTS OF SLOTS
-- the keys of the parts are the keys of the whole
live-joined : (css : List (List ℕ)) → keys (map live css) ≡ live (joined css)
live-joined [] = refl
live-joined (c ∷ css) = ap {B = List ℕ} (λ r. live c ++ r) (live-joined css) ∙ sym (only-append is_key c (joined css))

render-parts : (n : ℕ) (xs : List ℕ) → length xs ≡ 64 * n → Solid xs → render 0 (map live (parts 64 n xs)) ≡ xs
unfolding render
render-parts zero [] e s = refl
render-parts zero (x ∷ xs) e s = absurd (omega arith)
render-parts (suc n) xs e s =
    ap₂ {C = List ℕ} ◌++◌ (pad-live (take 64 xs) (length-take-le 64 xs (omega arith)) (solid-take xs s))
    (render-parts n (drop 64 xs) (omega (arith, length-drop 64 xs)) (solid-drop xs s))
    ∙ take-append-drop 64 xs

module _ (xs : List ℕ) (n : ℕ) (e : length xs ≡ 64 * n) where
  segments-are : segments_of xs ≡ map live (parts 64 n xs)
  unfolding segments_of
  segments-are = let d : length xs / 64 ≡ n = omega arith in ap (λ (k : ℕ). map live (parts 64 k xs)) d

  -- their keys are the live keys
  pub keys-segments : keys (segments_of xs) ≡ live xs
  keys-segments = rw segments-are (live-joined (parts 64 n xs) ∙ ap live (joined-parts 64 n xs e))

  -- there are n of them
  pub length-segments : length (segments_of xs) ≡ n
  length-segments = rw segments-are (length-map (parts 64 n xs) live ∙ length-parts 64 n xs)

  -- with at most 64 keys each
  pub sizes-segments : All (λ s. length s ≤ 64) (segments_of xs)
  sizes-segments =
      rw segments-are
      (map-all (λ (s : List ℕ). length s ≤ 64) live (parts 64 n xs) (λ c m. omega (arith, only-length is_key c, part_length 64 n xs e c m)))

  -- slots in order have rising keys
  pub listed-segments : Ordered xs → Listed (segments_of xs)
  listed-segments o = record { rising = rw keys-segments (ordered-rising xs o); live = rw keys-segments (live-key xs) }

  -- slots with no key after a gap are their segments, each filled up with gaps
  pub render-segments : Solid xs → render 0 (segments_of xs) ≡ xs
  render-segments s = rw segments-are (render-parts n xs e s)

-- THE SLOTS OF SEGMENTS
module _ {A : Type 0} (z : A) where
  pads : (ss : List (List A)) → All (λ s. length s ≤ 64) ss → All (λ c. length c ≡ 64) (map (pad z) ss)
  pads ss h = map-all (λ (c : List A). length c ≡ 64) (pad z) ss (λ s m. length-padded 64 z s (h s m))

  -- 64 slots for each segment
  pub length-render : (ss : List (List A)) → All (λ s. length s ≤ 64) ss → length (render z ss) ≡ 64 * length ss
  unfolding render
  length-render ss h = length-joined-parts 64 (map (pad z) ss) (pads ss h) ∙ ap (λ (n : ℕ). 64 * n) (length-map ss (pad z))

  -- slot b of segment a
  pub slot-render : (ss : List (List A)) → All (λ s. length s ≤ 64) ss → (a b : ℕ) → b < 64 → get_or (render z ss) (64 * a + b) z ≡ get_or (get_or ss a []) b z
  unfolding render
  slot-render [] h a b l = refl
  slot-render (s ∷ ss) h zero b l =
      let e : 64 * 0 + b ≡ b = omega arith in
      rw e (get_or-append (pad z s) (render z ss) z b (omega (arith, length-padded 64 z s (h s (here refl)))) ∙ get_or-padded 64 z s b)
  slot-render (s ∷ ss) h (suc a) b l =
      let e : 64 * suc a + b ≡ length (pad z s) + (64 * a + b) = omega (arith, length-padded 64 z s (h s (here refl))) in
      rw e (get_or-append-add (pad z s) (render z ss) (64 * a + b) z ∙ slot-render ss (λ t m. h t (there m)) a b l)

  -- empty segments are all gaps
  pub render-empty : (n : ℕ) → render z (replicate n []) ≡ replicate (64 * n) z
  unfolding render padded
  render-empty zero = refl
  render-empty (suc n) =
      let e : 64 + 64 * n ≡ 64 * suc n = omega arith in
      ap {B = List A} (λ r. replicate 64 z ++ r) (render-empty n) ∙ replicate-append-replicate 64 (64 * n) z ∙ ap (λ (k : ℕ). replicate k z) e

lives : (ss : Segments) → All (λ k. 0 < k) (keys ss) → map live (map (pad 0) ss) ≡ ss
lives [] h = refl
lives (s ∷ ss) h = ap₂ {C = Segments} ◌∷◌ (live-pad s (λ k m. h k (in_left (keys ss) m))) (lives ss (λ k m. h k (in_right s m)))

keys-at : (ss : Segments) (a : ℕ) → All (λ k. 0 < k) (keys ss) → All (λ k. 0 < k) (get_or ss a [])
keys-at [] a h k m = absurd (nowhere m)
keys-at (s ∷ ss) zero h k m = h k (in_left (keys ss) m)
keys-at (s ∷ ss) (suc a) h k m = keys-at ss a (λ j n. h j (in_right s n)) k m

-- the live slots are the keys
pub live-render : (ss : Segments) → All (λ k. 0 < k) (keys ss) → live (render 0 ss) ≡ keys ss
unfolding render
live-render ss h = sym (live-joined (map (pad 0) ss)) ∙ ap keys (lives ss h)

-- in order, where the keys rise
pub ordered-render : (ss : Segments) → Listed ss → Ordered (render 0 ss)
ordered-render ss L = rising-ordered (render 0 ss) (rw (live-render ss L.live) L.rising)

module _ (ss : Segments) (sizes : All (λ s. length s ≤ 64) ss) where
  -- the slots show the segments again
  pub segments-render : All (λ k. 0 < k) (keys ss) → segments_of (render 0 ss) ≡ ss
  unfolding render
  segments-render h =
      segments-are (render 0 ss) (length ss) (length-render 0 ss sizes)
      ∙ ap (λ (n : ℕ). map live (parts 64 n (render 0 ss))) (sym (length-map ss (pad 0)))
      ∙ ap (map live) (parts-joined 64 (map (pad 0) ss) (pads 0 ss sizes)) ∙ lives ss h

  at_slot : (i : ℕ) → slot_at (render 0 ss) i ≡ slot_at (get_or ss (i / 64) []) (i % 64)
  at_slot i =
      let e : 64 * (i / 64) + i % 64 ≡ i = omega arith in
      ap (slot_at (render 0 ss)) (sym e) ∙ slot-render 0 ss sizes (i / 64) (i % 64) (omega arith)

  solid-render : All (λ k. 0 < k) (keys ss) → Solid (render 0 ss)
  solid-render h i j l e z =
      let p : length (get_or ss (i / 64) []) ≤ i % 64 = past-keys (get_or ss (i / 64) []) (i % 64) (keys-at ss (i / 64) h) (sym (at_slot i) ∙ z) in
      let q : length (get_or ss (i / 64) []) ≤ j % 64 = omega arith in
      at_slot j ∙ get_or-eq_default (get_or ss (j / 64) []) 0 (rw e at q)

  -- and their order is kept
  pub kept-render : Listed ss → T (is_kept (order_of (render 0 ss)))
  kept-render L = kept← (render 0 ss) (ordered-render ss L) (solid-render L.live)
