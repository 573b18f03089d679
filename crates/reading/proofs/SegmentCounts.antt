-- The keys of each segment, counted while slots are read: a segment has as many as the keys passed grow by.
use mathlib.Core.Path.{◌≡◌, sym, ap, ◌∙◌, subst}
use mathlib.Core.List.{List, [], ◌++◌, map}
use Prim.Native.Nat.{ℕ, zero, suc, ◌+◌, ◌*◌, ◌/◌, ◌≤◌, ◌<◌}
use native.Mathlib.Nat.{not-suc-le-zero, le_of_suc-le-suc}
use native.Mathlib.Omega.{arith}
use lib.Dec.{T}
use lib.ListN.{length, take, drop, get_or, set, length-append, length-map, get_or-map}
use lib.Seq.{take-add, take_all, drop-drop}
use Rattle.lists.specs.Lists.{parts}
use Rattle.lists.proofs.Filtered.{only-append}
use Rattle.lists.proofs.Parts.{length-parts}
use Rattle.slots.specs.declared.Disorder.{Disorder}
use Rattle.slots.specs.Segments.{is_key, live, segments_of}
use Rattle.slots.specs.Orders.{is_kept}
use Rattle.std.specs.Prelude.{Result, Err, ⊤}
use Rattle.slots.specs.Shown.{Reads, Counted, Tallied}
use Rattle.reading.specs.Stretches.{Sound}
use Rattle.slots.proofs.Tallies.{counted-more}

part_at : (n : ℕ) (xs : List ℕ) (s : ℕ) → s < n → get_or (parts 64 n xs) s [] ≡ take 64 (drop (64 * s) xs)
part_at zero xs s h = absurd (not-suc-le-zero h)
part_at (suc n) xs zero h = ap (λ (m : ℕ). take 64 (drop m xs)) (let e : 0 ≡ 64 * 0 = omega arith in e)
part_at (suc n) xs (suc s) h =
    let e : 64 + 64 * s ≡ 64 * suc s = omega arith in
    part_at n (drop 64 xs) s (le_of_suc-le-suc h) ∙ ap (take 64) (drop-drop (64 * s) 64 xs ∙ ap (λ (m : ℕ). drop m xs) e)

module _ (xs : List ℕ) where
  segment-at : (s : ℕ) → 64 * s + 64 ≤ length xs → get_or (segments_of xs) s [] ≡ live (take 64 (drop (64 * s) xs))
  unfolding segments_of
  segment-at s h = get_or-map live (parts 64 (length xs / 64) xs) s [] ∙ ap live (part_at (length xs / 64) xs s (omega arith))

  segments-many : length (segments_of xs) ≡ length xs / 64
  unfolding segments_of
  segments-many = length-map (parts 64 (length xs / 64) xs) live ∙ length-parts 64 (length xs / 64) xs

  -- ONE SEGMENT MORE, s, of c keys
  module _ (s c : ℕ) {a e last top keys : ℕ} (p : Sound xs a last keys) (q : Sound xs e top (keys + c)) (u : a ≡ 64 * s) (v : e ≡ a + 64) (h : e ≤ length xs) where
    keys-at : c ≡ length (get_or (segments_of xs) s [])
    keys-at =
        let part : List ℕ = take 64 (drop a xs) in
        let b : length (live (take e xs)) ≡ length (live (take a xs)) + length (live part) =
        ap (λ (n : ℕ). length (live (take n xs))) v ∙ ap (λ (l : List ℕ). length (live l)) (take-add a 64 xs)
        ∙ ap length (only-append is_key (take a xs) part) ∙ length-append (live (take a xs)) (live part) in
        let w : c ≡ length (live part) = omega (arith, b, p.many, q.many) in
        w ∙ ap (λ (n : ℕ). length (live (take 64 (drop n xs)))) u ∙ ap length (sym (segment-at s (omega arith)))

    pub tally-more : {counts counts' : List ℕ} → s < length counts → Counted (segments_of xs) 0 s counts keys counts' → Counted (segments_of xs) 0 (s + 1) counts (keys + c) (set counts' s c)
    tally-more {counts} {counts'} k w =
        let z : 0 + s ≡ s = omega arith in
        subst (λ (n : ℕ). Counted (segments_of xs) 0 (s + 1) counts (keys + c) (set counts' n c)) z
        (counted-more (segments_of xs) 0 s keys c counts counts' w (omega (arith, segments-many)) (omega arith) (keys-at ∙ ap (λ (n : ℕ). length (get_or (segments_of xs) n [])) (sym z)))

  -- ALL
  pub tally-all : {counts counts' : List ℕ} {s keys : ℕ} → s ≡ length xs / 64 → length counts' ≡ length counts → Counted (segments_of xs) 0 s counts keys counts' → Tallied xs counts counts'
  tally-all {counts} {counts'} {s} {keys} e l w =
      let z : 0 + s ≡ length xs / 64 = omega arith in
      record {
        long = l;
        places = λ t. w.places ∙ ap (λ (n : ℕ). map length (take s (segments_of xs)) ++ drop n counts) z
            ∙ ap (λ (ss : List (List ℕ)). map length ss ++ drop (length xs / 64) counts) (take_all s (segments_of xs) (omega (arith, segments-many)));
      }

  -- or the order is not kept
  pub tally-none : {counts counts' : List ℕ} {d : Disorder} → Reads xs (Err d) → length counts' ≡ length counts → Tallied xs counts counts'
  tally-none r l = record { long = l; places = λ t. absurd (subst (λ (o : Result ⊤ Disorder). T (is_kept o)) r t) }
