-- The keys of one segment as a stretch of slots, and the keys of the segments from one on.
use mathlib.Core.Path.{◌≡◌, refl, sym, ap, ap₂, ◌∙◌}
use mathlib.Core.List.{List, [], ◌∷◌, ◌++◌}
use Prim.Native.Nat.{ℕ, zero, suc, ◌+◌, ◌-◌, ◌*◌, ◌/◌, ◌≤◌, ◌<◌}
use native.Mathlib.Omega.{arith}
use lib.ListN.{length, take, drop, get_or, length-drop, drop_of_length-le, get_or-eq_default}
use lib.Seq.{drop_at, drop-nil, drop-drop, take-take, take-add, length-take-le}
use Rattle.lists.proofs.Fill.{take-padded-all}
use Rattle.slots.specs.Segments.{Segments, keys}
use Rattle.slots.specs.Shown.{Shows}
use Rattle.slots.proofs.Render.{length-render}
use Rattle.slots.proofs.Tallies.{shown-within, shown-part, shown-few}
use Rattle.scans.specs.Scans.{keys_from}

-- the counts are those of the segments
abbrev pub Counted : List ℕ → Segments → Type 0
Counted counts ss = (k : ℕ) → k < length ss → get_or counts k 0 ≡ length (get_or ss k [])

module _ (ss : Segments) (slots : List ℕ) (sh : Shows ss slots) where
  -- THE KEYS OF SEGMENT s, from key at on
  module _ (s : ℕ) (h : 64 * s + 64 ≤ length slots) (held : ℕ) (e : held ≡ length (get_or ss s [])) where
    whole : take held (drop (64 * s) slots) ≡ get_or ss s []
    whole =
        let k : held ≤ 64 * s + 64 - 64 * s = omega (arith, shown-few ss slots sh s h) in
        sym (take-take held (64 * s + 64 - 64 * s) (drop (64 * s) slots) k) ∙ ap₂ take e (shown-part ss slots sh s h) ∙ take-padded-all 64 0 (get_or ss s [])

    pub stretch : (at : ℕ) → at ≤ held → take (held - at) (drop (64 * s + at) slots) ≡ drop at (get_or ss s [])
    stretch at k =
        let xs : List ℕ = drop (64 * s) slots in
        let m : at + (held - at) ≡ held = omega arith in
        let long : length (take at xs) ≡ at = length-take-le at xs (omega (arith, length-drop (64 * s) slots, shown-few ss slots sh s h)) in
        ap (take (held - at)) (sym (drop-drop at (64 * s) slots)) ∙ sym (drop_at (take at xs) (take (held - at) (drop at xs)) at long)
        ∙ ap (drop at) (sym (take-add at (held - at) xs) ∙ ap (λ (i : ℕ). take i xs) m ∙ whole)

  -- with those of the later segments, by counts that are those of the segments
  pub stretch-counted : (counts : List ℕ) → Counted counts ss → (s at : ℕ) → 64 * s + 64 ≤ length slots → at ≤ get_or counts s 0
      → keys_from s at ss ≡ take (get_or counts s 0 - at) (drop (64 * s + at) slots) ++ keys (drop (s + 1) ss)
  stretch-counted counts e s at h k =
      ap (λ (l : List ℕ). l ++ keys (drop (s + 1) ss)) (sym (stretch s h (get_or counts s 0) (e s (shown-within ss slots sh s h)) at k))

  -- PAST THE LAST SEGMENT there are none
  pub none_from : (s from : ℕ) → length slots / 64 ≤ s → keys_from s from ss ≡ []
  none_from s from h =
      let k : length ss ≤ s = omega (arith, ap length sh.whole, length-render 0 ss sh.fits) in
      let k' : length ss ≤ s + 1 = omega arith in
      rw (get_or-eq_default ss [] k, drop_of_length-le ss k', drop-nil from) refl

-- the keys of the segments from s on are those of s, and those after
pub keys-next : (ss : Segments) (s : ℕ) → keys (drop s ss) ≡ keys_from s 0 ss
keys-next [] zero = refl
keys-next [] (suc s) = let e : suc s + 1 ≡ suc (s + 1) = omega arith in rw e refl
keys-next (x ∷ xs) zero = refl
keys-next (x ∷ xs) (suc s) = let e : suc s + 1 ≡ suc (s + 1) = omega arith in rw e (keys-next xs s)
