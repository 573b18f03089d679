-- The keys of a window, gathered and packed: they are the keys of its segments.
use mathlib.Core.Path.{◌≡◌, refl, sym, ap, ap₂, ◌∙◌}
use mathlib.Core.List.Memᴰ.{head as here}
use mathlib.Core.List.Memᴰ.{tail as there}
use mathlib.Core.List.{List, [], ◌∷◌, ◌++◌, map}
use Prim.Native.Nat.{ℕ, ◌≤◌}
use native.Mathlib.Omega.{arith}
use lib.ListN.{length, take, drop}
use lib.Seq.{take_at, drop_at, take-append-le}
use Rattle.lists.specs.Lists.{All, joined, total}
use Rattle.lists.proofs.Joined.{length-joined}
use Rattle.lists.proofs.Fill.{length-padded, take-padded-all}
use Rattle.slots.specs.Segments.{pad, render}
use Rattle.moves.specs.Moves.{gather, Packed}

module _ {A : Type 0} (z : A) where
  -- gathered, they are the keys of its segments
  pub gather-window : (ws : List (List A)) → All (λ x. length x ≤ 64) ws → gather (map length ws) (render z ws) ≡ joined ws
  unfolding gather render
  gather-window [] fits = refl
  gather-window (x ∷ xs) fits =
      let lx : length (pad z x) ≡ 64 = length-padded 64 z x (fits x (here refl)) in
      ap₂ {C = List A} ◌++◌
      (take-append-le (length x) (pad z x) (render z xs) (omega (arith, fits x (here refl))) ∙ take-padded-all 64 z x)
      (ap (gather (map length xs)) (drop_at (pad z x) (render z xs) 64 lx) ∙ gather-window xs (λ y m. fits y (there m)))

  -- so they stand in front when the window is packed
  pub packed-keys : (ws : List (List A)) (cs : List ℕ) (l l' : List A) (r : ℕ) → All (λ x. length x ≤ 64) ws → cs ≡ map length ws → l ≡ render z ws → Packed cs l r l'
      → (r ≡ length (joined ws)) × (take r l' ≡ joined ws)
  packed-keys ws cs l l' r fits c w packed =
      let g : gather cs l ≡ joined ws = ap₂ gather c w ∙ gather-window ws fits in
      let k : r ≡ length (joined ws) = packed.many ∙ ap total c ∙ sym (length-joined ws) in
      (k, ap (take r) (packed.slots ∙ ap (λ (t : List A). t ++ drop r l) g) ∙ take_at (joined ws) (drop r l) r (sym k))
