-- A window packed, and its keys with one put in or taken out, as its plan has room for.
use mathlib.Core.Path.{◌≡◌, sym, ap, ◌∙◌}
use mathlib.Core.Bool.{Bool, true, false}
use mathlib.Core.List.{List, [], ◌∷◌, ◌++◌}
use Prim.Native.Nat.{ℕ, ◌+◌, ◌-◌, ◌*◌, ◌≤◌, ◌<◌}
use native.Mathlib.Decide.{dec_lt}
use native.Mathlib.Omega.{arith}
use lib.Dec.{ltb}
use lib.ListN.{length, take, drop, get_or, length-map, get_or-eq_default, get_or-map}
use lib.Seq.{take_at}
use Rattle.lists.specs.Lists.{total, deal, insert_at, without}
use Rattle.lists.proofs.Members.{at_mem}
use Rattle.lists.proofs.Filtered.{only-length}
use Rattle.lists.proofs.Fill.{length_without}
use Rattle.moves.specs.Moves.{Packed}
use Rattle.gaps.specs.Gaps.{closed}
use Rattle.spreads.proofs.Packing.{total-all}
use Rattle.spreads.proofs.Inserting.{insert-keys}
use Rattle.slots.specs.Segments.{Segments, keys, segments_of, render}
use Rattle.slots.specs.Keys.{changed}
use Rattle.slots.proofs.Keys.{member→mem}
use Rattle.slots.proofs.Render.{length-render}
use Rattle.slots.proofs.ByPlace.{put-at, cut_at, place-old}
use Rattle.sowing.specs.Sown.{Planted}
use Rattle.sowing.proofs.Gathered.{packed-keys}

module _ {w counts plan : List ℕ} {p y : ℕ} {grows : Bool} (d : Planted w counts plan p y grows) where
  abbrev ss : Segments
  ss = segments_of w

  abbrev ks : List ℕ
  ks = keys ss

  as_many : length counts ≡ length ss
  as_many = ap length d.counted ∙ length-map ss length

  -- a window has 64 slots for each count, and no count is above 64
  pub sized : length w ≡ 64 * length counts
  sized = ap length d.shows.whole ∙ length-render 0 ss d.shows.fits ∙ ap (λ (k : ℕ). 64 * k) (sym as_many)

  pub counts-fit : (k : ℕ) → get_or counts k 0 ≤ 64
  counts-fit k =
      let e : get_or counts k 0 ≡ length (get_or ss k []) = ap (λ (ns : List ℕ). get_or ns k 0) d.counted ∙ get_or-map length ss k [] in
      elim (dec_lt k (length ss)) [
        | yes i ↦ omega (arith, d.shows.fits (get_or ss k []) (at_mem ss k [] i))
        | no o ↦
            let q : length ss ≤ k = omega arith in
            let z : length (get_or ss k []) ≡ 0 = ap length (get_or-eq_default ss [] q) in
            omega arith
      ]

  -- so its keys have room, and are few
  pub room : total counts ≤ length w
  room = omega (arith, total-all counts counts-fit, sized)

  pub keys-few : total counts ≤ 4096
  keys-few = omega (arith, room, sized, d.few)

  -- PACKED: r keys in front
  module _ {r : ℕ} {w₁ : List ℕ} (packed : Packed counts w r w₁) where
    many : r ≡ length ks
    many = (packed-keys 0 ss counts w w₁ r d.shows.fits d.counted d.shows.whole packed).0

    front : take r w₁ ≡ ks
    front = (packed-keys 0 ss counts w w₁ r d.shows.fits d.counted d.shows.whole packed).1

    -- a key put in: its place is no further than behind the last
    pub up_to : p < r + 1
    up_to = omega (arith, d.place, many, only-length (λ k. ltb k y) ks)

    pub put_in : {w₂ : List ℕ} → grows ≡ true → w₂ ≡ render 0 (deal plan (take (r + 1) (insert_at p y w₁)))
        → w₂ ≡ render 0 (deal plan (changed grows y ks))
    put_in g e =
        let k : r + 1 - 1 ≡ r = omega arith in
        let q : take (r + 1) (insert_at p y w₁) ≡ changed grows y ks =
        insert-keys y w₁ (r + 1) p up_to ∙ ap (λ (n : ℕ). insert_at p y (take n w₁)) k ∙ ap (insert_at p y) front
        ∙ ap (λ (n : ℕ). insert_at n y ks) d.place ∙ sym (put-at y ks d.shows.listed.rising (d.grown g).1)
        ∙ sym (ap (λ (b : Bool). changed b y ks) g) in
        e ∙ ap (λ (l : List ℕ). render 0 (deal plan l)) q

    -- a key taken out: its place is among them
    pub among : grows ≡ false → p < r
    among g = omega (arith, d.place, many, place-old y ks d.shows.listed.rising (member→mem y ks (d.shrunk g).1))

    pub taken_out : {w₂ w₃ : List ℕ} → grows ≡ false → w₂ ≡ closed 0 r p w₁ → w₃ ≡ render 0 (deal plan (take (r - 1) w₂))
        → w₃ ≡ render 0 (deal plan (changed grows y ks))
    unfolding closed
    taken_out {w₂} g c e =
        let k : p < length ks = omega (arith, among g, many) in
        let q : take (r - 1) w₂ ≡ changed grows y ks =
        ap (take (r - 1)) (c ∙ ap (λ (l : List ℕ). without p l ++ 0 ∷ drop r w₁) front)
        ∙ take_at (without p ks) (0 ∷ drop r w₁) (r - 1) (omega (arith, length_without p ks k, many))
        ∙ ap (λ (n : ℕ). without n ks) d.place ∙ sym (cut_at y ks d.shows.listed.rising (member→mem y ks (d.shrunk g).1))
        ∙ sym (ap (λ (b : Bool). changed b y ks) g) in
        e ∙ ap (λ (l : List ℕ). render 0 (deal plan l)) q
