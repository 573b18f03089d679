-- Cards beside slots, where c is the card of each key: their number, which keys' cards they are, and that each is found at its key.
use mathlib.Core.Path.{◌≡◌, refl, sym, ap, ap₂, ◌∙◌}
use mathlib.Core.Bool.{Bool, true, false, not, ◌&&◌, ◌||◌}
use mathlib.Core.Logic.{◌≢◌}
use mathlib.Core.List.Memᴰ.{head as here}
use mathlib.Core.List.Memᴰ.{tail as there}
use mathlib.Core.List.{List, [], ◌∷◌, map, Memᴰ as Mem}
use Prim.Native.Nat.{ℕ, zero, suc, ◌<◌}
use native.Mathlib.Omega.{arith}
use lib.Dec.{T, eqb, eqb→eq, eqb_refl}
use borrow.Author.Tests.{eq-eqb, ne_eqb}
use lib.ListN.{length, get_or, replicate, length-map}
use Rattle.std.proofs.Common.{if◌then◌else◌}
use Rattle.lists.specs.Lists.{All}
use Rattle.lists.specs.Search.{place_by}
use Rattle.lists.proofs.Tests.{neqb→ne, ne→neqb}
use Rattle.std.proofs.lemmas.List.{get_or-map}
use Rattle.lists.proofs.Filtered.{mem-only, only-mem}
use Rattle.lists.proofs.Search.{place-mem, place-passes}
use Rattle.slots.specs.Segments.{Segments, is_key, keys, live, render}
use Rattle.slots.proofs.Render.{live-render}
use Rattle.rules.specs.declared.Request.TheVariants.{Insert}
use Rattle.rules.specs.Cards.{card_at, card_in, cards_beside, gap_card, carded}

-- ONE SLOT: beside a gap stands 0, beside a key its card
pub in-gap : (c : ℕ → ℕ) → card_in c 0 ≡ 0
in-gap c = refl

pub in-key : (c : ℕ → ℕ) (k : ℕ) → k ≢ 0 → card_in c k ≡ c k
in-key c k n = rw (ne_eqb k 0 n)

in-agree : (c d : ℕ → ℕ) (x : ℕ) → (x ≢ 0 → c x ≡ d x) → card_in c x ≡ card_in d x
in-agree c d x h = go (eqb x 0) (neqb→ne x 0)
  where
    go : (b : Bool) → (T (not b) → x ≢ 0) → ◌≡◌ {A = ℕ} (if b then 0 else c x) (if b then 0 else d x)
    go true p = refl
    go false p = h (p tt)

-- ALL SLOTS
module _ (c : ℕ → ℕ) where
  pub beside-map : (slots : List ℕ) → cards_beside c slots ≡ map (card_in c) slots
  unfolding cards_beside
  beside-map slots = refl

  pub beside-length : (slots : List ℕ) → length (cards_beside c slots) ≡ length slots
  beside-length slots = ap length (beside-map slots) ∙ length-map slots (card_in c)

  -- no card in a gap
  pub beside-no-gap : (slots : List ℕ) → gap_card slots (cards_beside c slots) ≡ false
  unfolding cards_beside
  beside-no-gap [] = refl
  beside-no-gap (x ∷ slots) = go (eqb x 0) (beside-no-gap slots)
    where
      go : (b : Bool) → gap_card slots (map (card_in c) slots) ≡ false
          → (b && not (eqb (if b then 0 else c x) 0)) || gap_card slots (map (card_in c) slots) ≡ false
      go true e = e
      go false e = e

  -- beside gaps alone, all are 0
  pub beside-zeros : (n : ℕ) → cards_beside c (replicate n 0) ≡ replicate n 0
  unfolding cards_beside
  beside-zeros zero = refl
  beside-zeros (suc n) = ap {B = List ℕ} (λ r. 0 ∷ r) (beside-zeros n)

  -- each key's card stands in its slot
  pub at-beside : (slots : List ℕ) (k : ℕ) → Mem k slots → k ≢ 0 → card_at slots (cards_beside c slots) k ≡ c k
  unfolding card_at cards_beside
  at-beside slots k m n =
      let i : ℕ = place_by (eqb k) slots in
      let h : i < length slots = place-mem (eqb k) slots k m (eqb_refl k) in
      get_or-map (card_in c) slots i 0 0 h ∙ ap (card_in c) (sym (eqb→eq k (get_or slots i 0) (place-passes (eqb k) slots 0 h))) ∙ in-key c k n

  -- beside keys alone, their cards
  pub beside-alone : (ks : List ℕ) → All (λ k. 0 < k) ks → map (card_in c) ks ≡ map c ks
  beside-alone [] h = refl
  beside-alone (k ∷ ks) h = ap₂ {C = List ℕ} ◌∷◌ (in-key c k (λ e. omega (arith, h k (here refl)))) (beside-alone ks (λ j m. h j (there m)))

-- CARDS THAT AGREE on the keys of the slots stand the same beside them
module _ (c d : ℕ → ℕ) where
  pub beside-agree : (slots : List ℕ) → All (λ k. k ≢ 0 → c k ≡ d k) slots → cards_beside c slots ≡ cards_beside d slots
  unfolding cards_beside
  beside-agree [] h = refl
  beside-agree (x ∷ slots) h = ap₂ {C = List ℕ} ◌∷◌ (in-agree c d x (h x (here refl))) (beside-agree slots (λ k m. h k (there m)))

  pub beside-live : (slots : List ℕ) → All (λ k. c k ≡ d k) (live slots) → cards_beside c slots ≡ cards_beside d slots
  beside-live slots h = beside-agree slots (λ k m n. h k (mem-only is_key slots k m (ne→neqb k 0 n)))

  pub beside-keys : (ss : Segments) → All (λ k. 0 < k) (keys ss) → All (λ k. c k ≡ d k) (keys ss) → cards_beside c (render 0 ss) ≡ cards_beside d (render 0 ss)
  beside-keys ss g h = beside-live (render 0 ss) (rw (live-render ss g) h)

-- what is beside slots is beside them by the cards that are found there
pub at-live : (c : ℕ → ℕ) (slots : List ℕ) → All (λ k. card_at slots (cards_beside c slots) k ≡ c k) (live slots)
at-live c slots k m = let p = only-mem is_key slots k m in at-beside c slots k p.1 (neqb→ne k 0 p.0)

pub at-keys : (c : ℕ → ℕ) (ss : Segments) → All (λ k. 0 < k) (keys ss) → All (λ k. card_at (render 0 ss) (cards_beside c (render 0 ss)) k ≡ c k) (keys ss)
at-keys c ss g k m = at-live c (render 0 ss) k (rw (live-render ss g) m)

-- A KEY THAT IS NOT THERE, y, with card v
module _ (y v : ℕ) (c : ℕ → ℕ) where
  pub carded-self : carded (Insert y) v c y ≡ v
  carded-self = rw (eq-eqb y y refl)

  pub carded-other : (k : ℕ) → k ≢ y → carded (Insert y) v c k ≡ c k
  carded-other k n = rw (ne_eqb k y n)

  -- beside it stands v
  pub in-carded : y ≢ 0 → card_in (carded (Insert y) v c) y ≡ v
  in-carded n = in-key (carded (Insert y) v c) y n ∙ carded-self
