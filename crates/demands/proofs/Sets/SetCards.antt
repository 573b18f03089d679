-- The set tells the cards of its keys alone.
use mathlib.Core.Path.{◌≡◌, refl, ap, ap₂}
use mathlib.Core.Bool.{Bool, true, false}
use mathlib.Core.List.Memᴰ.{head as here}
use mathlib.Core.List.Memᴰ.{tail as there}
use mathlib.Core.List.{List, [], ◌∷◌, ◌++◌, map}
use Prim.Native.Nat.{ℕ}
use lib.Dec.{T, ltb, eqb}
use lib.ListN.{length, take, drop}
use Rattle.std.proofs.Common.{if◌then◌else◌}
use Rattle.lists.specs.Lists.{All}
use Rattle.lists.proofs.Members.{mem-take}
use Rattle.demands.specs.PlainSet as set
use Rattle.demands.proofs.Sets.PlainSet.{is_set}

-- two functions that agree on a list
pub map-agree : {A B : Type 0} (f g : A → B) (xs : List A) → All (λ x. f x ≡ g x) xs → map f xs ≡ map g xs
map-agree f g [] h = refl
map-agree f g (x ∷ xs) h = ap₂ {C = List _} ◌∷◌ (h x (here refl)) (map-agree f g xs (λ y m. h y (there m)))

module _ (ks : List ℕ) (c d : ℕ → ℕ) (same : All (λ k. c k ≡ d k) ks) where
  pub told-agree : (most few : ℕ) (a : set.Ask) → set.told most few a (record { keys = ks; card = c }) ≡ set.told most few a (record { keys = ks; card = d })
  told-agree most few (set.Insert y v) = refl
  told-agree most few (set.Delete y) = refl
  told-agree most few (set.Lookup y) = go (set.has y ks) (λ t. same y ((is_set.has y ks).0 t))
    where
      go : (b : Bool) → (T b → c y ≡ d y)
          → (if eqb y 0 then set.Found 5 false 0 else if b then set.Found 0 true (c y) else set.Found 0 false 0)
          ≡ (if eqb y 0 then set.Found 5 false 0 else if b then set.Found 0 true (d y) else set.Found 0 false 0)
      go true e = ap (λ (v : ℕ). if eqb y 0 then set.Found 5 false 0 else set.Found 0 true v) (e tt)
      go false e = refl
  told-agree most few (set.Scan a out cards) =
      ap
      (λ (vs : List ℕ). set.Scanned 0 (length page) (ltb (length page) (length (set.beyond a ks))) (page ++ drop (length page) out) (vs ++ drop (length page) cards))
      (map-agree c d page (λ k m. same k ((is_set.beyond a ks k).0 (mem-take (length out) (set.beyond a ks) k (mem-take (length cards) (take (length out) (set.beyond a ks)) k m))).1))
    where
      page : List ℕ
      page = take (length cards) (take (length out) (set.beyond a ks))
