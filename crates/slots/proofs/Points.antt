-- A test that the first n entries of a list pass, and no others: where std's halving ends.
use Rattle.std.proofs.Common.{◌≡◌, ℕ, ◌≤◌, ◌<◌, Bool, true, false, List, length, get_or, Bor, sym, ap, ◌∙◌, arith}
use Rattle.std.specs.Fn.{Called, ComputesKey}
use Rattle.std.specs.List.Sorted.{IsPartitionedBy, IsPartitionPoint}
use Rattle.std.proofs.lemmas.Bool.{false≢true}
use Rattle.std.proofs.lemmas.List.{get_or_default}
use Rattle.std.proofs.lemmas.List.Sorted.{IsPartitionPoint-from_clause}
use denote.Param.Members.{Mut}
use native.Mathlib.Decide.{dec_lt}

module _ (p : ℕ → Bool) (xs : List ℕ) (n : ℕ) (few : n ≤ length xs) (front : (k : ℕ) → k < n → p (get_or xs k 0) ≡ true)
    (back : (k : ℕ) → n ≤ k → k < length xs → p (get_or xs k 0) ≡ false)
  where
    parted : IsPartitionedBy p xs
    parted i j d l h t =
        elim (dec_lt j n) [
          | yes m ↦ ap p (get_or_default xs i d 0 (omega arith)) ∙ front i (omega arith)
          | no m ↦ absurd (false≢true (sym (back j (omega arith) h) ∙ ap p (get_or_default xs j 0 d h) ∙ t))
        ]

    -- `partition_point` by that test answers n
    pub point-is : {F : Type 0} {g : Mut F (Bor ℕ × Unit {0}) Bool} {f : F} (i : ℕ) → i ≤ length xs
        → ((q : ℕ → Bool) → ComputesKey g q f → IsPartitionedBy q xs → IsPartitionPoint (λ y. q y ≡ true) (λ y. q y ≡ false) xs i)
        → ((a : Bor ℕ × Unit {0}) (r : Bool) (f' : F) → Called g f a r f' → (r ≡ p a.0.now) × (f' ≡ f)) → i ≡ n
    point-is i h clause calls = go (IsPartitionPoint-from_clause p xs i clause parted calls)
      where
        go : IsPartitionPoint (λ y. p y ≡ true) (λ y. p y ≡ false) xs i → i ≡ n
        go w =
            elim (dec_lt i n) [
              | yes l ↦ absurd (false≢true (sym (w.1 i 0 (omega arith) (omega arith)) ∙ front i l))
              | no l ↦
                  elim (dec_lt n i) [
                    | yes m ↦ absurd (false≢true (sym (back n (omega arith) (omega arith)) ∙ w.0 n 0 (omega arith) m))
                    | no m ↦ omega arith
                  ]
            ]
