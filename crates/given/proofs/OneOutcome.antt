-- ONE OUTCOME: any two outcomes that a call's promise admits are equal, the number and every slice that it may write to.
use Prim.Native.Nat.{ℕ}
use mathlib.Core.Path.{◌≡◌, sym, ap, ◌∙◌}
use mathlib.Core.List.{List, [], ◌∷◌}
use lib.ListN.{get_or}
use Rattle.given.specs.Calls.{Given, Gives, make, check, lookup, insert, delete, scan, run}

module _ (o : Given) (r r' : ℕ) where
  number-one : (l l' : List (List ℕ)) → Gives o r l → Gives o r' l' → r ≡ r'
  number-one l l' p q = p.number ∙ sym q.number

  slice-one : (n : ℕ) (l l' : List (List ℕ)) → Gives o r l → Gives o r' l' → get_or l n [] ≡ get_or l' n []
  slice-one n l l' p q = ap (λ (ls : List (List ℕ)). get_or ls n []) (p.slices ∙ sym q.slices)

  -- of three slices, of four and of five
  three : (a b c a' b' c' : List ℕ) → Gives o r (a ∷ b ∷ c ∷ []) → Gives o r' (a' ∷ b' ∷ c' ∷ []) → (r ≡ r') × (a ≡ a') × (b ≡ b') × (c ≡ c')
  three a b c a' b' c' p q = (number-one _ _ p q, slice-one 0 _ _ p q, slice-one 1 _ _ p q, slice-one 2 _ _ p q)

  four : (a b c d a' b' c' d' : List ℕ) → Gives o r (a ∷ b ∷ c ∷ d ∷ []) → Gives o r' (a' ∷ b' ∷ c' ∷ d' ∷ [])
      → (r ≡ r') × (a ≡ a') × (b ≡ b') × (c ≡ c') × (d ≡ d')
  four a b c d a' b' c' d' p q = (number-one _ _ p q, slice-one 0 _ _ p q, slice-one 1 _ _ p q, slice-one 2 _ _ p q, slice-one 3 _ _ p q)

  five : (a b c d e a' b' c' d' e' : List ℕ) → Gives o r (a ∷ b ∷ c ∷ d ∷ e ∷ []) → Gives o r' (a' ∷ b' ∷ c' ∷ d' ∷ e' ∷ [])
      → (r ≡ r') × (a ≡ a') × (b ≡ b') × (c ≡ c') × (d ≡ d') × (e ≡ e')
  five a b c d e a' b' c' d' e' p q = (number-one _ _ p q, slice-one 0 _ _ p q, slice-one 1 _ _ p q, slice-one 2 _ _ p q, slice-one 3 _ _ p q, slice-one 4 _ _ p q)

-- make: the list, the cards, the table and the forecast left
pub make-one : (profile : ℕ) (list cards table forecast : List ℕ) (r r' : ℕ) (a b c d a' b' c' d' : List ℕ)
    → Gives (make profile list cards table forecast) r (a ∷ b ∷ c ∷ d ∷ []) → Gives (make profile list cards table forecast) r' (a' ∷ b' ∷ c' ∷ d' ∷ [])
    → (r ≡ r') × (a ≡ a') × (b ≡ b') × (c ≡ c') × (d ≡ d')
make-one profile list cards table forecast = four (make profile list cards table forecast)

-- check: the number
pub check-one : (profile : ℕ) (list cards table forecast : List ℕ) (r r' : ℕ) → Gives (check profile list cards table forecast) r [] → Gives (check profile list cards table forecast) r' [] → r ≡ r'
check-one profile list cards table forecast r r' p q = number-one (check profile list cards table forecast) r r' [] [] p q

-- lookup: the reply left
pub lookup-one : (profile : ℕ) (list cards table : List ℕ) (key : ℕ) (reply : List ℕ) (r r' : ℕ) (a a' : List ℕ) → Gives (lookup profile list cards table key reply) r (a ∷ [])
    → Gives (lookup profile list cards table key reply) r' (a' ∷ []) → (r ≡ r') × (a ≡ a')
lookup-one profile list cards table key reply r r' a a' p q =
    let o = lookup profile list cards table key reply in
    (number-one o r r' _ _ p q, slice-one o r r' 0 _ _ p q)

-- scan: the two outputs and the reply left
pub scan-one : (profile : ℕ) (list cards table : List ℕ) (from : ℕ) (output output-cards reply : List ℕ) (r r' : ℕ) (a b c a' b' c' : List ℕ)
    → Gives (scan profile list cards table from output output-cards reply) r (a ∷ b ∷ c ∷ []) → Gives (scan profile list cards table from output output-cards reply) r' (a' ∷ b' ∷ c' ∷ [])
    → (r ≡ r') × (a ≡ a') × (b ≡ b') × (c ≡ c')
scan-one profile list cards table from output output-cards reply = three (scan profile list cards table from output output-cards reply)

-- insert and delete: the list, the cards, the table, the forecast and the reply left
pub insert-one : (profile : ℕ) (list cards table forecast : List ℕ) (key card : ℕ) (reply : List ℕ) (r r' : ℕ) (a b c d e a' b' c' d' e' : List ℕ)
    → Gives (insert profile list cards table forecast key card reply) r (a ∷ b ∷ c ∷ d ∷ e ∷ [])
    → Gives (insert profile list cards table forecast key card reply) r' (a' ∷ b' ∷ c' ∷ d' ∷ e' ∷ [])
    → (r ≡ r') × (a ≡ a') × (b ≡ b') × (c ≡ c') × (d ≡ d') × (e ≡ e')
insert-one profile list cards table forecast key card reply = five (insert profile list cards table forecast key card reply)

pub delete-one : (profile : ℕ) (list cards table forecast : List ℕ) (key : ℕ) (reply : List ℕ) (r r' : ℕ) (a b c d e a' b' c' d' e' : List ℕ)
    → Gives (delete profile list cards table forecast key reply) r (a ∷ b ∷ c ∷ d ∷ e ∷ [])
    → Gives (delete profile list cards table forecast key reply) r' (a' ∷ b' ∷ c' ∷ d' ∷ e' ∷ [])
    → (r ≡ r') × (a ≡ a') × (b ≡ b') × (c ≡ c') × (d ≡ d') × (e ≡ e')
delete-one profile list cards table forecast key reply = five (delete profile list cards table forecast key reply)

-- run: the list, the cards, the table, the forecast, the totals and the reply left
pub run-one : (profile : ℕ) (list cards table forecast requests : List ℕ) (allowance : ℕ) (totals reply : List ℕ) (r r' : ℕ) (a b c d e f a' b' c' d' e' f' : List ℕ)
    → Gives (run profile list cards table forecast requests allowance totals reply) r (a ∷ b ∷ c ∷ d ∷ e ∷ f ∷ [])
    → Gives (run profile list cards table forecast requests allowance totals reply) r' (a' ∷ b' ∷ c' ∷ d' ∷ e' ∷ f' ∷ [])
    → (r ≡ r') × (a ≡ a') × (b ≡ b') × (c ≡ c') × (d ≡ d') × (e ≡ e') × (f ≡ f')
run-one profile list cards table forecast requests allowance totals reply r r' a b c d e f a' b' c' d' e' f' p q =
    let o = run profile list cards table forecast requests allowance totals reply in
    (number-one o r r' _ _ p q, slice-one o r r' 0 _ _ p q, slice-one o r r' 1 _ _ p q, slice-one o r r' 2 _ _ p q, slice-one o r r' 3 _ _ p q, slice-one o r r' 4 _ _ p q, slice-one o r r' 5 _ _ p q)
