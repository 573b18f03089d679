-- Demand 3, second part: a half that sets off a sweep again has taken over the gap.
use mathlib.Core.Path.{◌≡◌, refl, sym, ap, ◌∙◌}
use mathlib.Core.Bool.{Bool, true, false, not}
use mathlib.Core.Logic.{◌⊎◌, inl, inr}
use mathlib.Core.Option.{Option, none, some}
use mathlib.Core.List.{List, [], ◌∷◌, ◌++◌}
use Prim.Native.Nat.{ℕ, suc, ◌+◌, ◌-◌, ◌*◌, ◌^◌, ◌<◌}
use native.Mathlib.Nat.{mul-sub, mul-le-mul_left, le_of_lt}
use native.Mathlib.Omega.{arith}
use lib.Dec.{T, leb, eqb, leb→le, eqb→eq}
use lib.ListN.{length, get_or, drop}
use Rattle.std.proofs.Common.{if◌then◌else◌}
use Rattle.lists.proofs.Tests.{and_left, and_both, neither, neqb→ne, eq→eqb}
use Rattle.slots.specs.Segments.{Segments}
use Rattle.slots.specs.Windows.{start, count}
use Rattle.slots.proofs.Counts.{count-start}
use Rattle.rules.specs.Shares.{Shares, Lawful}
use Rattle.rules.specs.Placing.{Room, Outcome, outcome}
use Rattle.rules.specs.Readings.{Limits, Proper}
use Rattle.demands.specs.History.{Event, falls_in, sweeps_at, sweeps, inserts, deletes, some_sweeps, event_at, accepted, Turn, given, events}
use Rattle.demands.specs.Demand3.{Again, Taken, counting}
use Rattle.demands.proofs.Sweeping.Settled.{Asked, kept, left, cause}
use Rattle.demands.proofs.Requests.Accepted.{refused-is}
use Rattle.demands.proofs.Requests.Moved.{Moved, moved}

-- a request that sweeps a window round t sweeps the one of that level round its own segment
self : (l t s : ℕ) (r : Option ℕ) → T (sweeps_at l t s r) → T (sweeps_at l s s r)
self l t s none u = u
self l t s (some k) u = and_both (leb l k) (eqb (start k s) (start k s)) (and_left (leb l k) (eqb (start k s) (start k t)) u) (eq→eqb (start k s) (start k s) refl)

module _ (S : Shares) (L : Lawful S) (l t : ℕ) where
  -- one request that does not sweep the window: the half's count goes by what falls in it
  one_more : (R : Room) (o : Outcome) (e : Event) → Moved S R e o → T (not (sweeps (suc l) t e))
      → count l t o.room.segments + deletes l t (e ∷ []) ≡ count l t R.segments + inserts l t (e ∷ [])
  one_more R o e m u =
      ap (λ (n : ℕ). n + deletes l t (e ∷ [])) (ap (λ (o : Outcome). count l t o.room.segments) m.result ∙ kept S L e.at m.cs m.ms m.n m.b m.number m.fits e.level m.asked l t u)
      ∙ m.change l t

  below_top : (s : ℕ) (ms : Segments) (r : Option ℕ) → Asked S s ms r → T (sweeps_at (suc l) t s r) → l < S.height
  below_top s ms none a u = absurd u
  below_top s ms (some k) a u = omega (arith, leb→le (suc l) k (and_left (leb (suc l) k) (eqb (start k s) (start k t)) u), a.1)

  -- the half has taken more inserts, or more deletes, by over the gap
  abbrev Over : ℕ → ℕ → Type 0
  Over downs ups = (downs + 2 ^ l * (S.high l - S.high (suc l)) < ups) ⊎ (ups + 2 ^ l * (S.low (suc l) - S.low l) < downs)

  -- c is the half's count after the last sweep; ups and downs are what fell in it since
  taken : (c ups downs : ℕ) (Rₙ : Room) (o : Outcome) (e : Event) → Limits S l (suc l) c → count l t Rₙ.segments + downs ≡ c + ups
      → Moved S Rₙ e o → T (falls_in l t e) → T (sweeps (suc l) t e) → Over (downs + deletes l t (e ∷ [])) (ups + inserts l t (e ∷ []))
  taken c ups downs Rₙ o e k h m w u =
      elim (cause S L e.at m.cs m.ms m.n m.b m.number m.fits e.level m.asked l (self (suc l) t e.at e.level u)) [
        | inl p ↦ inl (omega (arith, p, k, m.change l t, v, mul-sub (2 ^ l) (S.high l) (S.high (suc l)), mul-le-mul_left (2 ^ l) (le_of_lt (L.falls l d))))
        | inr p ↦ inr (omega (arith, p, k, m.change l t, v, mul-sub (2 ^ l) (S.low (suc l)) (S.low l), mul-le-mul_left (2 ^ l) (le_of_lt (L.rises l d))))
      ]
    where
      v : count l t m.ms ≡ count l e.at m.ms
      v = count-start l t e.at m.ms (sym (eqb→eq (start l e.at) (start l t) w))

      d : l < S.height
      d = below_top e.at m.ms e.level m.asked u

no-event : (es : List Event) (e : Event) → [] ≡ es ++ (e ∷ []) → ⊥
no-event [] e p = absurd (omega (arith, ap length p))
no-event (x ∷ es) e p = absurd (omega (arith, ap length p))

cons_same : (x : Event) (xs : List Event) (e : Event) (es : List Event) → x ∷ xs ≡ e ∷ es → (x ≡ e) × (xs ≡ es)
cons_same x xs e es p = (ap (λ (ys : List Event). get_or ys 0 x) p, ap (λ (ys : List Event). drop 1 ys) p)

-- one turn: what it leaves, refused or not
module _ (S : Shares) (a : Turn) (ss : Segments) where
  abbrev result : Outcome
  result = outcome S a.request (given a ss)

  abbrev event : Event
  event = event_at S a.request (given a ss)

  abbrev next : Segments
  next = result.room.segments

  stays : accepted S a.request (given a ss) ≡ false → next ≡ ss
  stays e = ap (λ (o : Outcome). o.room.segments) (refused-is S a.request (given a ss) (neqb→ne result.answer.number 0 (rw e tt)))

  moves : Proper S ss → accepted S a.request (given a ss) ≡ true → Moved S (given a ss) event result × Proper S next
  moves K e = moved S a.request (given a ss) K (rw e tt)

module _ (S : Shares) (L : Lawful S) (l t : ℕ) where
  -- a list whose half a sweep left at c keys, and that has taken ups and downs since
  record Since (ss : Segments) (c ups downs : ℕ) : Type 0 where
    proper : Proper S ss
    limits : Limits S l (suc l) c
    change : count l t ss + downs ≡ c + ups

  -- a request that does not sweep the window
  more : (a : Turn) (ss : Segments) (c ups downs : ℕ) (x : Event) → Since ss c ups downs → accepted S a.request (given a ss) ≡ true → event S a ss ≡ x
      → T (not (sweeps (suc l) t x)) → Since (next S a ss) c (ups + inserts l t (x ∷ [])) (downs + deletes l t (x ∷ []))
  more a ss c ups downs x I b e u = record {
    proper = m.1;
    limits = I.limits;
    change = omega (arith, I.change, one_more S L l t (given a ss) (result S a ss) x (rw (sym e) m.0) u);
  }
    where
      m : Moved S (given a ss) (event S a ss) (result S a ss) × Proper S (next S a ss)
      m = moves S a ss I.proper b

  module _ (e : Event) (f : T (falls_in l t e)) (w : T (sweeps (suc l) t e)) where
    -- turns from ss, the last of them the present request, e
    abbrev Ends : List Turn → Segments → Type 0
    Ends turns ss = (c ups downs : ℕ) → Since ss c ups downs → (es : List Event) → events S turns ss ≡ es ++ (e ∷ []) → T (not (some_sweeps (suc l) t es))
        → Over S L l t (downs + deletes l t (es ++ (e ∷ []))) (ups + inserts l t (es ++ (e ∷ [])))

    ends : (turns : List Turn) (ss : Segments) → Ends turns ss
    ends [] ss c ups downs I es p u = absurd (no-event es e p)
    ends (a ∷ turns) ss c ups downs I es p u = go (accepted S a.request (given a ss)) refl es p u (ends turns (next S a ss))
      where
        go : (b : Bool) → accepted S a.request (given a ss) ≡ b → (es : List Event)
            → (if b then event S a ss ∷ events S turns (next S a ss) else events S turns (next S a ss)) ≡ es ++ (e ∷ [])
            → T (not (some_sweeps (suc l) t es)) → Ends turns (next S a ss)
            → Over S L l t (downs + deletes l t (es ++ (e ∷ []))) (ups + inserts l t (es ++ (e ∷ [])))
        go false b es p u rest = rest c ups downs (rw (stays S a ss b) I) es p u
        go true b [] p u rest =
            taken S L l t c ups downs (given a ss) (result S a ss) e I.limits I.change
            (rw (sym (cons_same _ _ _ _ p).0) (moves S a ss I.proper b).0) f w
        go true b (x ∷ es) p u rest =
            let q : (event S a ss ≡ x) × (events S turns (next S a ss) ≡ es ++ (e ∷ [])) = cons_same _ _ _ _ p in
            let v : T (not (sweeps (suc l) t x)) × T (not (some_sweeps (suc l) t es)) = neither (sweeps (suc l) t x) (some_sweeps (suc l) t es) u in
            elim (rest c _ _ (more a ss c ups downs x I b q.0 v.0) es q.1 v.1) [ inl r ↦ inl (omega arith) | inr r ↦ inr (omega arith) ]

pub swept-again : Again
swept-again S L ss K [] l s e₀ es e A = absurd (omega (arith, ap length A.history))
swept-again S L ss K (a ∷ turns) l s e₀ es e A = go (accepted S a.request (given a ss)) refl A.history (λ K p. swept-again S L (next S a ss) K turns l s e₀ es e (record { history = p; earlier = A.earlier; since = A.since; half = A.half; again = A.again }))
  where
    go : (b : Bool) → accepted S a.request (given a ss) ≡ b
        → (if b then event S a ss ∷ events S turns (next S a ss) else events S turns (next S a ss)) ≡ e₀ ∷ (es ++ (e ∷ []))
        → (Proper S (next S a ss) → events S turns (next S a ss) ≡ e₀ ∷ (es ++ (e ∷ [])) → Taken S l s (counting e₀ es e)) → Taken S l s (counting e₀ es e)
    go false b p rest = rest (rw (stays S a ss b) K) p
    go true b p rest =
        let q : (event S a ss ≡ e₀) × (events S turns (next S a ss) ≡ es ++ (e ∷ [])) = cons_same _ _ _ _ p in
        let m : Moved S (given a ss) e₀ (result S a ss) × Proper S (next S a ss) = rw (sym q.0) (moves S a ss K b) in
        let c : Limits S l (suc l) (count l s (next S a ss)) =
        rw (ap (λ (o : Outcome). count l s o.room.segments) m.0.result) (left S L e₀.at m.0.cs m.0.ms m.0.n m.0.b m.0.number m.0.fits e₀.level m.0.asked l s A.earlier) in
        let I : Since S L l s (next S a ss) (count l s (next S a ss)) 0 0 = record { proper = m.1; limits = c; change = refl } in
        elim (ends S L l s e A.half A.again turns (next S a ss) (count l s (next S a ss)) 0 0 I es q.1 A.since) [ inl r ↦ inl (omega arith) | inr r ↦ inr (omega arith) ]
