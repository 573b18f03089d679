-- Any chain of calls that the promises admit is what the calls of `rules` tell and leave, so demand 2 holds of it.
use mathlib.Core.Path.{◌≡◌, refl, sym, ap, ap₂, subst, ◌∙◌}
use mathlib.Core.List.{List, ◌∷◌}
use Prim.Native.Nat.{ℕ, ◌*◌, ◌^◌}
use Rattle.rules.specs.Profiles.{number_of, most}
use Rattle.rules.specs.Shares.{shares}
use Rattle.rules.specs.Placing.{Answer}
use Rattle.rules.specs.Looking.{Found}
use Rattle.demands.specs.PlainSet as set
use Rattle.demands.specs.Demand2.{Holds, Held, told, after, all_told, after_all, made, ruled_all, ruled_all_cards, empty_room, moves, all_moves, IsRoom}
use Rattle.demands.proofs.Demand2.Answered.{sequence_answered}
use Rattle.demands.proofs.Demand2.Ruled.{sequence_ruled}
use Rattle.answers.specs.Chains.{held, Call, inserted, deleted, looked_up, scanned, Chain, none, next, Chained}

-- what a call tells, reports and leaves
record Same (profile : ℕ) (H : Held) (a : set.Ask) (t : set.Told) (m : ℕ) (H' : Held) : Type 0 where
  told : t ≡ told profile a H
  moves : m ≡ moves profile a H
  left : H' ≡ after profile a H

same-call : {profile : ℕ} {H H' : Held} {a : set.Ask} {t : set.Told} {m : ℕ} → Call profile H a t m H' → Same profile H a t m H'
same-call (inserted y v r left p) = record {
  told = ap (λ (z : Answer). set.Inserted z.number) p.answer;
  moves = ap (λ (z : Answer). z.moves) p.answer;
  left = λ i. record { lent = p.lent_left i; forecast = p.forecast i };
}
same-call (deleted y r left p) = record {
  told = ap (λ (z : Answer). set.Deleted z.number z.sparse) p.answer;
  moves = ap (λ (z : Answer). z.moves) p.answer;
  left = λ i. record { lent = p.lent_left i; forecast = p.forecast i };
}
same-call (looked_up y r p) = record { told = ap (λ (f : Found). set.Found f.number f.present f.card) p.answer; moves = refl; left = refl }
same-call (scanned a out cards r left left-cards p) = record {
  told = λ i. set.Scanned (p.number i) (p.written i) (p.more i) (p.output i) (p.cards_output i);
  moves = refl;
  left = refl;
}

-- and a chain
record SameAll (profile : ℕ) (H : Held) (asks : List set.Ask) (ts : List set.Told) (ms : List ℕ) (H' : Held) : Type 0 where
  told : ts ≡ all_told profile asks H
  moves : ms ≡ all_moves profile asks H
  left : H' ≡ after_all profile asks H

same_next : {profile : ℕ} {H H' H'' : Held} {a : set.Ask} {t : set.Told} {m : ℕ} {asks : List set.Ask} {ts : List set.Told} {ms : List ℕ}
    → Same profile H a t m H' → SameAll profile H' asks ts ms H'' → SameAll profile H (a ∷ asks) (t ∷ ts) (m ∷ ms) H''
same_next {profile = profile} {asks = asks} s r = record {
  told = ap₂ {C = List set.Told} ◌∷◌ s.told (r.told ∙ ap {B = List set.Told} (λ G. all_told profile asks G) s.left);
  moves = ap₂ {C = List ℕ} ◌∷◌ s.moves (r.moves ∙ ap {B = List ℕ} (λ G. all_moves profile asks G) s.left);
  left = r.left ∙ ap {B = Held} (λ G. after_all profile asks G) s.left;
}

same-chain : {profile : ℕ} {H H' : Held} {asks : List set.Ask} {ts : List set.Told} {ms : List ℕ} → Chain profile H asks ts ms H' → SameAll profile H asks ts ms H'
same-chain none = record { told = refl; moves = refl; left = refl }
same-chain (next c cs) = same_next (same-call c) (same-chain cs)

-- after make
pub chained : Chained
chained p h from to L e v t r left m asks ts ms H c =
    let d = sequence_answered p h from to L e v t asks in
    let q = sequence_ruled p h from to L e v t asks in
    record {
      told = s.told ∙ d.0;
      holds = subst (λ (G : Held). Holds (set.after_all (most p * 2 ^ h) asks set.empty) G.lent) (sym s.left) d.1;
      moves = s.moves ∙ q.1;
      is_room = subst (IsRoom (number_of p) (shares p h) (ruled_all (shares p h) asks (empty_room h)) (ruled_all_cards (shares p h) asks (empty_room h) (λ k. 0))) (sym s.left) q.0;
    }
  where
    begins : held left r.forecast ≡ made (number_of p) L
    begins = λ i. record { lent = m.lent_left i; forecast = m.forecast i }

    s : SameAll (number_of p) (made (number_of p) L) asks ts ms H
    s = same-chain (subst (λ G. Chain (number_of p) G asks ts ms H) begins c)
