-- What a run leaves is what the records that it worked leave, one after the other; and how it ends. c is the card of each key.
use mathlib.Core.Path.{◌≡◌, refl, sym, ◌∙◌, subst}
use mathlib.Core.Bool.{not}
use mathlib.Core.Logic.{◌≢◌, inl, inr}
use mathlib.Core.List.Memᴰ.{cases_cons as mem-cases}
use mathlib.Core.List.Memᴰ.{not-nil as nowhere}
use mathlib.Core.List.{List, [], ◌∷◌}
use Prim.Native.Nat.{ℕ, suc, ◌+◌, ◌≤◌, ◌<◌}
use native.Mathlib.Omega.{arith}
use lib.Dec.{T, ltb, ltb→lt, nltb→le}
use borrow.Author.Tests.{lt-ltb, le-ltb}
use lib.ListN.{length, take, get_or}
use Rattle.lists.proofs.Tests.{is_true, is_false, tested}
use Rattle.rules.specs.declared.Request.TheVariants.{Bad}
use Rattle.rules.specs.Shares.{Shares}
use Rattle.rules.specs.Placing.{Room, outcome}
use Rattle.rules.specs.Cards.{cards_after}
use Rattle.rules.specs.declared.Tally.{Tally}
use Rattle.rules.specs.declared.Record.{Record}
use Rattle.rules.specs.Runs.{asking, is_bad, tallied, Ran, stopped, work}
use Rattle.demands.proofs.Running.Records.{sizes, AllGood}
use Rattle.demands.proofs.Running.BadRecords.{not-bad}

-- what one record leaves: the room, the card of each key, the tally
module _ (S : Shares) (r : Record) (R : Room) where
  abbrev pub room_next : Room
  room_next = (outcome S r.request R).room

  abbrev pub cards_next : (ℕ → ℕ) → ℕ → ℕ
  cards_next c = cards_after (outcome S r.request R) r.request r.card c

  abbrev pub tally_next : Tally → Tally
  tally_next t = tallied (outcome S r.request R) r.size t

-- one step of a run: at the end, at a bad record, before one whose moves would pass the allowance, and else
module _ (S : Shares) (allowance : ℕ) where
  pub work-end : (R : Room) (c : ℕ → ℕ) (t : Tally) → work S allowance [] R c t ≡ stopped 0 R c t
  unfolding work
  work-end R c t = refl

  module _ (r : Record) (rs : List Record) (R : Room) (c : ℕ → ℕ) (t : Tally) where
    pub work-bad : T (is_bad r.request) → work S allowance (r ∷ rs) R c t ≡ stopped 9 R c t
    unfolding work
    work-bad b = rw (is_true (is_bad r.request) b)

    pub work-over : T (not (is_bad r.request)) → allowance < t.moves + (outcome S r.request R).answer.moves → work S allowance (r ∷ rs) R c t ≡ stopped 10 R c t
    unfolding work
    work-over g h = rw (is_false (is_bad r.request) g, lt-ltb allowance (t.moves + (outcome S r.request R).answer.moves) h)

    pub work-on : T (not (is_bad r.request)) → t.moves + (outcome S r.request R).answer.moves ≤ allowance
        → work S allowance (r ∷ rs) R c t ≡ work S allowance rs (room_next S r R) (cards_next S r R c) (tally_next S r R t)
    unfolding work
    work-on g h = rw (is_false (is_bad r.request) g, le-ltb allowance (t.moves + (outcome S r.request R).answer.moves) h)

-- what records, one after the other, leave, and what they add to a tally
abbrev pub after : Shares → List Record → Room → Room
after S [] R = R
after S (r ∷ rs) R = after S rs (room_next S r R)

abbrev pub cards_left : Shares → List Record → Room → (ℕ → ℕ) → ℕ → ℕ
cards_left S [] R c = c
cards_left S (r ∷ rs) R c = cards_left S rs (room_next S r R) (cards_next S r R c)

abbrev pub tallies : Shares → List Record → Room → Tally → Tally
tallies S [] R t = t
tallies S (r ∷ rs) R t = tallies S rs (room_next S r R) (tally_next S r R t)

pub tallies-worked : (S : Shares) (rs : List Record) (R : Room) (t : Tally) → (tallies S rs R t).worked ≡ t.worked + length rs
tallies-worked S [] R t = omega arith
tallies-worked S (r ∷ rs) R t = tallies-worked S rs _ _ ∙ omega arith

pub tallies-place : (S : Shares) (rs : List Record) (R : Room) (t : Tally) → (tallies S rs R t).place ≡ t.place + sizes rs
tallies-place S [] R t = omega arith
tallies-place S (r ∷ rs) R t = tallies-place S rs _ _ ∙ omega arith

-- how a run ends after n records: at the end; at a bad one; or before one whose moves would pass the allowance
pub data Stops (S : Shares) (allowance : ℕ) (rs : List Record) (n : ℕ) (r : Ran) : Type 0 where
  ends : r.stop ≡ 0 → n ≡ length rs → Stops S allowance rs n r
  at-bad : r.stop ≡ 9 → n < length rs → T (is_bad (get_or rs n (asking Bad 0 11)).request) → Stops S allowance rs n r
  over : r.stop ≡ 10 → n < length rs → T (not (is_bad (get_or rs n (asking Bad 0 11)).request))
      → allowance < r.tally.moves + (outcome S (get_or rs n (asking Bad 0 11)).request r.room).answer.moves → Stops S allowance rs n r

-- a run over rs has worked the first n
pub record Works (S : Shares) (allowance : ℕ) (rs : List Record) (R : Room) (c : ℕ → ℕ) (t : Tally) (r : Ran) : Type 0 where
  pub n : ℕ
  pub fits : n ≤ length rs
  pub good : AllGood (take n rs)
  pub room : r.room ≡ after S (take n rs) R
  pub cards : r.cards ≡ cards_left S (take n rs) R c
  pub tally : r.tally ≡ tallies S (take n rs) R t
  pub within : r.tally.moves ≤ allowance
  pub stops : Stops S allowance rs n r
  pub again : work S allowance (take n rs) R c t ≡ stopped 0 r.room r.cards r.tally

module _ (S : Shares) (allowance : ℕ) where
  -- none worked
  none : (rs : List Record) (R : Room) (c : ℕ → ℕ) (t : Tally) (m : ℕ) → t.moves ≤ allowance
      → Stops S allowance rs 0 (stopped m R c t) → Works S allowance rs R c t (stopped m R c t)
  none rs R c t m h s = record {
    n = 0;
    fits = omega arith;
    good = λ q i. absurd (nowhere i);
    room = refl;
    cards = refl;
    tally = refl;
    within = h;
    stops = s;
    again = work-end S allowance R c t;
  }

  -- one more worked, before those of the rest
  module _ (r : Record) (rs : List Record) (R : Room) (c : ℕ → ℕ) (t : Tally) (w : Ran) where
    later : (n : ℕ) → Stops S allowance rs n w → Stops S allowance (r ∷ rs) (suc n) w
    later n (ends e h) = ends e (omega arith)
    later n (at-bad e h b) = at-bad e (omega arith) b
    later n (over e h g o) = over e (omega arith) g o

    more : T (not (is_bad r.request)) → t.moves + (outcome S r.request R).answer.moves ≤ allowance
        → Works S allowance rs (room_next S r R) (cards_next S r R c) (tally_next S r R t) w → Works S allowance (r ∷ rs) R c t w
    more g k done = record {
      n = suc done.n;
      fits = omega (arith, done.fits);
      good = λ x m. elim (mem-cases m) [ inl e ↦ subst (λ (z : Record). z.request ≢ Bad) (sym e) (not-bad r.request g) | inr i ↦ done.good x i ];
      room = done.room;
      cards = done.cards;
      tally = done.tally;
      within = done.within;
      stops = later done.n done.stops;
      again = work-on S allowance r (take done.n rs) R c t g k ∙ done.again;
    }

  -- a run of one record or more, from what the run of the rest works
  step : (r : Record) (rs : List Record) (R : Room) (c : ℕ → ℕ) (t : Tally) → t.moves ≤ allowance
      → (t.moves + (outcome S r.request R).answer.moves ≤ allowance
      → Works S allowance rs (room_next S r R) (cards_next S r R c) (tally_next S r R t) (work S allowance rs (room_next S r R) (cards_next S r R c) (tally_next S r R t)))
      → Works S allowance (r ∷ rs) R c t (work S allowance (r ∷ rs) R c t)
  step r rs R c t h rest =
      elim (tested (is_bad r.request)) [
        | inl b ↦ rw (work-bad S allowance r rs R c t b) (none (r ∷ rs) R c t 9 h (at-bad refl (omega arith) b))
        | inr g ↦
            elim (tested (ltb allowance (t.moves + (outcome S r.request R).answer.moves))) [
              | inl l ↦
                  let k : allowance < t.moves + (outcome S r.request R).answer.moves = ltb→lt _ _ l in
                  rw (work-over S allowance r rs R c t g k) (none (r ∷ rs) R c t 10 h (over refl (omega arith) g k))
              | inr l ↦
                  let k : t.moves + (outcome S r.request R).answer.moves ≤ allowance = nltb→le _ _ l in
                  rw (work-on S allowance r rs R c t g k) (more r rs R c t _ g k (rest k))
            ]
      ]

  -- a run within its allowance works the first records, up to where it stops
  pub works : (rs : List Record) (R : Room) (c : ℕ → ℕ) (t : Tally) → t.moves ≤ allowance → Works S allowance rs R c t (work S allowance rs R c t)
  works [] R c t h = rw (work-end S allowance R c t) (none [] R c t 0 h (ends refl refl))
  works (r ∷ rs) R c t h = step r rs R c t h (λ k. works rs (room_next S r R) (cards_next S r R c) (tally_next S r R t) k)
