-- One accepted request: its keys, and what it does to the counts of windows.
use mathlib.Core.Path.{◌≡◌, refl, ap, ◌∙◌}
use mathlib.Core.Bool.{Bool, true, false, ◌&&◌, not}
use mathlib.Core.Logic.{◌⊎◌, inl, inr, ◌≢◌}
use mathlib.Core.Option.{Option, none, some}
use mathlib.Core.List.{List, [], ◌∷◌, Memᴰ as Mem}
use Prim.Native.Nat.{ℕ, suc, ◌+◌, ◌*◌, ◌^◌, ◌≤◌, ◌<◌}
use native.Mathlib.Nat.{pow-zero}
use native.Mathlib.Omega.{arith}
use lib.Dec.{T, ltb, eqb, eqb→eq, ltb→lt, nltb→le}
use lib.ListN.{length, get_or, set, length-set}
use Rattle.std.proofs.Common.{if◌then◌else◌}
use Rattle.lists.proofs.Tests.{neqb→ne}
use Rattle.lists.proofs.Search.{Firsts}
use Rattle.slots.specs.Segments.{Segments, keys}
use Rattle.slots.specs.Windows.{start, count}
use Rattle.slots.specs.Keys.{Listed, member, above, put, cut, segment_of}
use Rattle.slots.proofs.Windows.{pow_pos}
use Rattle.slots.proofs.Counts.{count-set-in, count-set-out, count-zero}
use Rattle.slots.proofs.Rising.{length-put, length_cut, put-rising, cut-rising, put-mem, cut-mem}
use Rattle.slots.proofs.Keys.{segment-mem, in-part, rising_part, not-member, member→mem, home-between, live-between, keys-put, keys-cut}
use Rattle.cells.specs.declared.Cell.{Cell}
use Rattle.rules.specs.declared.Request.{Request}
use Rattle.rules.specs.declared.Request.TheVariants.{Insert, Delete, Bad}
use Rattle.rules.specs.Shares.{Shares, within}
use Rattle.rules.specs.Placing.{Room, Outcome, home, put_in, cut_from, insert_level, delete_level, settled, chosen, insert_key, delete_key, outcome}
use Rattle.rules.specs.Readings.{Proper}
use Rattle.demands.specs.History.{Event, inserts, deletes, event_at, accepted}
use Rattle.demands.proofs.Sharing.Climb.{chosen-first}
use Rattle.demands.proofs.Sweeping.Settled.{AtMost, Asked, keys-settled, length-settled}
use Rattle.demands.proofs.Requests.Accepted.{Inserts, insert-accepted, Deletes, delete-accepted, bad-refused, refused-is}

-- KEYS: those with y put in, or taken out
pub keys-insert : (S : Shares) (y : ℕ) (R : Room) → Listed R.segments → 0 < length R.segments → T (not (member y (keys R.segments)))
    → keys (insert_key S y R).room.segments ≡ put y (keys R.segments)
unfolding insert_key
keys-insert S y R g h t =
    keys-settled S _ _ _ _ _ _ ∙ keys-put y R.segments (home y R.segments) (home-between y R.segments g h (not-member y (keys R.segments) t))

pub keys-delete : (S : Shares) (y : ℕ) (R : Room) → Listed R.segments → Mem y (keys R.segments)
    → keys (delete_key S y R).room.segments ≡ cut y (keys R.segments)
unfolding delete_key
keys-delete S y R g m =
    keys-settled S _ _ _ _ _ _
    ∙ keys-cut y R.segments (segment_of R.segments y) (live-between y R.segments g m)

-- they rise, from 1 up
listed-insert : (S : Shares) (y : ℕ) (R : Room) → Listed R.segments → 0 < length R.segments → 0 < y → T (not (member y (keys R.segments)))
    → Listed (insert_key S y R).room.segments
listed-insert S y R g h p t = record {
  rising = rw (keys-insert S y R g h t) (put-rising y (keys R.segments) g.rising);
  live = rw (keys-insert S y R g h t) λ k m. elim (put-mem y (keys R.segments) k m) [ inl e ↦ rw e p | inr n ↦ g.live k n ];
}

listed-delete : (S : Shares) (y : ℕ) (R : Room) → Listed R.segments → Mem y (keys R.segments) → Listed (delete_key S y R).room.segments
listed-delete S y R g m = record {
  rising = rw (keys-delete S y R g m) (cut-rising y (keys R.segments) g.rising);
  live = rw (keys-delete S y R g m) λ k n. g.live k (cut-mem y (keys R.segments) k n);
}

-- a request at e, with the segments ms before any sweep
pub record Moved (S : Shares) (R : Room) (e : Event) (o : Outcome) : Type 0 where
  pub ms : Segments
  pub cs : List Cell
  pub n : ℕ
  pub b : Bool
  pub fits : e.at < 2 ^ S.height
  pub number : length ms ≡ 2 ^ S.height
  pub asked : Asked S e.at ms e.level
  pub change : (l t : ℕ) → count l t ms + deletes l t (e ∷ []) ≡ count l t R.segments + inserts l t (e ∷ [])
  pub result : o ≡ settled S e.at cs ms n b e.level

-- by the test whether it falls in the window
grown : (ss : Segments) (s : ℕ) (new : List ℕ) → s < length ss → length new ≡ suc (length (get_or ss s [])) → (l t : ℕ) (r : Option ℕ)
    → count l t (set ss s new) + deletes l t (record { at = s; grows = true; level = r } ∷ []) ≡ count l t ss + inserts l t (record { at = s; grows = true; level = r } ∷ [])
grown ss s new h e l t r = go (eqb (start l s) (start l t)) (eqb→eq _ _) (neqb→ne _ _)
  where
    go : (b : Bool) → (T b → start l s ≡ start l t) → (T (not b) → start l s ≢ start l t)
        → count l t (set ss s new) + ((if b && false then 1 else 0) + 0) ≡ count l t ss + ((if b && true then 1 else 0) + 0)
    go true p q = omega (arith, count-set-in ss s new h l t (p tt))
    go false p q = omega (arith, count-set-out ss s new h l t (q tt))

shrunk : (ss : Segments) (s : ℕ) (new : List ℕ) → s < length ss → suc (length new) ≡ length (get_or ss s []) → (l t : ℕ) (r : Option ℕ)
    → count l t (set ss s new) + deletes l t (record { at = s; grows = false; level = r } ∷ []) ≡ count l t ss + inserts l t (record { at = s; grows = false; level = r } ∷ [])
shrunk ss s new h e l t r = go (eqb (start l s) (start l t)) (eqb→eq _ _) (neqb→ne _ _)
  where
    go : (b : Bool) → (T b → start l s ≡ start l t) → (T (not b) → start l s ≢ start l t)
        → count l t (set ss s new) + ((if b && true then 1 else 0) + 0) ≡ count l t ss + ((if b && false then 1 else 0) + 0)
    go true p q = omega (arith, count-set-in ss s new h l t (p tt))
    go false p q = omega (arith, count-set-out ss s new h l t (q tt))

-- a level that was asked for
asked_of : (S : Shares) (s : ℕ) (ms : Segments) (r : Option ℕ) → Firsts (λ l. within S l (count l s ms)) 1 S.height r
    → (2 ^ 0 * S.high 0 < count 0 s ms) ⊎ (count 0 s ms < 2 ^ 0 * S.low 0) → Asked S s ms r
asked_of S s ms none c t = tt
asked_of S s ms (some k) c t = (c.0, omega arith, t)

-- the level that an insert asks for, and that a delete does
pub asked-insert : (S : Shares) (y : ℕ) (ss : Segments) → home y ss < length ss → length (put y (get_or ss (home y ss) [])) ≡ suc (length (get_or ss (home y ss) []))
    → Asked S (home y ss) (put_in y ss) (insert_level S y ss)
unfolding insert_level
asked-insert S y ss h e = go (ltb (length (get_or ss (home y ss) [])) (S.high 0)) (nltb→le _ _)
  where
    go : (b : Bool) → (T (not b) → S.high 0 ≤ length (get_or ss (home y ss) [])) → Asked S (home y ss) (put_in y ss) (if b then none else chosen S (home y ss) (put_in y ss))
    go true p = tt
    go false p =
        asked_of S (home y ss) (put_in y ss) (chosen S (home y ss) (put_in y ss)) (chosen-first S (home y ss) (put_in y ss))
        (inl (rw (pow-zero 2) (omega (arith, p tt, count-zero ss (home y ss) (put y (get_or ss (home y ss) [])) h))))

pub asked-delete : (S : Shares) (y : ℕ) (ss : Segments) → segment_of ss y < length ss → Asked S (segment_of ss y) (cut_from y ss) (delete_level S y ss)
unfolding delete_level
asked-delete S y ss h = go (ltb (length (cut y (get_or ss (segment_of ss y) []))) (S.low 0)) (ltb→lt _ _)
  where
    go : (b : Bool) → (T b → length (cut y (get_or ss (segment_of ss y) [])) < S.low 0)
        → Asked S (segment_of ss y) (cut_from y ss) (if b then chosen S (segment_of ss y) (cut_from y ss) else none)
    go true p =
        asked_of S (segment_of ss y) (cut_from y ss) (chosen S (segment_of ss y) (cut_from y ss)) (chosen-first S (segment_of ss y) (cut_from y ss))
        (inr (rw (pow-zero 2) (omega (arith, p tt, count-zero ss (segment_of ss y) (cut y (get_or ss (segment_of ss y) [])) h))))
    go false p = tt

at_most : (S : Shares) (s : ℕ) (ms : Segments) (r : Option ℕ) → Asked S s ms r → AtMost S.height r
at_most S s ms none a = tt
at_most S s ms (some k) a = a.1

module _ (S : Shares) (y : ℕ) (R : Room) (K : Proper S R.segments) where
  moved-insert : T (not (member y (keys R.segments))) → Moved S R (event_at S (Insert y) R) (insert_key S y R)
  unfolding insert_key
  moved-insert t = record {
    ms = put_in y R.segments;
    cs = _;
    n = length (above y (get_or R.segments (home y R.segments) [])) + 1;
    b = _;
    fits = omega (arith, f, K.size);
    number = length-set R.segments _ _ ∙ K.size;
    asked = asked-insert S y R.segments f e;
    change = λ l t. grown R.segments (home y R.segments) (put y (get_or R.segments (home y R.segments) [])) f e l t (insert_level S y R.segments);
    result = refl;
  }
    where
      f : home y R.segments < length R.segments
      f = (home-between y R.segments K.listed (omega (arith, K.size, pow_pos S.height)) (not-member y (keys R.segments) t)).0

      e : length (put y (get_or R.segments (home y R.segments) [])) ≡ suc (length (get_or R.segments (home y R.segments) []))
      e = length-put y (get_or R.segments (home y R.segments) []) (λ k m. not-member y (keys R.segments) t k (in-part R.segments (home y R.segments) f k m))

  moved-delete : Mem y (keys R.segments) → Moved S R (event_at S (Delete y) R) (delete_key S y R)
  unfolding delete_key
  moved-delete m = record {
    ms = cut_from y R.segments;
    cs = _;
    n = length (above y (get_or R.segments (segment_of R.segments y) []));
    b = _;
    fits = omega (arith, f, K.size);
    number = length-set R.segments _ _ ∙ K.size;
    asked = asked-delete S y R.segments f;
    change = λ l t. shrunk R.segments (segment_of R.segments y) (cut y (get_or R.segments (segment_of R.segments y) [])) f e l t (delete_level S y R.segments);
    result = refl;
  }
    where
      f : segment_of R.segments y < length R.segments
      f = (segment-mem R.segments y (K.listed.live y m) m).0

      e : suc (length (cut y (get_or R.segments (segment_of R.segments y) []))) ≡ length (get_or R.segments (segment_of R.segments y) [])
      e = length_cut y (get_or R.segments (segment_of R.segments y) []) (rising_part R.segments _ f K.listed.rising) (segment-mem R.segments y (K.listed.live y m) m).1

moved-number : (S : Shares) (R : Room) (e : Event) (o : Outcome) → Moved S R e o → length o.room.segments ≡ 2 ^ S.height
moved-number S R e o m =
    ap (λ (o : Outcome). length o.room.segments) m.result ∙ length-settled S e.at m.cs m.ms m.n m.b e.level S.height (at_most S e.at m.ms e.level m.asked) m.fits m.number

-- an accepted request
pub moved : (S : Shares) (q : Request) (R : Room) → Proper S R.segments → T (accepted S q R)
    → Moved S R (event_at S q R) (outcome S q R) × Proper S (outcome S q R).room.segments
moved S (Insert y) R K t = rw a.is (m, record { size = moved-number S R _ _ m; listed = listed-insert S y R K.listed (omega (arith, K.size, pow_pos S.height)) a.key a.fresh })
  where
    a : Inserts S y R
    a = insert-accepted S y R t

    m : Moved S R (event_at S (Insert y) R) (insert_key S y R)
    m = moved-insert S y R K a.fresh
moved S (Delete y) R K t = rw a.is (m, record { size = moved-number S R _ _ m; listed = listed-delete S y R K.listed p })
  where
    a : Deletes S y R
    a = delete-accepted S y R t

    p : Mem y (keys R.segments)
    p = member→mem y (keys R.segments) a.present

    m : Moved S R (event_at S (Delete y) R) (delete_key S y R)
    m = moved-delete S y R K p
moved S Bad R K t = absurd (bad-refused S R t)

-- any request leaves what is proper so
pub proper-next : (S : Shares) (q : Request) (R : Room) → Proper S R.segments → Proper S (outcome S q R).room.segments
proper-next S q R K = go (accepted S q R) refl
  where
    go : (b : Bool) → accepted S q R ≡ b → Proper S (outcome S q R).room.segments
    go true e = (moved S q R K (rw e tt)).1
    go false e = rw (ap (λ (o : Outcome). o.room) (refused-is S q R (neqb→ne (outcome S q R).answer.number 0 (rw e tt)))) K
