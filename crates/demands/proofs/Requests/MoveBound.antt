-- How much one request may do: its moves are at most the list's capacity, and the number of keys changes by one or stays.
use mathlib.Core.Path.{◌≡◌, refl, sym, ap, ◌∙◌}
use mathlib.Core.Bool.{Bool, true, false}
use mathlib.Core.Option.{Option, none, some}
use mathlib.Core.List.{List, [], Memᴰ as Mem}
use Prim.Native.Nat.{ℕ, ◌+◌, ◌^◌, ◌≤◌, ◌<◌}
use native.Mathlib.Nat.{pow-le-pow_right, mul-le-mul}
use native.Mathlib.Omega.{arith}
use lib.Dec.{T, ltb}
use lib.ListN.{length, take, drop, get_or, length-append, take-append-drop}
use Rattle.lists.proofs.Tests.{neqb→ne, eq→eqb}
use Rattle.lists.proofs.Joined.{joined-append}
use Rattle.lists.proofs.Filtered.{only-length}
use Rattle.slots.specs.Segments.{Segments, keys}
use Rattle.slots.specs.Windows.{start, count}
use Rattle.slots.specs.Keys.{segment_of}
use Rattle.slots.proofs.Windows.{pow_pos}
use Rattle.slots.proofs.Rising.{length-put, length_cut}
use Rattle.slots.proofs.Keys.{member→mem, not-member, keys-parts}
use Rattle.cells.specs.declared.Cell.{Cell}
use Rattle.rules.specs.declared.Request.{Request}
use Rattle.rules.specs.declared.Request.TheVariants.{Insert, Delete, Bad}
use Rattle.rules.specs.declared.Profile.{Profile}
use Rattle.rules.specs.declared.Profile.TheVariants.{First, Second}
use Rattle.rules.specs.Profiles.{most}
use Rattle.rules.specs.Shares.{Shares, shares, capacity}
use Rattle.rules.specs.Placing.{Room, Outcome, home, settled, insert_key, delete_key, outcome}
use Rattle.demands.specs.History.{accepted}
use Rattle.rules.proofs.Sharing.Table.{whole}
use Rattle.demands.proofs.Requests.Accepted.{Inserts, insert-accepted, Deletes, delete-accepted, bad-refused, refused-is}
use Rattle.demands.proofs.Requests.Moved.{keys-insert, keys-delete}
use Rattle.demands.proofs.Requests.StaysGood.{Good}
use Rattle.demands.proofs.Sweeping.SweptWindow.{home-in, here_in}
use Rattle.demands.proofs.Requests.OutcomeCases.{length-keys-put, length-keys-cut}

-- a part of the segments has at most the keys of all
two-keys : (n : ℕ) (ss : Segments) → length (keys (take n ss)) + length (keys (drop n ss)) ≡ length (keys ss)
two-keys n ss = sym (length-append (keys (take n ss)) (keys (drop n ss))) ∙ ap length (sym (joined-append (take n ss) (drop n ss)) ∙ ap keys (take-append-drop n ss))

-- a window has at most the keys of the list
pub count-few : (l s : ℕ) (ss : Segments) → count l s ss ≤ length (keys ss)
count-few l s ss = omega (arith, two-keys (start l s) ss, two-keys (2 ^ l) (drop (start l s) ss))

segment-few : (ss : Segments) (s : ℕ) → s < length ss → length (get_or ss s []) ≤ length (keys ss)
segment-few ss s h = omega (arith, simp length-append at (ap length (keys-parts ss s h)))

-- what is settled, by its shift and the keys then
settled-few : (S : Shares) (s : ℕ) (cs : List Cell) (ms : Segments) (n : ℕ) (b : Bool) (r : Option ℕ) (B : ℕ) → n ≤ B → length (keys ms) ≤ B → (settled S s cs ms n b r).answer.moves ≤ B
unfolding settled
settled-few S s cs ms n b none B h k = h
settled-few S s cs ms n b (some l) B h k = omega (arith, count-few l s ms)

module _ (S : Shares) (y : ℕ) (R : Room) (G : Good S R) where
  abbrev ss : Segments
  ss = R.segments

  some-segment : 0 < length R.segments
  some-segment = omega (arith, G.proper.size, pow_pos S.height)

  insert-few : Inserts S y R → (insert_key S y R).answer.moves ≤ capacity S
  unfolding insert_key
  insert-few a =
      settled-few S _ _ _ _ _ _ (capacity S)
      (omega (arith, a.room, only-length (λ k. ltb y k) (get_or ss (home y ss) []), segment-few ss (home y ss) (home-in y ss G.proper.listed some-segment a.fresh).0))
      (omega (arith, a.room, length-keys-put y ss G.proper.listed some-segment a.fresh))

  delete-few : Mem y (keys R.segments) → (delete_key S y R).answer.moves ≤ capacity S
  unfolding delete_key
  delete-few m =
      settled-few S _ _ _ _ _ _ (capacity S)
      (omega (arith, G.room, only-length (λ k. ltb y k) (get_or ss (segment_of ss y) []), segment-few ss (segment_of ss y) (here_in y ss G.proper.listed m).0))
      (omega (arith, G.room, length-keys-cut y ss G.proper.listed m))

  -- THE NUMBER OF KEYS: an accepted insert adds one
  pub length-insert : (outcome S (Insert y) R).answer.number ≡ 0 → length (keys (outcome S (Insert y) R).room.segments) ≡ length (keys R.segments) + 1
  length-insert e = rw a.is (ap length (keys-insert S y R G.proper.listed some-segment a.fresh) ∙ omega (arith, length-put y (keys ss) (not-member y (keys ss) a.fresh)))
    where
      a : Inserts S y R
      a = insert-accepted S y R (eq→eqb (outcome S (Insert y) R).answer.number 0 e)

  -- an accepted delete takes one
  pub length-delete : (outcome S (Delete y) R).answer.number ≡ 0 → length (keys (outcome S (Delete y) R).room.segments) + 1 ≡ length (keys R.segments)
  length-delete e = rw a.is (omega (arith, ap length (keys-delete S y R G.proper.listed m), length_cut y (keys ss) G.proper.listed.rising m))
    where
      a : Deletes S y R
      a = delete-accepted S y R (eq→eqb (outcome S (Delete y) R).answer.number 0 e)

      m : Mem y (keys R.segments)
      m = member→mem y (keys R.segments) a.present

-- THE MOVES of a request are at most the list's capacity
moves-accepted : (S : Shares) (q : Request) (R : Room) → Good S R → T (accepted S q R) → (outcome S q R).answer.moves ≤ capacity S
moves-accepted S (Insert y) R G t = rw (insert-accepted S y R t).is (insert-few S y R G (insert-accepted S y R t))
moves-accepted S (Delete y) R G t = rw (delete-accepted S y R t).is (delete-few S y R G (member→mem y (keys R.segments) (delete-accepted S y R t).present))
moves-accepted S Bad R G t = absurd (bad-refused S R t)

pub moves-capacity : (S : Shares) (q : Request) (R : Room) → Good S R → (outcome S q R).answer.moves ≤ capacity S
moves-capacity S q R G = go (accepted S q R) refl
  where
    go : (b : Bool) → accepted S q R ≡ b → (outcome S q R).answer.moves ≤ capacity S
    go true e = moves-accepted S q R G (rw e tt)
    go false e = rw (ap (λ (o : Outcome). o.answer.moves) (refused-is S q R (neqb→ne (outcome S q R).answer.number 0 (rw e tt)))) (omega arith)

-- which is at most 44 × 64
most-small : (p : Profile) → most p ≤ 44
most-small First = omega arith
most-small Second = omega arith

capacity-small : (p : Profile) (h : ℕ) → 1 ≤ h → h ≤ 6 → capacity (shares p h) ≤ 2816
capacity-small p h from to = rw (whole p h from to).0 (mul-le-mul (pow-le-pow_right {n = 2} (omega arith) {i = h} {j = 6} to) (most-small p))

pub moves-bound : (p : Profile) (h : ℕ) → 1 ≤ h → h ≤ 6 → (q : Request) (R : Room) → Good (shares p h) R → (outcome (shares p h) q R).answer.moves ≤ 4096
moves-bound p h from to q R G = omega (arith, moves-capacity (shares p h) q R G, capacity-small p h from to)
