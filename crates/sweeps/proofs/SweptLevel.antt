-- A request that sweeps, by the rules, for a key put in and taken out alike: what is left, the level and the moves, where the key belongs, and the marks.
use mathlib.Core.Path.{◌≡◌, refl, sym, ap, subst, ◌∙◌}
use mathlib.Core.Bool.{Bool, true, false, not}
use mathlib.Core.Option
use mathlib.Core.Option.{Option, none, some}
use mathlib.Core.List.{List, [], Memᴰ as Mem}
use Prim.Native.Nat.{ℕ, suc, ◌^◌, ◌≤◌}
use native.Mathlib.Omega.{arith}
use lib.Dec.{T, ltb}
use lib.ListN.{length, get_or, set}
use Rattle.std.proofs.Common.{if◌then◌else◌}
use Rattle.lists.proofs.Tests.{eq→eqb}
use Rattle.slots.specs.Segments.{Segments, keys}
use Rattle.slots.specs.Keys.{Listed, member, cut, changed, predecessor, segment_of}
use Rattle.slots.specs.Windows.{start, window, count}
use Rattle.slots.specs.Shown.{Shows, CountsOf}
use Rattle.slots.proofs.Windows.{pow_pos}
use Rattle.slots.proofs.Keys.{Between, member→mem, mem→member, segment-mem}
use Rattle.cells.specs.declared.Cell.{Cell}
use Rattle.cells.specs.Steps.{noted, dropped}
use Rattle.forecast.specs.declared.Forecast.{Forecast}
use Rattle.forecast.specs.Cells.{used_cells}
use Rattle.rules.specs.declared.Request.TheVariants.{Insert, Delete}
use Rattle.rules.specs.Shares.{Shares, cells_of}
use Rattle.rules.specs.Placing.{Room, Outcome, home, put_in, cut_from, chosen, insert_level, delete_level, front_weight, sweep, settled, insert_key, delete_key, outcome}
use Rattle.rules.specs.Readings.{Smallest}
use Rattle.rules.specs.Calls.{room_of}
use Rattle.demands.proofs.Sharing.Climb.{climb_is}
use Rattle.demands.proofs.Sharing.Weighing.{noted-good, dropped-good, front-ruled}
use Rattle.demands.proofs.Sweeping.SweptWindow.{home-in, here_in, there-window}
use Rattle.demands.proofs.Requests.StaysGood.{Good}
use Rattle.demands.proofs.Requests.Accepted.{Inserts, insert-accepted, Deletes, delete-accepted}
use Rattle.shares.specs.declared.Shape.{Shape}
use Rattle.shares.specs.Rows.{shares_at}
use Rattle.marks.specs.Marking.{Marking}
use Rattle.marks.proofs.Handed.{marking-insert, marking-delete}
use Rattle.aims.specs.declared.Aim.{Aim}
use Rattle.records.specs.Asked.{asked}
use Rattle.aims.specs.Aims.{seat_for, level_for}
use Rattle.aims.proofs.Standing.{height-stands, good-stands}
use Rattle.aims.proofs.Answers.{level-some}
use Rattle.sweeps.specs.Acts.{cells_for, done_in, Acting}

-- y is put in, or taken out, in segment s, and the window of level l round it is swept
pub record Sweeps (S : Shares) (R : Room) (g : Bool) (y l s : ℕ) : Type 0 where
  pub left : (outcome S (asked g y) R).room.segments ≡ sweep S l s (cells_for S g y R) (set R.segments s (changed g y (get_or R.segments s [])))
  pub done : done_in g y R.segments ≡ set R.segments s (changed g y (get_or R.segments s []))
  pub small : Smallest S s (done_in g y R.segments) l
  pub moves : (outcome S (asked g y) R).answer.moves ≡ count l s (done_in g y R.segments)
  pub between : Between y R.segments s
  pub fresh : g ≡ true → T (not (member y (keys R.segments)))
  pub there : g ≡ false → Mem y (get_or R.segments s [])
  pub marks : (slots table : List ℕ) (N : Forecast) → Shows R.segments slots → CountsOf R.segments table → used_cells N ≡ cells_for S g y R
      → Marking slots table N (record { first = start l s; n = 2 ^ l; key = y; grows = g }) R.segments
  pub front : front_weight l s (cells_for S g y R) ≤ 12

-- a level that is found
no-level : (l : ℕ) → none ≡ some l → ⊥
no-level l e = let f : suc l ≡ l = ap (λ (o : Option ℕ). Option.get_or o (suc l)) e in omega arith

from-else : (b : Bool) (x : Option ℕ) (l : ℕ) → (if b then none else x) ≡ some l → x ≡ some l
from-else true x l e = absurd (no-level l e)
from-else false x l e = e

from_then : (b : Bool) (x : Option ℕ) (l : ℕ) → (if b then x else none) ≡ some l → x ≡ some l
from_then true x l e = e
from_then false x l e = absurd (no-level l e)

-- true is not false
apart : true ≡ false → ⊥
apart e = subst T e tt

apart-back : false ≡ true → ⊥
apart-back e = subst T (sym e) tt

settled-left : (S : Shares) (s : ℕ) (cs : List Cell) (ms : Segments) (n l : ℕ) (b : Bool) (o : Option ℕ) → o ≡ some l → (settled S s cs ms n b o).room.segments ≡ sweep S l s cs ms
unfolding settled
settled-left S s cs ms n l b o e = ap (λ (o : Option ℕ). (settled S s cs ms n b o).room.segments) e

settled-moves : (S : Shares) (s : ℕ) (cs : List Cell) (ms : Segments) (n l : ℕ) (b : Bool) (o : Option ℕ) → o ≡ some l → (settled S s cs ms n b o).answer.moves ≡ count l s ms
unfolding settled
settled-moves S s cs ms n l b o e = ap (λ (o : Option ℕ). (settled S s cs ms n b o).answer.moves) e

module _ (S : Shares) (R : Room) (G : Good S R) (low : S.height ≤ 6) (y l : ℕ) where
  abbrev ss : Segments
  ss = R.segments

  g : Listed R.segments
  g = G.proper.listed

  level_in : insert_level S y R.segments ≡ some l → chosen S (home y R.segments) (put_in y R.segments) ≡ some l
  unfolding insert_level
  level_in e = from-else (ltb (length (get_or ss (home y ss) [])) (S.high 0)) _ l e

  level_out : delete_level S y R.segments ≡ some l → chosen S (segment_of R.segments y) (cut_from y R.segments) ≡ some l
  unfolding delete_level
  level_out e = from_then (ltb (length (cut y (get_or ss (segment_of ss y) []))) (S.low 0)) _ l e

  left_in : insert_level S y R.segments ≡ some l
      → (insert_key S y R).room.segments ≡ sweep S l (home y R.segments) (noted (cells_of S) (predecessor y R.segments) (home y R.segments) R.cells) (put_in y R.segments)
  unfolding insert_key
  left_in e = settled-left S (home y ss) _ (put_in y ss) _ l false (insert_level S y ss) e

  left_out : delete_level S y R.segments ≡ some l
      → (delete_key S y R).room.segments ≡ sweep S l (segment_of R.segments y) (dropped y R.cells) (cut_from y R.segments)
  unfolding delete_key
  left_out e = settled-left S (segment_of ss y) _ (cut_from y ss) _ l _ (delete_level S y ss) e

  moves-in : insert_level S y R.segments ≡ some l → (insert_key S y R).answer.moves ≡ count l (home y R.segments) (put_in y R.segments)
  unfolding insert_key
  moves-in e = settled-moves S (home y ss) _ (put_in y ss) _ l false (insert_level S y ss) e

  moves_out : delete_level S y R.segments ≡ some l → (delete_key S y R).answer.moves ≡ count l (segment_of R.segments y) (cut_from y R.segments)
  unfolding delete_key
  moves_out e = settled-moves S (segment_of ss y) _ (cut_from y ss) _ l _ (delete_level S y ss) e

  sweeps : (b : Bool) → (outcome S (asked b y) R).answer.number ≡ 0 → level_for S b y R.segments ≡ some l → Sweeps S R b y l (seat_for b y R.segments)
  sweeps true n e = record {
    left = ap (λ (o : Outcome). o.room.segments) a.is ∙ left_in e;
    done = refl;
    small = ((climb_is S (home y ss) (put_in y ss)).0 l).0 (level_in e);
    moves = ap (λ (o : Outcome). o.answer.moves) a.is ∙ moves-in e;
    between = home-in y ss g (omega (arith, G.proper.size, pow_pos S.height)) a.fresh;
    fresh = λ _. a.fresh;
    there = λ t. absurd (apart t);
    marks = λ slots table N sh c q. marking-insert S R G low slots table sh c N (start l (home y ss)) (2 ^ l) y q a.key a.fresh;
    front = omega (arith, low, front-ruled _ _ _ (noted-good S y R G) l (home y ss));
  }
    where
      a : Inserts S y R
      a = insert-accepted S y R (eq→eqb (outcome S (Insert y) R).answer.number 0 n)
  sweeps false n e = record {
    left = ap (λ (o : Outcome). o.room.segments) a.is ∙ left_out e;
    done = refl;
    small = ((climb_is S (segment_of ss y) (cut_from y ss)).0 l).0 (level_out e);
    moves = ap (λ (o : Outcome). o.answer.moves) a.is ∙ moves_out e;
    between = here_in y ss g m;
    fresh = λ t. absurd (apart-back t);
    there = λ _. (segment-mem ss y (g.live y m) m).1;
    marks = λ slots table N sh c q. marking-delete S R G low slots table sh c N (start l (segment_of ss y)) (2 ^ l) y q (mem→member y (keys (window l (segment_of ss y) ss)) (there-window y ss g m l));
    front = omega (arith, low, front-ruled _ _ _ (dropped-good S y R G) l (segment_of ss y));
  }
    where
      a : Deletes S y R
      a = delete-accepted S y R (eq→eqb (outcome S (Delete y) R).answer.number 0 n)

      m : Mem y (keys R.segments)
      m = member→mem y (keys R.segments) a.present

-- AN ACCEPTED REQUEST that sweeps does
pub acting-sweeps : {slots : List ℕ} {F : Forecast} {bounds table : List ℕ} {k : Shape} {r : Aim} → Acting slots F bounds table k r → 1 ≤ r.level
    → Sweeps (shares_at k) (room_of slots F) r.grows r.key r.level r.segment
acting-sweeps {slots} {F} {k = k} {r = r} A level =
    subst (Sweeps (shares_at k) (room_of slots F) r.grows r.key r.level) (sym A.accepts.segment)
    (sweeps (shares_at k) (room_of slots F) (good-stands A.stands) (height-stands A.stands).1 r.key r.level r.grows A.accepts.accepted
    (A.accepts.level ∙ sym (level-some r.level level)))
