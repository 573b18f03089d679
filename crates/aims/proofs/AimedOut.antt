-- What a delete comes to, by the tests of the code: each refusal, no window to sweep, and the window that a climb finds.
use mathlib.Core.Path.{◌≡◌, refl, sym, ap, ap₂, subst, ◌∙◌}
use mathlib.Core.Bool.{true, false, true≢false}
use mathlib.Core.Logic.{◌≢◌}
use mathlib.Core.Option.{none}
use Rattle.std.specs.Prelude.{Option, None, Some, Result, Ok, Err}
use mathlib.Core.List.{List, [], Memᴰ as Mem}
use Prim.Native.Nat.{ℕ, ◌+◌, ◌-◌, ◌^◌, ◌≤◌, ◌<◌}
use native.Mathlib.Omega.{arith}
use lib.Dec.{T}
use lib.ListN.{length, get_or, set}
use borrow.Author.Tests.{lt-ltb, le-ltb}
use Rattle.slots.specs.Segments.{Segments, keys, segments_of}
use Rattle.slots.specs.Keys.{member, above, cut, predecessor, segment_of}
use Rattle.levels.specs.Tables.{table_of}
use Rattle.slots.proofs.Keys.{member→mem, segment-mem}
use Rattle.slots.proofs.Seats.{seat-live}
use Rattle.slots.proofs.ByPlace.{above-old, place-old}
use Rattle.forecast.specs.declared.Forecast.{Forecast}
use Rattle.rules.specs.declared.Refusal.{Refusal}
use Rattle.rules.specs.declared.Refusal.TheVariants.{KeyZero, KeyAbsent}
use Rattle.rules.specs.declared.Request.{Request}
use Rattle.rules.specs.declared.Request.TheVariants.{Delete}
use Rattle.rules.specs.Shares.{Shares}
use Rattle.rules.specs.Placing.{Room, cut_from, delete_level}
use Rattle.rules.specs.Calls.{room_of}
use Rattle.demands.proofs.Sharing.Climb.{climb_is}
use Rattle.demands.proofs.Sweeping.SweptWindow.{length-cut-in}
use Rattle.demands.proofs.Requests.OutcomeCases.{outcome-delete-zero, outcome-delete-absent, delete-stays, delete-swept}
use Rattle.shares.specs.declared.Shape.{Shape}
use Rattle.shares.specs.Rows.{shares_at}
use Rattle.seeking.specs.declared.Spot.{Spot}
use Rattle.seats.specs.Bounds.{Indexed}
use Rattle.seeking.specs.Spots.{Spotted}
use Rattle.climbs.specs.declared.Climb.{Climb}
use Rattle.climbs.specs.Climbs.{Climbed}
use Rattle.aims.specs.declared.Aim.{Aim}
use Rattle.aims.specs.Aims.{Stands, level_at, Aimed}
use Rattle.aims.proofs.Standing.{shows-stands, segments-stand, right-stands}
use Rattle.aims.proofs.Places.{place-held, place_at, place-rising}
use Rattle.aims.proofs.Answers.{level-some, aimed-refused, aimed-accepted, key_aim}

module _ {slots : List ℕ} {F : Forecast} {k : Shape} {n : ℕ} (s : Stands slots F k n) where
  abbrev ss : Segments
  ss = segments_of slots

  abbrev S : Shares
  S = shares_at k

  abbrev R : Room
  R = room_of slots F

  abbrev Comes : Request → Result Aim Refusal → Type 0
  Comes q r = Aimed S q R r

  -- key 0
  pub out-zero : {y : ℕ} → y ≡ 0 → Comes (Delete y) (Err KeyZero)
  out-zero {y} e = aimed-refused S (Delete y) R KeyZero (outcome-delete-zero S y R e)

  module _ {y : ℕ} (z : y ≢ 0) {p : Spot} (found : Spotted y ss slots p) where
    -- a key that is not there
    pub out-absent : p.place.present ≡ false → Comes (Delete y) (Err KeyAbsent)
    out-absent t =
        let m : member y (keys ss) ≡ false = sym found.place.present ∙ t in
        aimed-refused S (Delete y) R KeyAbsent (outcome-delete-absent S y R z (rw m tt))

    module _ (t : p.place.present ≡ true) where
      -- the key is live
      live : T (member y (keys ss))
      live = let m : member y (keys ss) ≡ true = sym found.place.present ∙ t in rw m tt

      mem : Mem y (keys ss)
      mem = member→mem y (keys ss) live

      -- the place is in its segment
      at-seat : p.place.segment ≡ segment_of ss y
      at-seat = found.place.segment ∙ seat-live y ss live

      mem-there : Mem y (get_or ss p.place.segment [])
      mem-there = rw at-seat (segment-mem ss y ((shows-stands s).listed.live y mem) mem).1

      pub out-under : p.place.at < p.place.held
      out-under =
          omega (
            arith,
            place-held s found.place,
            place_at s found.place,
            place-old y (get_or ss p.place.segment []) (place-rising s found.place) mem-there,
          )

      -- which has one key less without it
      shorter : length (cut y (get_or ss (segment_of ss y) [])) ≡ p.place.held - 1
      shorter =
          let there : p.place.held ≡ length (get_or ss (segment_of ss y) []) =
          place-held s found.place ∙ ap (λ (j : ℕ). length (get_or ss j [])) at-seat in
          omega (arith, there, length-cut-in y ss (shows-stands s).listed mem)

      -- a delete tells no key before its own
      no-before : false ≡ true → 0 ≡ predecessor y ss
      no-before w = absurd (true≢false (sym w))

      -- NO WINDOW: the keys above move
      above-there : length (above y (get_or ss (segment_of ss y) [])) ≡ p.place.held - p.place.at - 1
      above-there =
          ap (λ (j : ℕ). length (above y (get_or ss j []))) (sym at-seat)
          ∙ above-old y (get_or ss p.place.segment []) (place-rising s found.place) mem-there
          ∙ ap₂ (λ (a b : ℕ). a - b - 1) (sym (place-held s found.place)) (sym (place_at s found.place))

      pub out-shifted : delete_level S y ss ≡ none → Comes (Delete y) (Ok (key_aim false y 0 p 0 (p.place.held - p.place.at - 1)))
      out-shifted u = aimed-accepted s found false 0 0 _ (delete-stays S y R z live u) refl (sym above-there) at-seat no-before u

      -- where its segment keeps its low share
      pub out-keeps : k.low < p.place.held → delete_level S y ss ≡ none
      unfolding delete_level
      out-keeps h = rw (le-ltb (length (cut y (get_or ss (segment_of ss y) []))) (S.low 0) (omega (arith, shorter, s.shape.low))) refl

      -- WHAT A CLIMB FINDS, where it does not
      module _ (few : p.place.held ≤ k.low) {bounds table : List ℕ} (index : Indexed ss slots bounds table) (r : Option Climb)
          (climbed : (ts : Segments) (new : List ℕ) → length ts ≡ 2 ^ k.height → table ≡ table_of k.height ts → length new + 1 ≡ length (get_or ts p.place.segment []) + 0
          → Climbed (shares_at k) p.place.segment (set ts p.place.segment new) r) where
        under : length (cut y (get_or ss (segment_of ss y) [])) < S.low 0
        under = omega (arith, shorter, out-under, s.shape.low)

        known : Climbed (shares_at k) (segment_of ss y) (cut_from y ss) r
        known =
            subst (λ (j : ℕ). (new : List ℕ) → length new + 1 ≡ length (get_or ss j []) + 0 → Climbed (shares_at k) j (set ss j new) r) at-seat
            (λ new e. climbed ss new (segments-stand s) (right-stands s index) e)
            (cut y (get_or ss (segment_of ss y) [])) (omega (arith, length-cut-in y ss (shows-stands s).listed mem))

        -- no window
        pub out-unswept : r ≡ None → delete_level S y ss ≡ none
        unfolding delete_level
        out-unswept e =
            rw (lt-ltb (length (cut y (get_or ss (segment_of ss y) []))) (S.low 0) under)
            (subst (λ (o : Option Climb). Climbed S (segment_of ss y) (cut_from y ss) o) e known)

        -- a window: its keys
        module _ {c : Climb} (e : r ≡ Some c) where
          taken : Climbed S (segment_of ss y) (cut_from y ss) (Some c)
          taken = subst (λ (o : Option Climb). Climbed S (segment_of ss y) (cut_from y ss) o) e known

          swept-level : delete_level S y ss ≡ level_at c.level
          unfolding delete_level
          swept-level =
              rw (lt-ltb (length (cut y (get_or ss (segment_of ss y) []))) (S.low 0) under)
              (taken.0 ∙ level-some c.level (((climb_is S (segment_of ss y) (cut_from y ss)).0 c.level).0 taken.0).from)

          pub out-swept : Comes (Delete y) (Ok (key_aim false y 0 p c.level c.keys))
          out-swept = aimed-accepted s found false 0 c.level c.keys (delete-swept S y R z live c.level under taken.0) refl taken.1 at-seat no-before swept-level
