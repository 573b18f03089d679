-- What an insert comes to, by the tests of the code: each refusal, a segment with room, and the window that a climb finds.
use mathlib.Core.Path.{◌≡◌, refl, sym, ap, ap₂, subst, ◌∙◌}
use mathlib.Core.Bool.{true, false, not}
use mathlib.Core.Logic.{◌≢◌}
use mathlib.Core.Option.{some}
use Rattle.std.specs.Prelude.{Option, None, Some, Result, Ok, Err}
use mathlib.Core.List.{List, []}
use Prim.Native.Nat.{ℕ, ◌+◌, ◌-◌, ◌^◌, ◌≤◌, ◌<◌}
use native.Mathlib.Omega.{arith}
use lib.Dec.{T}
use lib.ListN.{length, get_or, set}
use borrow.Author.Tests.{lt-ltb}
use Rattle.slots.specs.Segments.{Segments, keys, segments_of}
use Rattle.slots.specs.Keys.{member, above, put}
use Rattle.levels.specs.Tables.{table_of}
use Rattle.slots.proofs.Rising.{length-put}
use Rattle.slots.proofs.Keys.{not-member, in-part}
use Rattle.slots.proofs.Seats.{seat-free, seat-member}
use Rattle.slots.proofs.ByPlace.{above_new}
use Rattle.forecast.specs.declared.Forecast.{Forecast}
use Rattle.rules.specs.declared.Refusal.{Refusal}
use Rattle.rules.specs.declared.Refusal.TheVariants.{KeyZero, KeyPresent, Full}
use Rattle.rules.specs.declared.Request.{Request}
use Rattle.rules.specs.declared.Request.TheVariants.{Insert}
use Rattle.rules.specs.Shares.{Shares, capacity}
use Rattle.rules.specs.Placing.{Room, home, put_in, chosen, insert_level}
use Rattle.rules.specs.Readings.{Smallest}
use Rattle.rules.specs.Calls.{room_of}
use Rattle.demands.proofs.Sharing.Climb.{climb_is}
use Rattle.demands.proofs.Sweeping.Sizes.{insert-always-finds}
use Rattle.demands.proofs.Requests.OutcomeCases.{outcome-insert-zero, outcome-insert-present, outcome-insert-full, insert-shifted, insert-swept}
use Rattle.shares.specs.declared.Shape.{Shape}
use Rattle.shares.specs.Rows.{shares_at}
use Rattle.seeking.specs.declared.Spot.{Spot}
use Rattle.seats.specs.Bounds.{Indexed}
use Rattle.seeking.specs.Spots.{Spotted}
use Rattle.climbs.specs.declared.Climb.{Climb}
use Rattle.climbs.specs.Climbs.{Climbed}
use Rattle.aims.specs.declared.Aim.{Aim}
use Rattle.aims.specs.Aims.{Stands, Aimed}
use Rattle.aims.proofs.Standing.{lawful-stands, good-stands, shows-stands, segments-stand, keys-stand, right-stands}
use Rattle.aims.proofs.Places.{some-segments, place_in, place-held, place_at, place-rising}
use Rattle.aims.proofs.Answers.{none-some, level-some, aimed-refused, aimed-accepted, key_aim}

module _ {slots : List ℕ} {F : Forecast} {k : Shape} {n : ℕ} (s : Stands slots F k n) where
  abbrev ss : Segments
  ss = segments_of slots

  abbrev S : Shares
  S = shares_at k

  abbrev R : Room
  R = room_of slots F

  abbrev Comes : Request → Result Aim Refusal → Type 0
  Comes q r = Aimed S q R r

  -- key 0
  pub in-zero : {y : ℕ} → y ≡ 0 → Comes (Insert y) (Err KeyZero)
  in-zero {y} e = aimed-refused S (Insert y) R KeyZero (outcome-insert-zero S y R e)

  module _ {y : ℕ} (z : y ≢ 0) {p : Spot} (found : Spotted y ss slots p) where
    -- a key that is there
    pub in-present : p.place.present ≡ true → Comes (Insert y) (Err KeyPresent)
    in-present t =
        let m : member y (keys ss) ≡ true = sym found.place.present ∙ t in
        aimed-refused S (Insert y) R KeyPresent (outcome-insert-present S y R z (rw m tt))

    module _ (t : p.place.present ≡ false) where
      -- the key is new
      fresh : T (not (member y (keys ss)))
      fresh = let m : member y (keys ss) ≡ false = sym found.place.present ∙ t in rw m tt

      -- a full list
      pub in-full : k.capacity ≤ n → Comes (Insert y) (Err Full)
      in-full c = aimed-refused S (Insert y) R Full (outcome-insert-full S y R z fresh (omega (arith, s.shape.capacity, keys-stand s)))

      module _ (c : n < k.capacity) where
        few : length (keys ss) < capacity S
        few = omega (arith, s.shape.capacity, keys-stand s)

        -- the place is the key's home
        at_home : p.place.segment ≡ home y ss
        at_home = found.place.segment ∙ seat-free y ss fresh

        there : p.place.held ≡ length (get_or ss (home y ss) [])
        there = place-held s found.place ∙ ap (λ (j : ℕ). length (get_or ss j [])) at_home

        -- A SEGMENT WITH ROOM: the keys above move, and the key
        above-there : length (above y (get_or ss (home y ss) [])) ≡ p.place.held - p.place.at
        above-there =
            let e : member y (get_or ss p.place.segment []) ≡ member y (keys ss) =
            ap (λ (j : ℕ). member y (get_or ss j [])) found.place.segment ∙ seat-member y ss (shows-stands s).listed (some-segments s) in
            ap (λ (j : ℕ). length (above y (get_or ss j []))) (sym at_home)
            ∙ above_new y (get_or ss p.place.segment []) (place-rising s found.place) (rw e fresh)
            ∙ ap₂ (λ (a b : ℕ). a - b) (sym (place-held s found.place)) (sym (place_at s found.place))

        pub in-shifted : p.place.held < k.high → Comes (Insert y) (Ok (key_aim true y p.before p 0 (p.place.held - p.place.at + 1)))
        unfolding insert_level
        in-shifted room =
            let h : length (get_or ss (home y ss) []) < S.high 0 = omega (arith, there, s.shape.high) in
            aimed-accepted s found true p.before 0 _ (insert-shifted S y R z fresh few h) refl (ap (λ (m : ℕ). m + 1) (sym above-there))
            at_home (λ _. found.before fresh) (rw (lt-ltb _ _ h) refl)

        -- A FULL ONE: the keys of the window that a climb finds
        module _ (full : k.high ≤ p.place.held) {bounds table : List ℕ} (index : Indexed ss slots bounds table) (r : Option Climb)
            (climbed : (ts : Segments) (new : List ℕ) → length ts ≡ 2 ^ k.height → table ≡ table_of k.height ts → length new + 0 ≡ length (get_or ts p.place.segment []) + 1
            → Climbed (shares_at k) p.place.segment (set ts p.place.segment new) r) where
          known : Climbed (shares_at k) (home y ss) (put_in y ss) r
          known =
              subst (λ (j : ℕ). (new : List ℕ) → length new + 0 ≡ length (get_or ss j []) + 1 → Climbed (shares_at k) j (set ss j new) r) at_home
              (λ new e. climbed ss new (segments-stand s) (right-stands s index) e)
              (put y (get_or ss (home y ss) []))
              (omega (arith, length-put y (get_or ss (home y ss) []) (λ j m. not-member y (keys ss) fresh j (in-part ss (home y ss) (omega (arith, at_home, place_in s found.place)) j m))))

          at_high : S.high 0 ≤ length (get_or ss (home y ss) [])
          at_high = omega (arith, there, s.shape.high)

          -- there is one
          window : (l : ℕ) × (insert_level S y ss ≡ some l) × Smallest S (home y ss) (put_in y ss) l
          window = insert-always-finds S (lawful-stands s) y ss (good-stands s).proper (omega (arith, z)) (not-member y (keys ss) fresh) few at_high

          taken : chosen S (home y ss) (put_in y ss) ≡ some window.0
          taken = ((climb_is S (home y ss) (put_in y ss)).0 window.0).1 window.2

          -- the climb finds one
          pub in-some : r ≡ None → ⊥
          in-some e = none-some (sym (subst (λ (o : Option Climb). Climbed S (home y ss) (put_in y ss) o) e known) ∙ taken)

          -- this one
          pub in-swept : {c : Climb} → r ≡ Some c → Comes (Insert y) (Ok (key_aim true y p.before p c.level c.keys))
          in-swept {c = c} is =
              let here : Climbed S (home y ss) (put_in y ss) (Some c) = subst (λ (o : Option Climb). Climbed S (home y ss) (put_in y ss) o) is known in
              let same : some c.level ≡ some window.0 = sym here.0 ∙ taken in
              let level : c.level ≡ window.0 = cc in
              let low : 1 ≤ c.level = omega (arith, window.2.from) in
              aimed-accepted s found true p.before c.level c.keys (insert-swept S y R z fresh few c.level at_high here.0) refl here.1
              at_home (λ _. found.before fresh) (window.1 ∙ sym same ∙ level-some c.level low)
