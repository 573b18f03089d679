-- The place of a key in the segment where a search for it ends, from the last slot that holds a key up to it.
use Rattle.std.proofs.Common.{◌≡◌, ℕ, ◌+◌, ◌-◌, ◌*◌, ◌<◌, ◌≤◌, Bool, true, false, not, T, eqb, ltb, ◌≢◌, ◌⊎◌, List, [], length, get_or, sym, refl, ap, ◌∙◌, subst, inl, inr, ne_of_gt, ne_of_lt, arith, ltb→lt, lt→ltb, T_not, le-ltb, lt-ltb, eq-eqb, ne_eqb, if◌then◌else◌}
use native.Mathlib.Decide.{dec_lt}
use lib.ListN.{get_or-eq_default}
use Rattle.lists.proofs.Members.{at_mem}
use Rattle.lists.proofs.Filtered.{only-length}
use Rattle.slots.specs.Segments.{Segments, keys}
use Rattle.slots.specs.Keys.{Rising, member, below}
use Rattle.slots.specs.Orders.{slot_at}
use Rattle.slots.specs.Shown.{seat}
use Rattle.slots.proofs.Keys.{in-part, rising_part}
use Rattle.slots.proofs.Render.{slot-render}
use Rattle.slots.proofs.Halving.{rising-at, below-place, past-below, found, not_found}
use Rattle.slots.proofs.Seats.{seat-between, seat-member, pred-at}
use Rattle.seats.specs.Bounds.{top, Indexed}
use Rattle.seats.proofs.Indexes.{some-segments, slots-long, table-holds, counts-held}
use Rattle.seats.specs.Halves.{halved, Last}
use Rattle.seeking.specs.Spots.{less_one, key_up_to, place_at, before_at, Spotted}
use Rattle.seats.proofs.Halves.{halved-last}

-- A RISING LIST
module _ (y : ℕ) (xs : List ℕ) (rises : Rising xs) where
  -- y is not in it, and at is its place
  pub free-place : (at : ℕ) → at ≤ length xs → (0 < at → get_or xs (at - 1) 0 < y) → (at < length xs → y < get_or xs at 0)
      → (at ≡ length (below y xs)) × (false ≡ member y xs)
  free-place at h lo hi = (place, absent)
    where
      least : at ≤ length (below y xs)
      least = elim (dec_lt 0 at) [ yes p ↦ omega (arith, below-place y xs rises (at - 1) (omega arith) (lo p)) | no p ↦ omega arith ]

      most : length (below y xs) ≤ at
      most =
          elim (dec_lt at (length xs)) [
            | yes p ↦ past-below y xs rises at (omega (arith, hi p))
            | no p ↦ omega (arith, only-length (λ k. ltb k y) xs)
          ]

      place : at ≡ length (below y xs)
      place = omega (arith, least, most)

      absent : false ≡ member y xs
      absent =
          elim (dec_lt at (length xs)) [
            | yes p ↦
                sym (ne_eqb (get_or xs at 0) y (ne_of_gt (hi p))) ∙ ap (λ (k : ℕ). eqb (get_or xs k 0) y) place
                ∙ found y xs rises (omega (arith, place))
            | no p ↦ not_found y xs rises (omega (arith, place))
          ]

  -- it is there, at place i
  pub live-place : (i : ℕ) → i < length xs → get_or xs i 0 ≡ y → (i ≡ length (below y xs)) × (true ≡ member y xs)
  live-place i h e = (place, sym (eq-eqb (get_or xs i 0) y e) ∙ ap (λ (k : ℕ). eqb (get_or xs k 0) y) place ∙ found y xs rises (omega (arith, place)))
    where
      least : i ≤ length (below y xs)
      least =
          elim (dec_lt 0 i) [
            | yes p ↦ omega (arith, below-place y xs rises (i - 1) (omega arith) (omega (arith, rising-at xs rises (i - 1) i (omega arith) h)))
            | no p ↦ omega arith
          ]

      place : i ≡ length (below y xs)
      place = omega (arith, least, past-below y xs rises i (omega arith))

-- A SLOT
less-below : (x key : ℕ) → key ≤ top → less_one x < key → (x ≢ 0) × (x ≤ key)
less-below x key h =
    elim (dec_lt 0 x) [
      | yes p ↦ rw (ne_eqb x 0 (ne_of_gt p)) (λ l. (ne_of_gt p, omega arith))
      | no p ↦ rw (eq-eqb x 0 (omega arith)) (λ l. absurd (omega arith))
    ]

below_less : (x key : ℕ) → 0 < x → x ≤ key → less_one x < key
below_less x key p h = rw (ne_eqb x 0 (ne_of_gt p)) (omega arith)

-- THE SEGMENT is in the list
pub seat-room : (key : ℕ) (ss : Segments) (list bounds table : List ℕ) → Indexed ss list bounds table → (s : ℕ) → s ≡ seat key ss → 64 * s + 64 ≤ length list
seat-room key ss list bounds table ix s e =
    let h : s < length ss = rw e (seat-between key ss ix.shows.listed (some-segments ix)).0 in
    omega (arith, slots-long ix)

-- and in the table
pub seat-counted : (key : ℕ) (ss : Segments) (list bounds table : List ℕ) → Indexed ss list bounds table → (s : ℕ) → s ≡ seat key ss → s < length table
seat-counted key ss list bounds table ix s e = let h : s < length ss = rw e (seat-between key ss ix.shows.listed (some-segments ix)).0 in omega (arith, table-holds ix)

module _
    (key : ℕ) (ss : Segments) (list bounds table : List ℕ) (ix : Indexed ss list bounds table) (fits : key ≤ top) (s held q : ℕ) (se : s ≡ seat key ss)
    (he : held ≡ get_or table s 0) (qe : q ≡ halved (key_up_to list key) (64 * s))
  where
    abbrev there : List ℕ
    there = get_or ss s []

    abbrev t : ℕ → Bool
    t = key_up_to list key

    inside : s < length ss
    inside = rw se (seat-between key ss ix.shows.listed (some-segments ix)).0

    small : length there ≤ 64
    small = ix.shows.fits there (at_mem ss s [] inside)

    rises : Rising there
    rises = rising_part ss s inside ix.shows.listed.rising

    live : (b : ℕ) → b < length there → 0 < get_or there b 0
    live b h = ix.shows.listed.live (get_or there b 0) (in-part ss s inside (get_or there b 0) (at_mem there b 0 h))

    slot : (b : ℕ) → b < 64 → slot_at list (64 * s + b) ≡ get_or there b 0
    slot b h = ap (λ (l : List ℕ). slot_at l (64 * s + b)) ix.shows.whole ∙ slot-render 0 ss ix.shows.fits s b h

    -- which slots pass
    low : (b : ℕ) → b < 64 → T (t (64 * s + b)) → (b < length there) × (get_or there b 0 ≤ key)
    low b h p =
        let x = less-below (get_or there b 0) key fits (rw (slot b h) at (ltb→lt (less_one (slot_at list (64 * s + b))) key p)) in
        (elim (dec_lt b (length there)) [ yes l ↦ l | no l ↦ absurd (x.0 (get_or-eq_default there 0 (omega arith))) ], x.1)

    pass : (b : ℕ) → b < length there → get_or there b 0 ≤ key → T (t (64 * s + b))
    pass b h l = lt→ltb (less_one (slot_at list (64 * s + b))) key (rw (slot b (omega (arith, small))) (below_less (get_or there b 0) key (live b h) l))

    stop : (b : ℕ) → b < length there → T (not (t (64 * s + b))) → key < get_or there b 0
    stop b h n = elim (dec_lt key (get_or there b 0)) [ yes l ↦ l | no l ↦ absurd (T_not (t (64 * s + b)) n (pass b h (omega arith))) ]

    falls : (i j : ℕ) → i ≤ j → j < 64 → T (t (64 * s + j)) → T (t (64 * s + i))
    falls i j l h p =
        let x = low j h p in
        pass i (omega (arith, x.0))
        (elim (dec_lt i j) [ yes m ↦ omega (arith, rising-at there rises i j m x.0, x.1) | no m ↦ let e : j ≡ i = omega arith in subst (λ (k : ℕ). get_or there k 0 ≤ key) e x.1 ])

    last : Last t (64 * s) q
    last =
        rw qe
        (halved-last t (64 * s) (λ i j l m n p. let u : 64 * s + (i - 64 * s) ≡ i = omega arith in let v : 64 * s + (j - 64 * s) ≡ j = omega arith in
        subst (λ (k : ℕ). T (t k)) u (falls (i - 64 * s) (j - 64 * s) (omega arith) (omega arith) (subst (λ (k : ℕ). T (t k)) (sym v) p))))

    i : ℕ
    i = q - 64 * s

    at_i : 64 * s + i ≡ q
    unfolding i
    at_i = omega (arith, last.from)

    -- what is told of the key, and the key before it
    spotted : (at : ℕ) (b : Bool) (x : ℕ) → (at ≡ length (below key there)) × (b ≡ member key there) → (T (not b) → (if eqb at 0 then 0 else get_or there (at - 1) 0) ≡ x)
        → Spotted key ss list (record { place = record { segment = s; held = held; at = at; present = b }; before = x })
    spotted at b x p f =
        record {
          room = seat-room key ss list bounds table ix s se;
          order = omega (arith, h, p.0, only-length (λ k. ltb k key) there);
          few = omega (arith, h, small);
          place = record { segment = se; held = h ∙ ap (λ (k : ℕ). length (get_or ss k [])) se; at = a; present = m };
          before = λ n. sym (pred-at key ss ix.shows.listed (some-segments ix) n ∙ w ∙ f (subst (λ (z : Bool). T (not z)) (sym m) n));
        }
      where
        h : held ≡ length there
        h = he ∙ counts-held ix s inside

        a : at ≡ length (below key (get_or ss (seat key ss) []))
        a = p.0 ∙ ap (λ (k : ℕ). length (below key (get_or ss k []))) se

        m : b ≡ member key (keys ss)
        m = p.1 ∙ ap (λ (k : ℕ). member key (get_or ss k [])) se ∙ seat-member key ss ix.shows.listed (some-segments ix)

        w : (if eqb (length (below key (get_or ss (seat key ss) []))) 0 then 0 else get_or (get_or ss (seat key ss) []) (length (below key (get_or ss (seat key ss) [])) - 1) 0)
            ≡ (if eqb at 0 then 0 else get_or there (at - 1) 0)
        w = rw (← a, ← se) refl

    -- the slot there passes
    there-low : less_one (slot_at list q) < key → (i < length there) × (get_or there i 0 ≤ key) × (slot_at list q ≡ get_or there i 0)
    there-low l =
        let h : i < 64 = omega (arith, at_i, last.to) in
        let e : slot_at list q ≡ get_or there i 0 = ap (slot_at list) (sym at_i) ∙ slot i h in
        let x = less-below (get_or there i 0) key fits (rw e at l) in
        ((low i h (subst (λ (k : ℕ). T (t k)) (sym at_i) (lt→ltb (less_one (slot_at list q)) key l))).0, x.1, e)

    -- no key up to this one
    pub spot-front : key ≤ less_one (slot_at list q) → Spotted key ss list (record { place = record { segment = s; held = held; at = 0; present = false }; before = 0 })
    spot-front l = spotted 0 false 0 (free-place key there rises 0 (omega arith) (λ p. absurd (omega arith)) (λ p. over p last.low)) (λ n. refl)
      where
        first : q ≡ 64 * s → (0 < length there) → key < get_or there 0 0
        first e p = elim (dec_lt key (get_or there 0 0)) [
          | yes m ↦ m
          | no m ↦
              let e0 : q ≡ 64 * s + 0 = omega arith in
              absurd (omega (arith, ltb→lt (less_one (slot_at list q)) key (subst (λ (k : ℕ). T (t k)) (sym e0) (pass 0 p (omega arith)))))
        ]

        over : 0 < length there → (q ≡ 64 * s) ⊎ T (t q) → key < get_or there 0 0
        over p (inl e) = first e p
        over p (inr u) = absurd (omega (arith, ltb→lt (less_one (slot_at list q)) key u))

    -- the key itself
    pub spot-live : less_one (slot_at list q) < key → slot_at list q ≡ key → Spotted key ss list (record { place = record { segment = s; held = held; at = q - 64 * s; present = true }; before = slot_at list q })
    unfolding i
    spot-live l e = let x = there-low l in spotted i true (slot_at list q) (live-place key there rises i x.0 (sym x.2 ∙ e)) (λ n. absurd n)

    -- a key below it
    pub spot_past : less_one (slot_at list q) < key → slot_at list q ≢ key
        → Spotted key ss list (record { place = record { segment = s; held = held; at = q - 64 * s + 1; present = false }; before = slot_at list q })
    unfolding i
    spot_past l n =
        let x = there-low l in
        let d : i + 1 - 1 ≡ i = omega arith in
        spotted (i + 1) false (slot_at list q)
        (free-place key there rises (i + 1) (omega (arith, x.0)) (λ p. rw d (omega (arith, x.1, x.2, n)))
        (λ p. stop (i + 1) p (last.high (64 * s + (i + 1)) (omega (arith, at_i)) (omega (arith, small)))))
        (λ _. rw (ne_eqb (i + 1) 0 (omega arith), d) (sym x.2))

    -- the three at once, as one slot tells
    made : (at at₀ x x₀ : ℕ) (b b₀ : Bool) → at ≡ at₀ → b ≡ b₀ → x ≡ x₀ → Spotted key ss list (record { place = record { segment = s; held = held; at = at₀; present = b₀ }; before = x₀ })
        → Spotted key ss list (record { place = record { segment = s; held = held; at = at; present = b }; before = x })
    made at at₀ x x₀ b b₀ p r u w =
        subst (λ (k : ℕ). Spotted key ss list (record { place = record { segment = s; held = held; at = k; present = b }; before = x })) (sym p)
        (subst (λ (k : Bool). Spotted key ss list (record { place = record { segment = s; held = held; at = at₀; present = k }; before = x })) (sym r)
        (subst (λ (k : ℕ). Spotted key ss list (record { place = record { segment = s; held = held; at = at₀; present = b₀ }; before = k })) (sym u) w))

    pub spot_is : (at x : ℕ) → 0 < key → at ≡ place_at (q - 64 * s) (slot_at list q) key → x ≡ before_at (slot_at list q) key
        → Spotted key ss list (record { place = record { segment = s; held = held; at = at; present = eqb (slot_at list q) key }; before = x })
    spot_is at x h p u =
        elim (dec_lt (less_one f) key) [
          | yes l ↦
              elim (dec_lt f key) [
                | yes k ↦
                    made at (q - 64 * s + 1) x f (eqb f key) false (p ∙ rw (lt-ltb (less_one f) key l, lt-ltb f key k) refl) (ne_eqb f key (ne_of_lt k)) (u ∙ rw (lt-ltb (less_one f) key l) refl)
                    (spot_past l (ne_of_lt k))
                | no k ↦
                    let e : f ≡ key = omega (arith, (less-below f key fits l).1) in
                    made at (q - 64 * s) x f (eqb f key) true (p ∙ rw (lt-ltb (less_one f) key l, le-ltb f key (omega arith)) refl) (eq-eqb f key e) (u ∙ rw (lt-ltb (less_one f) key l) refl)
                    (spot-live l e)
              ]
          | no l ↦
              let o : key ≤ less_one f = omega arith in
              made at 0 x 0 (eqb f key) false (p ∙ rw (le-ltb (less_one f) key o) (first last.low o)) (ne_eqb f key (λ e. other e o)) (u ∙ rw (le-ltb (less_one f) key o) refl) (spot-front o)
        ]
      where
        f : ℕ
        f = slot_at list q

        first : (q ≡ 64 * s) ⊎ T (t q) → key ≤ less_one (slot_at list q) → q - 64 * s ≡ 0
        first (inl e) o = omega arith
        first (inr v) o = absurd (omega (arith, ltb→lt (less_one (slot_at list q)) key v))

        other : slot_at list q ≡ key → key ≤ less_one (slot_at list q) → ⊥
        other e o = let b : less_one (slot_at list q) < key = below_less (slot_at list q) key (omega arith) (omega arith) in omega arith
