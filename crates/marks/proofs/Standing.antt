-- Where a marker will stand: how many keys of a window are below it, and what the request does to that number.
use Rattle.std.proofs.Common.{◌≡◌, ℕ, ◌+◌, ◌-◌, ◌*◌, ◌<◌, ◌≤◌, Bool, true, false, not, T, ltb, ◌≢◌, ◌⊎◌, List, [], ◌∷◌, length, get_or, take, drop, sym, refl, ap, ◌∙◌, inl, inr, arith, length-append, le-ltb, lt-ltb, if◌then◌else◌}
use mathlib.Core.List.{Memᴰ as Mem}
use lib.Dec.{not_T}
use Rattle.lists.specs.Lists.{All, total}
use Rattle.lists.proofs.Tests.{tested, is_true, is_false}
use Rattle.lists.proofs.Filtered.{only-append}
use Rattle.lists.proofs.Fill.{take-padded-all}
use Rattle.slots.specs.Segments.{Segments, keys}
use Rattle.slots.specs.Keys.{Rising, member, below, above, put, cut}
use Rattle.slots.proofs.Keys.{member→mem, mem→member, not-member, segment-mem, rising_part, key-between}
use Rattle.slots.proofs.Within.{keys-within, rising-within, key-within, below-within, segment-within}
use Rattle.slots.proofs.ByPlace.{cut-new, put-old}
use Rattle.slots.proofs.Rising.{put-rising, cut-rising, put-mem, cut-mem, mem-put, mem-cut}
use Rattle.slots.proofs.Tallies.{shown-within, shown-part, sum-within}
use Rattle.cells.specs.declared.Cell.{Cell}
use Rattle.marks.specs.declared.Window.{Window}
use Rattle.marks.specs.Marking.{part, after, Asked, Aims}

-- HOW MANY KEYS ARE BELOW x, with y put in and taken out
module _ (x y : ℕ) (ks : List ℕ) (r : Rising ks) where
  with_it : length (below x (put y ks)) ≡ (if ltb y x then 1 else 0) + length (below x (cut y ks))
  with_it =
      omega (
        arith,
        ap length (only-append (λ k. ltb k x) (below y ks) (y ∷ above y ks)),
        length-append (below x (below y ks)) (below x (y ∷ above y ks)),
        one (ltb y x),
        ap length (only-append (λ k. ltb k x) (below y ks) (above y ks)),
        length-append (below x (below y ks)) (below x (above y ks)),
      )
    where
      one : (b : Bool) → length (if b then y ∷ below x (above y ks) else below x (above y ks)) ≡ (if b then 1 else 0) + length (below x (above y ks))
      one true = omega arith
      one false = omega arith

  below_put : All (λ k. k ≢ y) ks → length (below x (put y ks)) ≡ (if ltb y x then 1 else 0) + length (below x ks)
  below_put n = with_it ∙ ap (λ (js : List ℕ). (if ltb y x then 1 else 0) + length (below x js)) (cut-new y ks r n)

  below-cut : Mem y ks → (if ltb y x then 1 else 0) + length (below x (cut y ks)) ≡ length (below x ks)
  below-cut m = sym with_it ∙ ap (λ (js : List ℕ). length (below x js)) (put-old y ks r m)

-- THE REQUEST DONE
module _ (w : Window) (ss : Segments) where
  pub after-put : T w.grows → after w ss ≡ put w.key (keys (part w ss))
  unfolding after
  after-put t = rw (is_true w.grows t) refl

  pub after-cut : T (not w.grows) → after w ss ≡ cut w.key (keys (part w ss))
  unfolding after
  after-cut t = rw (is_false w.grows t) refl

module _ (slots counts : List ℕ) (w : Window) (ss : Segments) (q : Asked slots counts w ss) where
  rises-now : Rising (keys (part w ss))
  rises-now = rising-within w.first w.n ss q.shows.listed.rising

  -- a key that is put in is none of the window's
  fresh : T w.grows → All (λ k. k ≢ w.key) (keys (part w ss))
  fresh t k m = not-member w.key (keys ss) (q.put_in t).1 k (keys-within w.first w.n ss k m)

  pub rises-after : Rising (after w ss)
  rises-after = elim (tested w.grows) [
    | inl t ↦ rw (after-put w ss t) (put-rising w.key (keys (part w ss)) rises-now)
    | inr t ↦ rw (after-cut w ss t) (cut-rising w.key (keys (part w ss)) rises-now)
  ]

  -- THE PLACE of a key x of segment s, of which b are counted before the segment and p below it there
  module _
      (room : 64 * (w.first + w.n) ≤ length slots) (long : w.first + w.n ≤ length counts) (s x b p : ℕ) (from : w.first ≤ s) (to : s < w.first + w.n) (m : Mem x (get_or ss s []))
      (before : b ≡ total (take (s - w.first) (drop w.first counts)))
      (at : Rising (take (get_or counts s 0) (take (64 * s + 64 - 64 * s) (drop (64 * s) slots))) → p ≡ length (below x (take (get_or counts s 0) (take (64 * s + 64 - 64 * s) (drop (64 * s) slots)))))
    where
      room_at : 64 * s + 64 ≤ length slots
      room_at = omega arith

      in_list : s < length ss
      in_list = shown-within ss slots q.shows s room_at

      keys-there : take (get_or counts s 0) (take (64 * s + 64 - 64 * s) (drop (64 * s) slots)) ≡ get_or ss s []
      keys-there = rw (q.counted s in_list, shown-part ss slots q.shows s room_at) (take-padded-all 64 0 (get_or ss s []))

      at_there : p ≡ length (below x (get_or ss s []))
      at_there = (rw keys-there at at) (rising_part ss s in_list q.shows.listed.rising)

      now-at : b + p ≡ length (below x (keys (part w ss)))
      now-at =
          omega (
            arith,
            before,
            at_there,
            sum-within ss counts q.counted w.first (s - w.first) (omega (arith, in_list)) (omega arith),
            below-within w.first w.n ss s from to x (key-between ss s x q.shows.listed.rising in_list m),
          )

      put-there : T w.grows → length (below x (after w ss)) ≡ (if ltb w.key x then 1 else 0) + (b + p)
      put-there t = rw (after-put w ss t) (omega (arith, now-at, below_put x w.key (keys (part w ss)) rises-now (fresh t)))

      cut-there : T (not w.grows) → (if ltb w.key x then 1 else 0) + length (below x (after w ss)) ≡ b + p
      cut-there t =
          rw (after-cut w ss t) (omega (arith, now-at, below-cut x w.key (keys (part w ss)) rises-now (member→mem w.key (keys (part w ss)) (q.taken_out t))))

      -- one further on, or one less, for a key that stands before it
      pub place_same : x ≤ w.key → b + p ≡ length (below x (after w ss))
      place_same l = elim (tested w.grows) [
        | inl t ↦ omega (arith, (rw (le-ltb w.key x l) at (put-there t)))
        | inr t ↦ omega (arith, (rw (le-ltb w.key x l) at (cut-there t)))
      ]

      pub place-more : T w.grows → w.key < x → b + p + 1 ≡ length (below x (after w ss))
      place-more t l = omega (arith, (rw (lt-ltb w.key x l) at (put-there t)))

      pub place-less : T (not w.grows) → w.key < x → length (below x (after w ss)) + 1 ≡ b + p
      place-less t l = omega (arith, (rw (lt-ltb w.key x l) at (cut-there t)))

  -- A CELL'S MARKER: whether it is one of the keys then
  live-after : (k : ℕ) → Mem k (after w ss) → 0 < k
  live-after k m = elim (tested w.grows) [
    | inl t ↦ elim (put-mem w.key (keys (part w ss)) k (rw (after-put w ss t) at m)) [
      | inl e ↦ omega (arith, (q.put_in t).0)
      | inr i ↦ q.shows.listed.live k (keys-within w.first w.n ss k i)
    ]
    | inr t ↦ q.shows.listed.live k (keys-within w.first w.n ss k (cut-mem w.key (keys (part w ss)) k (rw (after-cut w ss t) at m)))
  ]

  pub front-none : (x : ℕ) → x ≡ 0 → T (not (member x (after w ss)))
  front-none x e = not_T (member x (after w ss)) (λ t. omega (arith, live-after x (member→mem x (after w ss) t)))

  module _ (c : Cell) (a : Aims w ss c) (n : c.marker ≢ 0) where
    was-live : Mem c.marker (keys ss)
    was-live = elim a.live [ inl e ↦ absurd (n e) | inr m ↦ m ]

    stood : (c.segment < length ss) × Mem c.marker (get_or ss c.segment [])
    stood = rw a.place (segment-mem ss c.marker (omega (arith, n)) was-live)

    -- a key of the window then was one before
    was-there : Mem c.marker (after w ss) → Mem c.marker (keys (part w ss))
    was-there m = elim (tested w.grows) [
      | inl t ↦ elim (put-mem w.key (keys (part w ss)) c.marker (rw (after-put w ss t) at m)) [
        | inl e ↦ absurd (not-member w.key (keys ss) (q.put_in t).1 c.marker was-live e)
        | inr i ↦ i
      ]
      | inr t ↦ cut-mem w.key (keys (part w ss)) c.marker (rw (after-cut w ss t) at m)
    ]

    pub outside-none : (c.segment < w.first) ⊎ (w.first + w.n ≤ c.segment) → T (not (member c.marker (after w ss)))
    outside-none o =
        not_T (member c.marker (after w ss))
        (λ t. elim o [
          | inl l ↦ omega (arith, a.place, segment-within w.first w.n ss q.shows.listed c.marker (was-there (member→mem c.marker (after w ss) t)))
          | inr l ↦ omega (arith, a.place, segment-within w.first w.n ss q.shows.listed c.marker (was-there (member→mem c.marker (after w ss) t)))
        ])

    pub stands-in : Mem c.marker (get_or ss c.segment [])
    stands-in = stood.1

    pub inside_one : w.first ≤ c.segment → c.segment < w.first + w.n → T (member c.marker (after w ss))
    inside_one l h =
        let m : Mem c.marker (keys (part w ss)) = key-within w.first w.n ss c.segment l h stood.0 c.marker stood.1 in
        mem→member c.marker (after w ss)
        (elim (tested w.grows) [
          | inl t ↦ rw (after-put w ss t) (mem-put w.key (keys (part w ss)) c.marker m)
          | inr t ↦ rw (after-cut w ss t) (mem-cut w.key (keys (part w ss)) c.marker m (a.other t))
        ])
