-- An accepted request that sweeps: the window lent with its plan is what a sweep asks for, and what comes back is the rules' outcome.
use mathlib.Core.Path.{◌≡◌, refl, sym, ap, ap₂, subst, ◌∙◌}
use mathlib.Core.Bool.{Bool, true, false, not}
use mathlib.Core.List.{List, [], map, Memᴰ as Mem}
use Prim.Native.Nat.{ℕ, ◌+◌, ◌-◌, ◌*◌, ◌/◌, ◌^◌, ◌≤◌, ◌<◌}
use native.Mathlib.Omega.{arith}
use lib.Dec.{T, not_T, ltb}
use lib.ListN.{length, take, drop, get_or, set, length-map, length-drop}
use lib.Seq.{length-take-le}
use borrow.Rule.Slice.PartMut.{put_mid}
use Rattle.lists.specs.Lists.{All, total, splice, deal}
use Rattle.lists.proofs.Joined.{length-joined, counts-deal, length-deal}
use Rattle.lists.proofs.Members.{at_mem}
use Rattle.lists.proofs.Filtered.{only-length}
use Rattle.slots.specs.Segments.{Segments, keys, segments_of, render}
use Rattle.slots.specs.Keys.{Listed, member, changed}
use Rattle.slots.specs.Windows.{start, window}
use Rattle.slots.specs.Shown.{Shows}
use Rattle.slots.proofs.Windows.{start-le, lt-end, start_fits}
use Rattle.slots.proofs.Keys.{not-member, member→mem, mem→member}
use Rattle.slots.proofs.Rising.{length-put, length_cut}
use Rattle.slots.proofs.Within.{keys-within, rising-within, key-within, changed-within, below-within}
use Rattle.slots.proofs.Tallies.{counts-within, sum-within}
use Rattle.slots.proofs.Render.{segments-render}
use Rattle.slots.proofs.Carried.{window-fits, window-lent, window-put}
use Rattle.cells.specs.declared.Cell.{Cell}
use Rattle.cells.specs.Cells.{weight}
use Rattle.forecast.specs.declared.Forecast.{Forecast}
use Rattle.rules.specs.Shares.{Shares}
use Rattle.rules.specs.SharingOut.{plan, share_out}
use Rattle.rules.specs.Placing.{Room, front_weight, sweep}
use Rattle.rules.specs.Readings.{Limits}
use Rattle.rules.specs.Calls.{room_of}
use Rattle.demands.proofs.Sharing.SharingOut.{length-plan, total-plan}
use Rattle.demands.proofs.Sweeping.SweptWindow.{splice-set}
use Rattle.demands.proofs.Requests.StaysGood.{Good, good-next}
use Rattle.shares.specs.declared.Shape.{Shape}
use Rattle.shares.specs.Rows.{shares_at}
use Rattle.levels.specs.Tables.{table_of}
use Rattle.seats.specs.Bounds.{Indexed, Bounded, Near}
use Rattle.seats.proofs.Indexes.{slots-long, table-holds, counts-held}
use Rattle.bounding.proofs.Kept.{Resown, indexed-swept}
use Rattle.sowing.specs.Sown.{Planted}
use Rattle.aims.specs.declared.Aim.{Aim}
use Rattle.records.specs.Asked.{asked}
use Rattle.aims.proofs.Standing.{height-stands, lawful-stands, good-stands, segments-stand}
use Rattle.sweeps.specs.Acts.{cells_for, outcome_of, Acting, plan_for, Planned, Left}
use Rattle.sweeps.proofs.SweptLevel.{Sweeps, acting-sweeps}
use Rattle.sweeps.proofs.SweptPlan.{plan-fits}

module _ {slots bounds table : List ℕ} {F : Forecast} {k : Shape} {r : Aim} (A : Acting slots F bounds table k r) (some : 1 ≤ r.level) where
  abbrev ss : Segments
  ss = segments_of slots

  abbrev S : Shares
  S = shares_at k

  abbrev R : Room
  R = room_of slots F

  abbrev l : ℕ
  l = r.level

  abbrev s : ℕ
  s = r.segment

  abbrev y : ℕ
  y = r.key

  abbrev g : Bool
  g = r.grows

  abbrev cs : List Cell
  cs = cells_for (shares_at k) r.grows r.key (room_of slots F)

  -- its segment, and the segments with the request done
  abbrev new : List ℕ
  new = changed r.grows r.key (get_or (segments_of slots) r.segment [])

  abbrev ms : Segments
  ms = set (segments_of slots) r.segment (changed r.grows r.key (get_or (segments_of slots) r.segment []))

  acts : Sweeps (shares_at k) (room_of slots F) r.grows r.key r.level r.segment
  acts = acting-sweeps A some

  pub level-low : r.level ≤ 6
  level-low = omega (arith, acts.small.to, (height-stands A.stands).1)

  many : length (segments_of slots) ≡ 2 ^ k.height
  many = segments-stand A.stands

  pub at-few : r.at ≤ 64
  at-few = omega (arith, A.accepts.at, only-length (λ j. ltb j y) (get_or ss s []), A.index.shows.fits (get_or ss s []) (at_mem ss s [] acts.between.0))

  -- THE WINDOW: n segments from f on
  module _ (n f : ℕ) (size : n ≡ 2 ^ r.level) (begins : f ≡ r.segment / n * n) where
    f-start : f ≡ start r.level r.segment
    f-start = begins ∙ ap (λ (j : ℕ). s / j * j) size

    pub from : f ≤ r.segment
    from = omega (arith, f-start, start-le l s)

    pub to : r.segment < f + n
    to = omega (arith, f-start, size, lt-end l s)

    pub ends : f + n ≤ length (segments_of slots)
    ends = omega (arith, f-start, size, many, start_fits l k.height s acts.small.to (omega (arith, many, acts.between.0)))

    pub slots_lent : 64 * f + 64 * n ≤ length slots
    slots_lent = omega (arith, slots-long A.index, ends)

    pub counts-lent : f + n ≤ length table
    counts-lent = omega (arith, ends, table-holds A.index)

    window-is : (zs : Segments) → window r.level r.segment zs ≡ take n (drop f zs)
    window-is zs = ap₂ (λ (i j : ℕ). take i (drop j zs)) (sym size) (sym f-start)

    abbrev part : Segments
    part = take n (drop f (segments_of slots))

    part-fits : All (λ x. length x ≤ 64) (take n (drop f (segments_of slots)))
    part-fits = window-fits ss f n A.index.shows.fits

    part-listed : Listed (take n (drop f (segments_of slots)))
    part-listed = record { rising = rising-within f n ss A.index.shows.listed.rising; live = λ j m. A.index.shows.listed.live j (keys-within f n ss j m) }

    part-long : length (take n (drop f (segments_of slots))) ≡ n
    part-long = length-take-le n (drop f ss) (omega (arith, ends, length-drop f ss))

    -- lent, its slots show its segments
    lent_is : take (64 * f + 64 * n - 64 * f) (drop (64 * f) slots) ≡ render 0 (take n (drop f (segments_of slots)))
    lent_is = window-lent 0 ss f n (64 * f) (64 * f + 64 * n) slots A.index.shows.fits A.index.shows.whole refl (omega arith)

    lent-segments : segments_of (take (64 * f + 64 * n - 64 * f) (drop (64 * f) slots)) ≡ take n (drop f (segments_of slots))
    lent-segments = ap segments_of lent_is ∙ segments-render part part-fits part-listed.live

    lent-shows : Shows (segments_of (take (64 * f + 64 * n - 64 * f) (drop (64 * f) slots))) (take (64 * f + 64 * n - 64 * f) (drop (64 * f) slots))
    lent-shows = record { whole = lent_is ∙ ap (render 0) (sym lent-segments); fits = rw lent-segments part-fits; listed = rw lent-segments part-listed }

    counts_are : take (f + n - f) (drop f table) ≡ map length (take n (drop f (segments_of slots)))
    counts_are =
        let e : f + n - f ≡ n = omega arith in
        ap (λ (j : ℕ). take j (drop f table)) e ∙ counts-within ss table (counts-held A.index) f n ends counts-lent

    counts-total : total (take (f + n - f) (drop f table)) ≡ length (keys (take n (drop f (segments_of slots))))
    counts-total = ap total counts_are ∙ sym (length-joined part)

    -- the key is not yet there, or is
    fresh-part : r.grows ≡ true → T (not (member r.key (keys (take n (drop f (segments_of slots))))))
    fresh-part e = not_T (member y (keys part)) (λ t. not-member y (keys ss) (acts.fresh e) y (keys-within f n ss y (member→mem y (keys part) t)) refl)

    there-part : r.grows ≡ false → Mem r.key (keys (take n (drop f (segments_of slots))))
    there-part e = key-within f n ss s from to acts.between.0 y (acts.there e)

    -- the keys with the request done
    abbrev ks : List ℕ
    ks = changed r.grows r.key (keys (take n (drop f (segments_of slots))))

    keys-done : keys (window r.level r.segment ms) ≡ ks
    keys-done = ap keys (window-is ms) ∙ changed-within f n ss s from to y acts.between g

    more : r.grows ≡ true → length ks ≡ length (keys (take n (drop f (segments_of slots)))) + 1
    more e = ap (λ (b : Bool). length (changed b y (keys part))) e ∙ omega (arith, length-put y (keys part) (not-member y (keys part) (fresh-part e)))

    less : r.grows ≡ false → length ks + 1 ≡ length (keys (take n (drop f (segments_of slots))))
    less e = ap (λ (b : Bool). length (changed b y (keys part)) + 1) e ∙ omega (arith, length_cut y (keys part) part-listed.rising (there-part e))

    -- THE PLAN
    module _ (ns : List ℕ) (P : Planned slots F k r ns) where
      abbrev ws : List ℕ
      ws = map (weight (cells_for (shares_at k) r.grows r.key (room_of slots F))) ks

      plan-is : take n ns ≡ plan (shares_at k) r.level (front_weight r.level r.segment cs) ws
      unfolding plan_for
      plan-is =
          ap (λ (j : ℕ). take j ns) size ∙ P
          ∙ ap (λ (x : List ℕ). plan S l (front_weight l s cs) (map (weight cs) x)) (ap (λ (z : Segments). keys (window l s z)) acts.done ∙ keys-done)

      ws-long : length ws ≡ length ks
      ws-long = length-map ks (weight cs)

      plan-long : length (take n ns) ≡ n
      plan-long = ap length plan-is ∙ length-plan S l (front_weight l s cs) ws ∙ sym size

      plan-total : total (take n ns) ≡ length ks
      plan-total = ap total plan-is ∙ total-plan S l (front_weight l s cs) ws ∙ ws-long

      limits : Limits (shares_at k) r.level r.level (length ws)
      limits = subst (Limits S l l) (ap (λ (z : Segments). length (keys (window l s z))) acts.done ∙ ap length keys-done ∙ sym ws-long) acts.small.within

      pub fits : (j : ℕ) → get_or (take n ns) j 0 ≤ 64
      fits j = rw plan-is (plan-fits S (lawful-stands A.stands) l (front_weight l s cs) ws acts.small.to limits j)

      -- what the sweep asks for
      pub planted : (b : ℕ) → b ≡ total (take (r.segment - f) (drop f table)) → n ≤ 64
          → Planted (take (64 * f + 64 * n - 64 * f) (drop (64 * f) slots)) (take (f + n - f) (drop f table)) (take n ns) (b + r.at) r.key r.grows
      planted b e h = record {
        shows = lent-shows;
        counted = counts_are ∙ ap (map length) (sym lent-segments);
        long = plan-long ∙ sym counts-long;
        few = omega (arith, counts-long);
        fits = fits;
        place = rw lent-segments (omega (arith, e, A.accepts.at, sum-within ss table (counts-held A.index) f (s - f) (omega (arith, from, to, ends)) (omega (arith, from, to, counts-lent)), below-within f n ss s from to y acts.between));
        grown = λ t. (omega (arith, plan-total, counts-total, more t), rw lent-segments (fresh-part t));
        shrunk = λ t. (omega (arith, plan-total, counts-total, less t), rw lent-segments (mem→member y (keys part) (there-part t)));
      }
        where
          counts-long : length (take (f + n - f) (drop f table)) ≡ n
          counts-long = ap length counts_are ∙ length-map part length ∙ part-long

      -- WHAT IT LEAVES
      abbrev dealt : Segments
      dealt = deal (take n ns) ks

      left_is : (outcome_of slots F k r).room.segments ≡ splice f n (deal (take n ns) ks) ms
      unfolding sweep share_out
      left_is =
          acts.left
          ∙ ap (λ (x : List ℕ). splice (start l s) (2 ^ l) (deal (plan S l (front_weight l s cs) (map (weight cs) x)) x) ms) keys-done
          ∙ ap (λ (x : List ℕ). splice (start l s) (2 ^ l) (deal x ks) ms) (sym plan-is)
          ∙ ap₂ (λ (i j : ℕ). splice i j dealt ms) (sym f-start) (sym size)

      dealt-long : length (deal (take n ns) ks) ≡ n
      dealt-long = length-deal (take n ns) ks ∙ plan-long

      dealt-counts : map length (deal (take n ns) ks) ≡ take n ns
      dealt-counts = counts-deal (take n ns) ks (sym plan-total)

      abbrev resown : Resown ss
      resown = record {
        s = s;
        new = new;
        i = f;
        n = n;
        window = dealt;
        from = from;
        to = to;
        many = dealt-long;
        within = ends;
      }

      good_left : Good (shares_at k) (outcome_of slots F k r).room
      good_left = good-next S (lawful-stands A.stands) (asked g y) R (good-stands A.stands)

      module _ (last : List ℕ) (sown : last ≡ render 0 (deal (take n ns) (changed r.grows r.key (keys (segments_of (take (64 * f + 64 * n - 64 * f) (drop (64 * f) slots))))))) where
        abbrev after : List ℕ
        after = put_mid (64 * f) (64 * f + 64 * n - 64 * f) slots last

        slots_left : put_mid (64 * f) (64 * f + 64 * n - 64 * f) slots last ≡ render 0 (outcome_of slots F k r).room.segments
        slots_left =
            window-put 0 ss f n dealt (64 * f) (64 * f + 64 * n) slots last A.index.shows.fits A.index.shows.whole refl (omega arith)
            (sown ∙ ap (λ (z : Segments). render 0 (deal (take n ns) (changed g y (keys z)))) lent-segments)
            ∙ ap (render 0) (sym (left_is ∙ splice-set f n dealt ss s new from to))

        shows_left : Shows (outcome_of slots F k r).room.segments (put_mid (64 * f) (64 * f + 64 * n - 64 * f) slots last)
        shows_left = record {
          whole = slots_left;
          fits = λ x i. omega (arith, good_left.sizes x i, (lawful-stands A.stands).fits);
          listed = good_left.proper.listed;
        }

        pub swept-left : (bounds' table' : List ℕ)
            → ((h : ℕ) (zs window : Segments) → length zs ≡ 2 ^ h → table ≡ table_of h zs → map length window ≡ take n ns → table' ≡ table_of h (splice f (length (take n ns)) window zs))
            → ((m : ℕ) (zs : Segments) → m ≤ f + n → Shows zs (put_mid (64 * f) (64 * f + 64 * n - 64 * f) slots last) → length zs ≤ 64 → Near m zs f (f + n) bounds → Bounded m zs bounds')
            → Left (outcome_of slots F k r) (put_mid (64 * f) (64 * f + 64 * n - 64 * f) slots last) bounds' table'
        swept-left bounds' table' recounts promise = record {
          slots_left = slots_left;
          index =
              subst (λ (z : Segments). Indexed z after bounds' table') (sym left_is)
              (indexed-swept ss slots bounds table A.index after bounds' table' resown (subst (λ (z : Segments). Shows z after) left_is shows_left) promise table_left);
        }
          where
            ix : Indexed ss slots bounds table
            ix = A.index

            table_left : table' ≡ table_of ix.height (splice f n dealt ms)
            table_left =
                recounts ix.height ss dealt ix.size ix.right dealt-counts
                ∙ ap (table_of ix.height) (ap (λ (j : ℕ). splice f j dealt ss) plan-long ∙ sym (splice-set f n dealt ss s new from to))
