-- Demand 3, over any lawful shares and any forecast.
use Rattle.std.specs.Prelude.{ℕ, suc, ◌+◌, ◌-◌, ◌*◌, ◌^◌, ◌≤◌, ◌<◌, ◌≡◌, Bool, true, false, not, ◌⊎◌, List, [], ◌∷◌, ◌++◌, T, length}
use Rattle.std.proofs.Math.Option.{Option, none, some}
use Rattle.lists.specs.Lists.{All}
use Rattle.slots.specs.Segments.{Segments, keys}
use Rattle.slots.specs.Windows.{start, count}
use Rattle.rules.specs.declared.Request.{Request}
use Rattle.rules.specs.declared.Request.TheVariants.{Insert, Delete, Bad}
use Rattle.rules.specs.Shares.{Shares, Lawful, capacity}
use Rattle.rules.specs.Placing.{Room, outcome}
use Rattle.rules.specs.Readings.{Limits, Proper}
use Rattle.demands.specs.PlainSet as set
use Rattle.demands.specs.History.{Event, event_at, falls_in, sweeps, some_sweeps, inserts, deletes, accepted, Turn, events}

-- FIRST PART. After a sweep, every window strictly inside the swept one holds at least the low and at most the high share of its
-- parent's level, times its segments, whatever the forecast said.
abbrev pub Inside : Type 0
Inside = (S : Shares) → Lawful S → (q : Request) (R : Room) → Proper S R.segments → T (accepted S q R)
    → (k : ℕ) → (event_at S q R).level ≡ some k
    → (j t : ℕ) → j < k → start k t ≡ start k (event_at S q R).at → Limits S j (suc j) (count j t (outcome S q R).room.segments)

-- Keys are kept, in order: those of the set with the key, or without it.
abbrev pub set_after : Request → List ℕ → List ℕ
set_after (Insert y) ks = set.add y ks
set_after (Delete y) ks = set.remove y ks
set_after Bad ks = ks

abbrev pub KeysKept : Type 0
KeysKept = (S : Shares) (q : Request) (R : Room) → Proper S R.segments → T (accepted S q R)
    → keys (outcome S q R).room.segments ≡ set_after q (keys R.segments)

-- No segment overflows, and the list keeps to its capacity: segments of at most b keys, b being the high share of level 0 or more, stay so.
-- (The second profile may be lent segments of 59 to 64 keys.)
abbrev pub SizesKept : Type 0
SizesKept = (S : Shares) → Lawful S → (q : Request) (R : Room) → Proper S R.segments → T (accepted S q R)
    → (b : ℕ) → S.high 0 ≤ b → All (λ x. length x ≤ b) R.segments → length (keys R.segments) ≤ capacity S
    → All (λ x. length x ≤ b) (outcome S q R).room.segments × (length (keys (outcome S q R).room.segments) ≤ capacity S)

-- A request tells that it swept, as the totals count it, exactly where a window was chosen.
abbrev pub is_chosen : Option ℕ → Bool
is_chosen none = false
is_chosen (some l) = true

abbrev pub SweepsTold : Type 0
SweepsTold = (S : Shares) (q : Request) (R : Room) → T (accepted S q R) → (outcome S q R).swept ≡ is_chosen (event_at S q R).level

-- SECOND PART. Suppose a request falling in one half of a window sets off a sweep of that window, and the window was swept before: events
-- in order, e₀, which swept the window of level l + 1 round segment s; es since, which did not; and the present one, e, which falls in that
-- window's half round segment s and sweeps the window.
pub record SweptAgain (all : List Event) (l s : ℕ) (e₀ : Event) (es : List Event) (e : Event) : Type 0 where
  pub history : all ≡ e₀ ∷ (es ++ (e ∷ []))
  pub earlier : T (sweeps (suc l) s e₀)
  pub since : T (not (some_sweeps (suc l) s es))
  pub half : T (falls_in l s e)
  pub again : T (sweeps (suc l) s e)

-- The request itself counts; the one that set off the earlier sweep doesn't.
abbrev pub counting : Event → List Event → Event → List Event
counting e₀ es e = es ++ (e ∷ [])

-- That half has taken more inserts than deletes by over the gap between the two levels' high shares times its segments, or more deletes
-- than inserts by over the gap between the low shares times its segments.
abbrev pub Taken : Shares → ℕ → ℕ → List Event → Type 0
Taken S l s es =
    (deletes l s es + 2 ^ l * (S.high l - S.high (suc l)) < inserts l s es)
    ⊎ (inserts l s es + 2 ^ l * (S.low (suc l) - S.low l) < deletes l s es)

-- Counting from its latest earlier sweep, with only inserts and deletes since, whatever cells each request is lent.
abbrev pub Again : Type 0
Again = (S : Shares) → Lawful S → (ss : Segments) → Proper S ss → (turns : List Turn) (l s : ℕ) (e₀ : Event) (es : List Event) (e : Event)
    → SweptAgain (events S turns ss) l s e₀ es e → Taken S l s (counting e₀ es e)
