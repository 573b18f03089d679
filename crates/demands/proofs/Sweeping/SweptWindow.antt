-- The key of a request among the keys of its segment and of the windows round it; and a window replaced with one of its segments changed before.
use mathlib.Core.Path.{◌≡◌, ap, ap₂}
use mathlib.Core.Bool.{not}
use mathlib.Core.List.{List, [], ◌++◌, Memᴰ as Mem}
use Prim.Native.Nat.{ℕ, suc, ◌+◌, ◌^◌, ◌≤◌, ◌<◌}
use lib.Dec.{T}
use lib.ListN.{length, get_or, set}
use lib.Seq.{take-set-le, drop-set-lt}
use Rattle.lists.specs.Lists.{splice}
use Rattle.slots.specs.Segments.{Segments, keys}
use Rattle.slots.specs.Windows.{start, window}
use Rattle.slots.specs.Keys.{Listed, member, cut, segment_of}
use Rattle.slots.proofs.Windows.{start-le, lt-end}
use Rattle.slots.proofs.Rising.{length_cut}
use Rattle.slots.proofs.Keys.{Between, not-member, segment-mem, rising_part, live-between, home-between}
use Rattle.slots.proofs.Within.{key-within}
use Rattle.rules.specs.Placing.{home}

-- what is replaced does not matter
pub splice-set : {A : Type 0} (i n : ℕ) (new xs : List A) (s : ℕ) (x : A) → i ≤ s → s < i + n → splice i n new (set xs s x) ≡ splice i n new xs
splice-set {A} i n new xs s x h k =
    ap₂ {C = List A} ◌++◌ (take-set-le i xs s x h) (ap {B = List A} (λ r. new ++ r) (drop-set-lt (i + n) xs s x k))

-- AN INSERT
module _ (y : ℕ) (ss : Segments) (g : Listed ss) (h : 0 < length ss) (t : T (not (member y (keys ss)))) where
  -- it goes among the keys of its segment
  pub home-in : Between y ss (home y ss)
  home-in = home-between y ss g h (not-member y (keys ss) t)

-- A DELETE
module _ (y : ℕ) (ss : Segments) (g : Listed ss) (m : Mem y (keys ss)) where
  -- it stands among the keys of its segment
  pub here_in : Between y ss (segment_of ss y)
  here_in = live-between y ss g m

  -- y is there
  pub there-window : (l : ℕ) → Mem y (keys (window l (segment_of ss y) ss))
  there-window l =
      key-within (start l (segment_of ss y)) (2 ^ l) ss (segment_of ss y) (start-le l (segment_of ss y)) (lt-end l (segment_of ss y)) here_in.0 y (segment-mem ss y (g.live y m) m).1

  -- its segment loses one key
  pub length-cut-in : suc (length (cut y (get_or ss (segment_of ss y) []))) ≡ length (get_or ss (segment_of ss y) [])
  length-cut-in = length_cut y (get_or ss (segment_of ss y) []) (rising_part ss (segment_of ss y) here_in.0 g.rising) (segment-mem ss y (g.live y m) m).1
