-- Totals by their fields, and readings of them across the wrap.
use Rattle.std.proofs.Common.{◌≡◌, ℕ, ◌+◌, ◌%◌, ◌^◌, ◌<◌, arith}
use Rattle.rules.specs.declared.Tally.{Tally}
use Rattle.rules.specs.declared.Totals.{Totals}
use Rattle.rules.specs.Runs.{nothing, added}
use Rattle.run.specs.Sums.{growth, since}
use Rattle.run.specs.Differences.{Reading}

abbrev totals : ℕ → ℕ → ℕ → ℕ → Totals
totals a b c d = record { worked = a; refused = b; moved = c; sweeps = d }

-- equal field by field
pub same-totals : {a b c d a' b' c' d' : ℕ} → a ≡ a' → b ≡ b' → c ≡ c' → d ≡ d' → totals a b c d ≡ totals a' b' c' d'
same-totals p q r s = λ i. totals (p i) (q i) (r i) (s i)

-- a number may be cut before it is added
pub cut : (x y : ℕ) → (x + y % 2 ^ 32) % 2 ^ 32 ≡ (x + y) % 2 ^ 32
cut x y = omega arith

growth-of-sum : (x y : ℕ) → x < 2 ^ 32 → growth ((x + y) % 2 ^ 32) x ≡ y % 2 ^ 32
growth-of-sum x y h = omega arith

-- what a tally adds to the totals
abbrev pub cut_tally : Tally → Totals
cut_tally n = totals (n.worked % 2 ^ 32) (n.refused % 2 ^ 32) (n.moves % 2 ^ 32) (n.sweeps % 2 ^ 32)

-- two readings, one before and one after a run, subtract to what the run has counted modulo 2^32, also where a total has wrapped between them
pub since-added : (T : Totals) (n : Tally) → Reading T → since (added T n) T ≡ cut_tally n
since-added T n h =
    same-totals (growth-of-sum T.worked n.worked h.worked) (growth-of-sum T.refused n.refused h.refused)
    (growth-of-sum T.moved n.moves h.moved) (growth-of-sum T.sweeps n.sweeps h.sweeps)

-- where nothing is counted nothing is added, and they subtract to nothing
pub added-nothing : (T : Totals) → Reading T → added T nothing ≡ T
added-nothing T h = same-totals (omega (arith, h.worked)) (omega (arith, h.refused)) (omega (arith, h.moved)) (omega (arith, h.sweeps))

pub since-same : (T : Totals) → Reading T → since T T ≡ cut_tally nothing
since-same T h = same-totals (omega (arith, h.worked)) (omega (arith, h.refused)) (omega (arith, h.moved)) (omega (arith, h.sweeps))
