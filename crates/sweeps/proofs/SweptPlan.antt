-- A plan within limits gives no segment more than it has slots.
use mathlib.Core.Path.{ap}
use mathlib.Core.List.{List}
use Prim.Native.Nat.{ℕ, zero, suc, ◌≤◌, ◌<◌}
use native.Mathlib.Nat.{pow-zero}
use native.Mathlib.Decide.{dec_lt}
use native.Mathlib.Omega.{arith}
use lib.ListN.{length, get_or, get_or-eq_default}
use Rattle.lists.specs.Lists.{total}
use Rattle.slots.specs.Windows.{window}
use Rattle.slots.proofs.Windows.{window-zero}
use Rattle.rules.specs.Shares.{Shares, Lawful}
use Rattle.rules.specs.SharingOut.{plan}
use Rattle.rules.specs.Readings.{Limits}
use Rattle.demands.proofs.Sharing.SharingOut.{length-plan, inside}

pub plan-fits : (S : Shares) → Lawful S → (l f : ℕ) (ws : List ℕ) → l ≤ S.height → Limits S l l (length ws) → (k : ℕ) → get_or (plan S l f ws) k 0 ≤ 64
unfolding plan
plan-fits S L zero f ws h p zero = omega (arith, rw (pow-zero 2) at p.1, L.fits)
plan-fits S L zero f ws h p (suc k) = omega arith
plan-fits S L (suc l) f ws h p k = elim (dec_lt k (length ns)) [ yes i ↦ inner i | no o ↦ omega (arith, get_or-eq_default ns 0 (outer o)) ]
  where
    ns : List ℕ
    ns = plan S (suc l) f ws

    outer : (k < length ns → ⊥) → length ns ≤ k
    outer o = omega arith

    inner : k < length ns → get_or ns k 0 ≤ 64
    inner i =
        let b : Limits S 0 1 (total (window 0 k ns)) = inside S L (suc l) f ws h p 0 k (omega arith) (omega (arith, length-plan S (suc l) f ws)) in
        omega (arith, rw (pow-zero 2) at b.1, ap total (window-zero k ns 0 i), L.gaps 0 (omega arith))
