-- `place_in` finds the last slot of a segment with a key up to this one, in six steps.
use Rattle.std.proofs.Common.{◌≡◌, ℕ, suc, ◌+◌, ◌≤◌, ◌<◌, Bool, ltb, List, [], ◌∷◌, length, drop, get_or, sym, ap, ◌∙◌, subst, arith, lt-ltb, le-ltb}
use Rattle.lists.specs.Lists.{total}
use Rattle.seats.specs.Halves.{climb, halved}
use Rattle.seats.proofs.Halves.{climbs, climbs-turn, climbs-halved, total-turn, climb-up, climb-stay}
use Rattle.seeking.specs.Spots.{key_up_to}
use Rattle.seeking.proofs.finding.place_in.Goals as goal
use Rattle.seeking.proofs.finding.place_in.Goals.{then-less_one-key, else-less_one-key}

-- one step more
turned : (t : ℕ → Bool) (a at at' k : ℕ) (steps : List ℕ) → k < length steps → a ≤ at → at + total (drop k steps) ≤ a + 63
    → climbs t at (drop k steps) ≡ halved t a → at ≤ at' → at' ≤ at + get_or steps k 0 → climb t at (get_or steps k 0) ≡ at'
    → (a ≤ at') × (at' + total (drop (k + 1) steps) ≤ a + 63) × (climbs t at' (drop (k + 1) steps) ≡ halved t a)
turned t a at at' k steps h p q i l u e =
    let s : k + 1 ≡ suc k = omega arith in
    (omega arith, rw s (omega (arith, total-turn k steps h)), rw s (subst (λ (x : ℕ). climbs t x (drop (suc k) steps) ≡ halved t a) e (sym (climbs-turn t at k steps h) ∙ i)))

pub loop-step-init : goal.loop-step-init
loop-step-init c = (omega arith, omega arith, climbs-halved (key_up_to c.args.list.now c.args.key) c.args.a)

pub loop-step-preserved : goal.loop-step-preserved
loop-step-preserved c =
    let a = c.args in
    let L = c.loop-step in
    let steps : List ℕ = 32 ∷ 16 ∷ 8 ∷ 4 ∷ 2 ∷ 1 ∷ [] in
    let t = key_up_to a.list.now a.key in
    let test = ap (λ (x : ℕ). ltb x a.key) (sym c.less_one.ensures) in
    elim c.if-less_one-key.branch [
      | then-less_one-key w ↦
          turned t a.a L.at c.if-less_one-key.at L.step-index steps (omega arith) L.invariant.0 L.invariant.1 L.invariant.2 (omega (arith, w.at-is)) (omega (arith, w.at-is))
          (climb-up t L.at (get_or steps L.step-index 0) (test ∙ lt-ltb _ _ w.if-less_one-key.true) ∙ sym w.at-is)
      | else-less_one-key w ↦
          turned t a.a L.at c.if-less_one-key.at L.step-index steps (omega arith) L.invariant.0 L.invariant.1 L.invariant.2 (omega (arith, w.at-is)) (omega (arith, w.at-is))
          (climb-stay t L.at (get_or steps L.step-index 0) (test ∙ le-ltb _ _ w.if-less_one-key.false) ∙ sym w.at-is)
    ]
