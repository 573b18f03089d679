-- copy meets its contract. Invariant: after k turns the outputs are those of a copy of 4k slots.
use Prim.Native.Nat.{ℕ, ◌+◌, ◌-◌, ◌*◌}
use mathlib.Core.Path.{◌≡◌, ap, ◌∙◌}
use native.Mathlib.Omega.{arith}
use lib.ListN.{drop}
use lib.Seq.{paste}
use Rattle.moves.proofs.Fours.{laid_on}
use Rattle.copying.proofs.copy.Goals as goal

pub loop-k-preserved : goal.loop-k-preserved
loop-k-preserved c =
    let a = c.args in
    let loop = c.loop-k in
    let i = 4 * loop.k in
    let e : 4 * (loop.k + 1) ≡ i + 4 = omega arith in (
      omega arith,
      omega arith,
      rw e (
          laid_on a.output.now a.list.now _ loop.output _ a.a a.w i 4 i (omega arith) (omega arith) (omega arith) (omega arith)
          c.read_four.ensures loop.invariant.2 c.put_four.ensures
          ),
      rw e (
          laid_on a.output_cards.now a.cards.now _ loop.output_cards _ a.a a.w i 4 i (omega arith) (omega arith) (omega arith) (omega arith)
          c.read_four-in-loop-k.ensures loop.invariant.3 c.put_four-in-loop-k.ensures
          ),
    )

pub returns-clause-slots : goal.returns-clause-slots
returns-clause-slots c =
    let a = c.args in
    let loop = c.loop-k in
    let e = a.n - 4 in
    let q : e + 4 ≡ a.n = omega arith in
    laid_on a.output.now a.list.now _ loop.output _ a.a a.w e 4 (4 * loop.k) (omega arith) (omega arith) (omega arith) (omega arith)
    c.read_four-2.ensures loop.invariant.2 c.put_four-2.ensures
    ∙ ap (λ (n : ℕ). paste a.output.now a.w (drop a.a a.list.now) n) q

pub returns-clause-cards : goal.returns-clause-cards
returns-clause-cards c =
    let a = c.args in
    let loop = c.loop-k in
    let e = a.n - 4 in
    let q : e + 4 ≡ a.n = omega arith in
    laid_on a.output_cards.now a.cards.now _ loop.output_cards _ a.a a.w e 4 (4 * loop.k) (omega arith) (omega arith) (omega arith) (omega arith)
    c.read_four-3.ensures loop.invariant.3 c.put_four-3.ensures
    ∙ ap (λ (n : ℕ). paste a.output_cards.now a.w (drop a.a a.cards.now) n) q
