-- `together` gathers sixteen and sixteen, from the end, and the sixteen from `c` on.
use Prim.Native.Nat.{ℕ, ◌+◌, ◌≤◌}
use native.Mathlib.Omega.{arith}
use Rattle.strays.specs.Blanks.{Gathers}
use Rattle.strays.proofs.Gathered.{gathers-before}
use Rattle.strays.proofs.together.Goals as goal
use Rattle.strays.proofs.together.Goals.{Joined-c-le32}

-- where the ways meet: the cards from n on are gathered, and n is not past the sixteen from `c` on
gathered : (j : Joined-c-le32) → let s = j.args in
    (n : ℕ) × (s.c ≤ n) × (n ≤ s.c + 16) × Gathers s.cards.now n 64 s.l j.if-c-le32.all
gathered j =
    let s = j.args in
    let cards = s.cards.now in
    let last = j.sixteen-all.ensures in
    elim j.if-c-le32.branch [
      | goal.then-c-le32+then-c-le16 w ↦ (
        16,
        w.if-c-le16.true,
        omega arith,
        rw w.all-is (gathers-before cards 16 32 32 64 (omega arith) (omega arith) (omega arith) (gathers-before cards 32 48 48 64 (omega arith) (omega arith) (omega arith) last w.sixteen-all-then-c-le32.ensures) w.sixteen-all-then-c-le16.ensures),
      )
      | goal.then-c-le32+else-c-le16 w ↦ (32, w.if-c-le32.true, omega (arith, w.if-c-le16.false), rw w.all-is (gathers-before cards 32 48 48 64 (omega arith) (omega arith) (omega arith) last w.sixteen-all-then-c-le32.ensures))
      | goal.else-c-le32 w ↦ (48, j.if-c-gt48.false, omega (arith, w.if-c-le32.false), rw w.all-is last)
    ]

pub returns : goal.returns
returns c =
    let s = c.args in
    let g = gathered (goal.at.returns c).Joined-c-le32 in
    gathers-before s.cards.now s.c g.0 (s.c + 16) 64 g.1 g.2 (omega arith) g.3 c.sixteen.ensures
