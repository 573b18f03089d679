-- `short` gathers one card at a time, or eight and the last eight.
use Prim.Native.Nat.{◌+◌}
use native.Mathlib.Omega.{arith}
use Rattle.strays.proofs.Gathered.{gathers-after}
use Rattle.strays.proofs.short.Goals as goal

pub returns : goal.returns
returns c =
    let s = c.args in
    gathers-after s.cards.now s.c 56 (s.c + 8) 64 (omega arith) (omega arith) (omega arith) c.eight.ensures c.eight-2.ensures
