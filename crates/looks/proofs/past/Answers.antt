-- `past` counts the keys of a segment that are not above a key, by the last slot that holds one.
use native.Mathlib.Omega.{arith}
use Rattle.looks.proofs.Pasts.{past-gap, past-none, past-some}
use Rattle.looks.proofs.past.Goals as goal
use Rattle.looks.proofs.past.Goals.{then-found-eq0-via-then-found-eq0, then-found-eq0-via-else-found-eq0+then-from-found}

pub returns-then-found-eq0 : goal.returns-then-found-eq0
returns-then-found-eq0 c ss bounds table ix se =
    let q = c.place_in-place in
    elim c.then-found-eq0.branch [
      | then-found-eq0-via-then-found-eq0 w ↦ past-gap _ ss _ bounds table ix (omega arith) _ q.result se q.ensures.place w.if-found-eq0.true
      | then-found-eq0-via-else-found-eq0+then-from-found w ↦ past-none _ ss _ bounds table ix (omega arith) _ q.result se q.ensures.place w.if-from-found.true
    ]

pub returns : goal.returns
returns c ss bounds table ix se =
    let q = c.place_in-place in
    past-some _ ss _ bounds table ix (omega arith) _ q.result se q.ensures.place c.if-found-eq0.false c.if-from-found.false
