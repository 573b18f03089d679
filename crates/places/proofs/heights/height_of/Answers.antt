-- `places::heights::height_of` meets its contract: each number is told apart as the definition does it.
use native.Mathlib.Omega.{arith}
use Rattle.std.proofs.Common.{rules}
use borrow.Author.Tests.{tests}
use Rattle.slots.specs.Segments.{height_of}
use Rattle.places.proofs.heights.height_of.Goals as goal

pub returns-in-128 : goal.returns-in-128
unfolding height_of
returns-in-128 c = (rw c.in-128.is, omega arith, omega arith)

pub returns-in-256 : goal.returns-in-256
unfolding height_of
returns-in-256 c = (rw c.in-256.is, omega arith, omega arith)

pub returns-in-512 : goal.returns-in-512
unfolding height_of
returns-in-512 c = (rw c.in-512.is, omega arith, omega arith)

pub returns-in-1024 : goal.returns-in-1024
unfolding height_of
returns-in-1024 c = (rw c.in-1024.is, omega arith, omega arith)

pub returns-in-2048 : goal.returns-in-2048
unfolding height_of
returns-in-2048 c = (rw c.in-2048.is, omega arith, omega arith)

pub returns-in-4096 : goal.returns-in-4096
unfolding height_of
returns-in-4096 c = (rw c.in-4096.is, omega arith, omega arith)

pub returns-in_default : goal.returns-in_default
unfolding height_of
returns-in_default c = search (tests, rules)
