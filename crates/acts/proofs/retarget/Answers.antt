-- `retarget` aims the cells of the swept window again.
use native.Mathlib.Omega.{arith}
use Rattle.aims.proofs.Standing.{height-stands}
use Rattle.acts.proofs.Acted.{level-height}
use Rattle.acts.proofs.ActedCells.{window-fits, forecast-swept}
use Rattle.acts.proofs.retarget.Goals as goal

pub power-n-requires : goal.power-n-requires
power-n-requires c =
    let A = c.requires.0.5 in
    omega (arith, level-height A, height-stands A.stands)

pub overflow_mul-segment : goal.overflow_mul-segment
overflow_mul-segment c = omega (arith, window-fits c.requires.0.5 c.power-n.result c.power-n.ensures.0)

pub retarget-requires : goal.retarget-requires
retarget-requires c =
    record {
      tidy = c.requires.0.6.tidy;
      bounds_len = (c.requires.1, window-fits c.requires.0.5 c.power-n.result c.power-n.ensures.0);
    }

pub returns : goal.returns
returns c slots F was table shape A N h left full L =
    forecast-swept A N h L c.power-n.result c.power-n.ensures.0 c.retarget.ensures.1
