-- `sweep` plans the sweep and then sweeps; the cards go with their keys.
use native.Mathlib.Omega.{arith}
use Rattle.acts.proofs.sweep.Goals as goal

pub plan_sweep-requires : goal.plan_sweep-requires
plan_sweep-requires c =
    let given = c.requires.plan_len.0 in
    record {
      by_index = (given.0, c.args.bounds.now, given.1, given.2);
      le_level = (c.requires.le_level.0, c.requires.plan_len.1);
    }

pub sweep-requires : goal.sweep-requires
sweep-requires c =
    let given = c.requires.plan_len.0 in
    let plan = c.plan_sweep in
    record {
      acting = (given.0, c.args.shape, given.1, plan.ensures.plan _ _ given.1 given.2);
      le_level = (c.requires.le_level.0, omega (arith, plan.ensures.range, c.requires.plan_len.1));
      cards_len = c.requires.le_level.1;
    }

pub returns : goal.returns
returns c =
    let plan = c.plan_sweep in
    let sweeps = c.sweep.ensures in
    record {
      range = plan.ensures.range;
      left = λ F A N. sweeps.left _ _ A (plan.ensures.plan _ _ A N);
      cards = sweeps.cards;
    }
