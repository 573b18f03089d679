-- `ff_run_over` passes on what the run told promises.
use Rattle.told.proofs.ff_run_over.Goals as goal

pub returns : goal.returns
returns c = c.run_told-done.ensures
