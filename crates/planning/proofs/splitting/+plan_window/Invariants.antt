-- `planning::splitting::plan_window` calls itself on the halves, which are a level lower.
use Rattle.planning.proofs.splitting.+plan_window.Given as goal

abbrev pub decreases-plan_window : goal.decreases-plan_window
decreases-plan_window l = l.level
