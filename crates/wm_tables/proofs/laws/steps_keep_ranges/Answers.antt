use Rattle.wm_tables.proofs.RangedSteps.{step_keeps_ranges}
use Rattle.wm_tables.proofs.laws.steps_keep_ranges.Goals as goal

pub returns : goal.returns
returns c = step_keeps_ranges
