use Rattle.wm_tables.proofs.Steps.{step_changes_are_difference}
use Rattle.wm_tables.proofs.change_laws.step_changes_are_difference.Goals as goal

pub returns : goal.returns
returns c = step_changes_are_difference
