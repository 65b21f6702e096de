use Rattle.wm_law.proofs.Subsystems.{opening_is_quiet, step_keeps_quiet, none_is_active_without_power}
use Rattle.wm_law.proofs.laws.none_is_active_without_power.Goals as goal

pub returns-clause-opening : goal.returns-clause-opening
returns-clause-opening c = opening_is_quiet

pub returns-clause-step : goal.returns-clause-step
returns-clause-step c = step_keeps_quiet

pub returns-clause-always : goal.returns-clause-always
returns-clause-always c = none_is_active_without_power
