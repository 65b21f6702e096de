use Rattle.wm_law.proofs.Subsystems.{opening_has_descriptions, step_keeps_descriptions, started_are_described}
use Rattle.wm_law.proofs.laws.started_are_described.Goals as goal

pub returns-clause-opening : goal.returns-clause-opening
returns-clause-opening c = opening_has_descriptions

pub returns-clause-step : goal.returns-clause-step
returns-clause-step c = step_keeps_descriptions

pub returns-clause-always : goal.returns-clause-always
returns-clause-always c = started_are_described
