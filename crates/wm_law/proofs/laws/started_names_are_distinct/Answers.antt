use Rattle.wm_law.proofs.Started.{opening_has_distinct_names, step_keeps_names_distinct, started_names_are_distinct}
use Rattle.wm_law.proofs.laws.started_names_are_distinct.Goals as goal

pub returns-clause-opening : goal.returns-clause-opening
returns-clause-opening c = opening_has_distinct_names

pub returns-clause-step : goal.returns-clause-step
returns-clause-step c = step_keeps_names_distinct

pub returns-clause-always : goal.returns-clause-always
returns-clause-always c = started_names_are_distinct
