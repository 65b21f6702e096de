use Rattle.wm_law.proofs.Maxuse.{legal_are_calls, maxuse_is_kept, opening_is_within_maxuse, step_keeps_maxuse, uses_are_kept}
use Rattle.wm_law.proofs.prestart_laws.uses_stay_within_maxuse.Goals as goal

pub returns-clause-opening : goal.returns-clause-opening
returns-clause-opening c = opening_is_within_maxuse

pub returns-clause-step : goal.returns-clause-step
returns-clause-step c = step_keeps_maxuse

pub returns-clause-always : goal.returns-clause-always
returns-clause-always c = maxuse_is_kept

pub returns-clause-legal : goal.returns-clause-legal
returns-clause-legal c = legal_are_calls

pub returns-clause-uses : goal.returns-clause-uses
returns-clause-uses c = uses_are_kept
