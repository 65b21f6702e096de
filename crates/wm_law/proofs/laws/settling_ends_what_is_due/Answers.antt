use Rattle.wm_law.proofs.Due.{nothing_due_stays, opening_has_none_due}
use Rattle.wm_law.proofs.Moments.{none_due_before}
use Rattle.wm_law.proofs.Quiet.{calls_leave_none_due}
use Rattle.wm_law.proofs.Sound.{none_is_due, step_leaves_none_due}
use Rattle.wm_law.proofs.laws.settling_ends_what_is_due.Goals as goal

pub returns-clause-opening : goal.returns-clause-opening
returns-clause-opening c = opening_has_none_due

pub returns-clause-step : goal.returns-clause-step
returns-clause-step c = step_leaves_none_due

pub returns-clause-always : goal.returns-clause-always
returns-clause-always c = none_is_due

pub returns-clause-calls : goal.returns-clause-calls
returns-clause-calls c = calls_leave_none_due

pub returns-clause-stays : goal.returns-clause-stays
returns-clause-stays c = nothing_due_stays

pub returns-clause-before : goal.returns-clause-before
returns-clause-before c = none_due_before
