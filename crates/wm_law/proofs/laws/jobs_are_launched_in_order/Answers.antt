use Rattle.wm_law.proofs.Sound.{step_keeps_order, order_is_kept}
use Rattle.wm_law.proofs.laws.jobs_are_launched_in_order.Goals as goal

pub returns-clause-step : goal.returns-clause-step
returns-clause-step c = step_keeps_order

pub returns-clause-always : goal.returns-clause-always
returns-clause-always c = order_is_kept
