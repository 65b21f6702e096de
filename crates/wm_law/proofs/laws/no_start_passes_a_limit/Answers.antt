use Rattle.wm_law.proofs.Sound.{step_keeps_limits, limits_are_kept}
use Rattle.wm_law.proofs.laws.no_start_passes_a_limit.Goals as goal

pub returns-clause-step : goal.returns-clause-step
returns-clause-step c = step_keeps_limits

pub returns-clause-always : goal.returns-clause-always
returns-clause-always c = limits_are_kept
