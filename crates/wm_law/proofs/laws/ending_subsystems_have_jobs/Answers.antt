use Rattle.wm_law.proofs.Leaving.{ending_subsystems_have_jobs, step_leaves_ending_jobs}
use Rattle.wm_law.proofs.laws.ending_subsystems_have_jobs.Goals as goal

pub returns-clause-step : goal.returns-clause-step
returns-clause-step c = step_leaves_ending_jobs

pub returns-clause-always : goal.returns-clause-always
returns-clause-always c = ending_subsystems_have_jobs
