use Rattle.wm_law.proofs.TheirJobs.{entries_have_their_jobs, settling_gives_jobs, step_gives_jobs, supply_gives_entry_jobs, supply_gives_jobs, opening_has_its_jobs}
use Rattle.wm_law.proofs.prestart_laws.entries_have_their_jobs.Goals as goal

pub returns-clause-entry : goal.returns-clause-entry
returns-clause-entry c = supply_gives_entry_jobs

pub returns-clause-supply : goal.returns-clause-supply
returns-clause-supply c = supply_gives_jobs

pub returns-clause-settling : goal.returns-clause-settling
returns-clause-settling c = settling_gives_jobs

pub returns-clause-step : goal.returns-clause-step
returns-clause-step c = step_gives_jobs

pub returns-clause-always : goal.returns-clause-always
returns-clause-always c = entries_have_their_jobs

pub returns-clause-opening : goal.returns-clause-opening
returns-clause-opening c = opening_has_its_jobs
