use Rattle.wm_indexes.proofs.OfJobs.{available_are_counted, first_idle_is_found}
use Rattle.wm_indexes.proofs.laws.prestart_jobs_are_of_the_state.Goals as goal

pub returns-clause-available : goal.returns-clause-available
returns-clause-available c = available_are_counted

pub returns-clause-first : goal.returns-clause-first
returns-clause-first c = first_idle_is_found
