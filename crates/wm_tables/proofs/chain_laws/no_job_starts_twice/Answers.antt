use Rattle.wm_tables.proofs.Chains.{no_job_starts_twice}
use Rattle.wm_tables.proofs.chain_laws.no_job_starts_twice.Goals as goal

pub returns : goal.returns
returns c = no_job_starts_twice c.rows_make_one_state.ensures
