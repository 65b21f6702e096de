use Rattle.wm_law.proofs.Refusals.{refusal_leaves, refused_step_settles}
use Rattle.wm_law.proofs.laws.refusals_leave_the_state.Goals as goal

pub returns-clause-call : goal.returns-clause-call
returns-clause-call c = refusal_leaves

pub returns-clause-step : goal.returns-clause-step
returns-clause-step c = refused_step_settles
