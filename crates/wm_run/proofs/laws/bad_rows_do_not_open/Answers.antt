use Rattle.wm_run.proofs.Linked.{bad_rows_dont_open}
use Rattle.wm_run.proofs.laws.bad_rows_do_not_open.Goals as goal

pub returns : goal.returns
returns c = bad_rows_dont_open c.bad_rows_make_no_state.ensures.none
