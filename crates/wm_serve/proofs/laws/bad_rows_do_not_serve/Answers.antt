use Rattle.wm_serve.proofs.Linked.{bad_rows_dont_serve}
use Rattle.wm_serve.proofs.laws.bad_rows_do_not_serve.Goals as goal

pub returns : goal.returns
returns c = bad_rows_dont_serve c.bad_rows_make_no_state.ensures.none
