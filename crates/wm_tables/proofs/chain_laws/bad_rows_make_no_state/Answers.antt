use Rattle.wm_tables.proofs.OneState.{bad_rows_make_none, one_row_is_bad}
use Rattle.wm_tables.proofs.chain_laws.bad_rows_make_no_state.Goals as goal

pub returns-clause-none : goal.returns-clause-none
returns-clause-none c = bad_rows_make_none c.printed_command_is_read.ensures

pub returns-clause-one : goal.returns-clause-one
returns-clause-one c = one_row_is_bad c.printed_command_is_read.ensures
