use Rattle.wm_tables.proofs.OneState.{rows_make_one_state}
use Rattle.wm_tables.proofs.chain_laws.rows_make_one_state.Goals as goal

pub returns : goal.returns
returns c = rows_make_one_state c.printed_command_is_read.ensures
