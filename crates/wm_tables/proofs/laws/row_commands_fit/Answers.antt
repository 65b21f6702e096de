use Rattle.wm_tables.proofs.CommandsFit.{row_commands_fit}
use Rattle.wm_tables.proofs.laws.row_commands_fit.Goals as goal

pub returns : goal.returns
returns c = row_commands_fit
