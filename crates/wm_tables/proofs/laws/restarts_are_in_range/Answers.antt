use Rattle.wm_tables.proofs.RangedRestarts.{opening_is_in_range, restart_is_in_range}
use Rattle.wm_tables.proofs.laws.restarts_are_in_range.Goals as goal

pub returns-clause-opening : goal.returns-clause-opening
returns-clause-opening c = opening_is_in_range

pub returns-clause-restart : goal.returns-clause-restart
returns-clause-restart c = restart_is_in_range
