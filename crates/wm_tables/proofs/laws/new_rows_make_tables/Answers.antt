use Rattle.wm_tables.proofs.NewRows.{new_rows_make_tables, only_ended_jobs_are_new}
use Rattle.wm_tables.proofs.laws.new_rows_make_tables.Goals as goal

pub returns-clause-tables : goal.returns-clause-tables
returns-clause-tables c = new_rows_make_tables

pub returns-clause-ended : goal.returns-clause-ended
returns-clause-ended c = only_ended_jobs_are_new
