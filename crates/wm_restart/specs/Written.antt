-- What a run writes as it opens, one row after another.
use Rattle.std.specs.Prelude.{◌≡◌, true, List, [], ◌∷◌, ◌++◌, fold, Option, Some, None, if◌then◌else◌}
use Rattle.wm_base.specs.declared.job.EndCause.TheVariants.{Restarted}
use Rattle.wm_traits.specs.declared.row.Row.{Row}
use Rattle.wm_traits.specs.declared.row.RowChange.{RowChange}
use Rattle.wm_traits.specs.declared.row.RowChange.TheVariants.{Put}
use Rattle.wm_law.specs.Opening.{opening_commands}
use Rattle.wm_law.specs.declared.command.Command.{Command}
use Rattle.wm_law.specs.declared.job.Job.{Job}
use Rattle.wm_law.specs.declared.job.Phase.TheVariants.{Ended}
use Rattle.wm_rows.specs.Rows.{command_row}
use Rattle.wm_rows.specs.Tables.{counter_rows}
use Rattle.wm_rows.specs.JobText.{job_row}
use Rattle.wm_rows.specs.Stored.{stored_of}
use Rattle.wm_tables.specs.Opened.{is_found}
use Rattle.wm_tables.specs.Tables.{puts}

-- the changes, with one that puts a row, if there is one
abbrev pub with_put : List RowChange → Option Row → List RowChange
with_put changes None = changes
with_put changes (Some row) = changes ++ Put row ∷ []

-- the changes, with the row of what a command makes
abbrev pub with_made : List RowChange → Command → List RowChange
with_made changes c = with_put changes (command_row c)

-- where there are no rows: the rows of what the opening commands make, and the counters, which begin at 1
abbrev pub first_changes : List RowChange
first_changes = fold with_made [] opening_commands ++ puts (counter_rows 1 1 1)

-- the changes, with the row of a job where it isn't among those found
abbrev pub with_job : List Row → List RowChange → Job → List RowChange
with_job found changes j = if is_found found (job_row (stored_of j)) then changes else changes ++ Put (job_row (stored_of j)) ∷ []

-- where there are rows: those of jobs that aren't among them
abbrev pub job_changes : List Row → List Job → List RowChange
job_changes found jobs = fold (with_job found) [] jobs

-- a job that no restart has ended has its row among those found
abbrev pub Stands : List Row → Job → Type 0
Stands found j = (j.phase ≡ Ended Restarted → ⊥) → is_found found (job_row (stored_of j)) ≡ true
