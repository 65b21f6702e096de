-- The tables of a state.
use Rattle.std.specs.Prelude.{List, [], ◌++◌, map}
use Rattle.wm_traits.specs.declared.row.Row.{Row}
use Rattle.wm_traits.specs.declared.row.RowChange.{RowChange}
use Rattle.wm_traits.specs.declared.row.RowChange.TheVariants.{Put}
use Rattle.wm_traits.specs.Rows.{changed}
use Rattle.wm_law.specs.declared.job.Job.{Job}
use Rattle.wm_law.specs.declared.state.State.{State}
use Rattle.wm_rows.specs.Tables.{object_rows, held_rows, counter_rows}
use Rattle.wm_rows.specs.JobText.{job_row}
use Rattle.wm_rows.specs.Stored.{stored_of}

-- the rows of jobs
abbrev pub job_rows : List Job → List Row
job_rows jobs = map (λ j. job_row (stored_of j)) jobs

-- the rows of all that is stored of a state
abbrev pub rows_of : State → List Row
rows_of s = object_rows s.objects ++ held_rows s.held ++ job_rows s.jobs ++ counter_rows s.next_number s.next_place s.next_serial

-- the changes that put rows
abbrev pub puts : List Row → List RowChange
puts rows = map (λ row. Put row) rows

-- the tables of a state: these rows, put one after another into none
abbrev pub tables : State → List Row
tables s = changed (puts (rows_of s)) []
