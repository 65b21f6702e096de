-- What a run writes as it opens, so that the rows which it finds become those of its state.
use Rattle.std.specs.Prelude.{◌≡◌, ◌==◌, nat_eq, not, Bool, ◌&&◌, List, filter}
use Rattle.std.specs.Cmp.Lexicographic.{pointwise}
use Rattle.std.specs.List.{list_any}
use Rattle.wm_traits.specs.declared.row.Row.{Row}
use Rattle.wm_traits.specs.declared.row.RowChange.{RowChange}
use Rattle.wm_traits.specs.declared.row.RowChange.TheVariants.{Put}
use Rattle.wm_law.specs.Laws.{IsIn}
use Rattle.wm_law.specs.declared.state.State.{State}
use Rattle.wm_rows.specs.JobText.{job_row}
use Rattle.wm_rows.specs.Stored.{stored_of}
use Rattle.wm_rows.specs.declared.stored_job.StoredJob.{StoredJob}
use Rattle.wm_rows.specs.declared.stored_job.StoredPhase.TheVariants.{Active}
use Rattle.wm_tables.specs.Restart.{job_of}
use Rattle.wm_tables.specs.Tables.{rows_of}

-- whether two rows are one
abbrev pub same_row : Row → Row → Bool
same_row a b = a.tab == b.tab && pointwise nat_eq a.key b.key && pointwise nat_eq a.body b.body

-- whether a row is one of those found
abbrev pub is_found : List Row → Row → Bool
is_found found row = list_any (same_row row) found

-- the rows of a state that aren't among those found
abbrev pub new_rows : List Row → State → List Row
new_rows found s = filter (λ row. not (is_found found row)) (rows_of s)

-- each change puts a row that isn't among those found
abbrev pub PutsNew : List Row → List RowChange → Type 0
PutsNew found changes = (change : RowChange) → IsIn change changes → (row : Row) × (change ≡ Put row) × (IsIn row found → ⊥)

-- the row is that of a job which was found as active, and which has ended now
pub record IsEnded (found : List Row) (row : Row) : Type 0 where
  pub job : StoredJob
  pub active : job.phase ≡ Active
  pub was : IsIn (job_row job) found
  pub ended : row ≡ job_row (stored_of (job_of job))
