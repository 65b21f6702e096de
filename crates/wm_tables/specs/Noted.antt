-- The changes of jobs as the program finds them: by what was touched since the mark, and the jobs that came since.
use Rattle.std.specs.Prelude.{◌≡◌, ◌⊎◌, ℕ, ◌==◌, nat_eq, nat_lt, Bool, true, List, [], ◌∷◌, ◌++◌, length, drop, find, fold, slice_get, Option, Some, None, if◌then◌else◌}
use Rattle.std.specs.Option.{option_map_or}
use Rattle.std.specs.Ordering.{nat_cmp}
use Rattle.wm_traits.specs.declared.row.RowChange.{RowChange}
use Rattle.wm_traits.specs.declared.row.RowChange.TheVariants.{Put}
use Rattle.wm_desc.specs.Sorted.{added, has_key}
use Rattle.wm_ordered.specs.Ordered.{key_of}
use Rattle.wm_law.specs.declared.job.Job.{Job}
use Rattle.wm_rows.specs.JobText.{job_row}
use Rattle.wm_rows.specs.Stored.{stored_of}
use Rattle.wm_jobs.specs.Marked.{standing_as}
use Rattle.wm_jobs.specs.Table.{Table}
use Rattle.wm_jobs.specs.declared.touched.Standing.{Standing}
use Rattle.wm_jobs.specs.declared.touched.Touched.{Touched}
use Rattle.wm_tables.specs.declared.standing.StoredStanding.{StoredStanding}

-- What is stored of two standings

-- what is stored of how a job stands, beside its phase and its queue
abbrev pub stored_standing : Standing → StoredStanding
stored_standing s = record { held = s.held; due = s.due; pty = s.pty; place = s.place }

-- what is stored of a job is what was stored of it where it stood so
abbrev pub IsStoredAs : Standing → Job → Type 0
IsStoredAs was j = stored_of (standing_as was j) ≡ stored_of j

-- Touched jobs

-- with how a touched job stood, where none is noted of it yet
abbrev pub with_noted : List (ℕ × Standing) → Touched → List (ℕ × Standing)
with_noted noted t = if has_key key_of nat_eq t.serial noted then noted else added key_of nat_cmp (t.serial, t.was) noted

-- how each touched job stood at first, by its serial
abbrev pub noted : List Touched → List (ℕ × Standing)
noted touched = fold with_noted [] touched

-- the jobs that came since the mark
abbrev pub new_jobs : Table → List Job
new_jobs t = drop (length t.marked.jobs) t.jobs

-- whether a serial is below those of new jobs
abbrev pub is_old : List Job → ℕ → Bool
is_old jobs serial = option_map_or (λ j. nat_lt serial j.serial) (slice_get jobs 0) true

-- a job of a serial from before the mark
abbrev pub old_job : Table → ℕ → Option Job
old_job t serial = if is_old (new_jobs t) serial then find (λ j. j.serial == serial) t.jobs else None

-- the changes with the row of a job
abbrev pub with_row : List RowChange → Job → List RowChange
with_row changes j = changes ++ Put (job_row (stored_of j)) ∷ []

-- the row of a job is put, unless the same was stored of it
abbrev pub PutsOther : Standing → Job → List RowChange → List RowChange → Type 0
PutsOther was j old new = (IsStoredAs was j × (new ≡ old)) ⊎ ((IsStoredAs was j → ⊥) × (new ≡ with_row old j))

-- that of a touched job, where there is such a one from before the mark
abbrev pub PutsTouched : Standing → Option Job → List RowChange → List RowChange → Type 0
PutsTouched was None old new = new ≡ old
PutsTouched was (Some j) old new = PutsOther was j old new

-- those of noted jobs, one after another
abbrev pub PutsNoted : Table → List (ℕ × Standing) → List RowChange → List RowChange → Type 0
PutsNoted t [] old new = new ≡ old
PutsNoted t (p ∷ ps) old new = (mid : List RowChange) × PutsTouched p.1 (old_job t p.0) old mid × PutsNoted t ps mid new

-- those of the jobs of a table: of touched ones, and of new ones
abbrev pub PutsJobs : Table → List RowChange → List RowChange → Type 0
PutsJobs t old new = (mid : List RowChange) × PutsNoted t (noted t.touched) old mid × (new ≡ fold with_row mid (new_jobs t))
