-- The active jobs with how they came into their subsystems.
use Rattle.std.specs.Prelude.{ℕ, List, filter, map}
use Rattle.wm_base.specs.declared.qname.QName.{QName}
use Rattle.wm_law.specs.declared.job.Job.{Job}
use Rattle.wm_law.specs.declared.state.Sbs.{Sbs}
use Rattle.wm_law.specs.Counts.{is_active, is_in_sbs}
use Rattle.wm_views.specs.declared.shown.ActiveLine.{ActiveLine}
use Rattle.wm_views.specs.declared.shown.Hosted.{Hosted}
use Rattle.wm_views.specs.declared.shown.JobLine.{JobLine}
use Rattle.wm_views.specs.Lines.{job_line}
use Rattle.wm_views.specs.Sorted.{sorted}
use Rattle.wm_views.specs.Views.{by_number, is_ending}

-- the line of a job, with how it came into its subsystem
abbrev pub hosted : ℕ → Job → Hosted
hosted clock j = record { how = j.how; line = job_line clock j }

-- those of the active jobs
abbrev pub hosted_jobs : ℕ → List Job → List Hosted
hosted_jobs clock jobs = map (hosted clock) (filter (λ j. is_active j.phase) jobs)

-- the lines of those that came into a subsystem
abbrev pub lines_in : QName → List Hosted → List JobLine
lines_in sbs hosts = map (λ h. h.line) (filter (λ h. is_in_sbs sbs h.how) hosts)

-- a subsystem, with its own of them by number
abbrev pub line_among : List Hosted → Sbs → ActiveLine
line_among hosts b = record { sbs = b.sbsd; ending = is_ending b; jobs = sorted by_number (lines_in b.sbsd hosts) }
