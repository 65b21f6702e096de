-- What a reading command shows, as a function of the state.
use Rattle.std.specs.Prelude.{ℕ, Bool, not, ◌&&◌, ◌||◌, ◌==◌, nat_eq, nat_lt, List, filter, map, Option, Some, None, is_some, Result, Ok, Err, if◌then◌else◌}
use Rattle.std.specs.Cmp.Lexicographic.{pointwise, slice_cmp}
use Rattle.std.specs.Ordering.{nat_cmp, is_lt}
use Rattle.wm_base.specs.declared.limit.Limit.{Limit}
use Rattle.wm_base.specs.declared.limit.Limit.TheVariants.{NoMax}
use Rattle.wm_base.specs.declared.qname.QName.{QName}
use Rattle.wm_base.specs.declared.refusal.Kind.TheVariants as kind
use Rattle.wm_base.specs.declared.refusal.Refusal.{Refusal}
use Rattle.wm_base.specs.declared.refusal.Refusal.TheVariants.{NoObject}
use Rattle.wm_desc.specs.declared.description.Sbsd.{Sbsd}
use Rattle.wm_desc.specs.Table.{object_named}
use Rattle.wm_law.specs.declared.command.Ask.{Ask}
use Rattle.wm_law.specs.declared.command.Ask.TheVariants as ask
use Rattle.wm_law.specs.declared.job.Job.{Job}
use Rattle.wm_law.specs.declared.state.Sbs.{Sbs}
use Rattle.wm_law.specs.declared.state.State.{State}
use Rattle.wm_law.specs.Choice.{is_held, is_sbs_active}
use Rattle.wm_law.specs.Counts.{is_active, is_in_sbs, count_in_sbs}
use Rattle.wm_law.specs.Named.{job_named}
use Rattle.wm_law.specs.Queues.{waits_on}
use Rattle.wm_views.specs.declared.shown.ActiveLine.{ActiveLine}
use Rattle.wm_views.specs.declared.shown.JobLine.{JobLine}
use Rattle.wm_views.specs.declared.shown.JobShown.{JobShown}
use Rattle.wm_views.specs.declared.shown.QueueShown.{QueueShown}
use Rattle.wm_views.specs.declared.shown.SbsLine.{SbsLine}
use Rattle.wm_views.specs.declared.shown.Shown.{Shown}
use Rattle.wm_views.specs.declared.shown.Shown.TheVariants as view
use Rattle.wm_views.specs.Lines.{Placed, is_bch, job_line, placed}
use Rattle.wm_views.specs.Sorted.{sorted}

-- subsystems by their simple names
abbrev pub by_name : Sbs → Sbs → Bool
by_name a b = is_lt (slice_cmp nat_cmp a.sbsd.name b.sbsd.name)

-- jobs by their numbers
abbrev pub by_number : JobLine → JobLine → Bool
by_number a b = nat_lt a.job.number b.job.number

-- waiting jobs by priority, and then by place
abbrev pub by_turn : Placed → Placed → Bool
by_turn a b = nat_lt a.line.pty b.line.pty || (a.line.pty == b.line.pty && nat_lt a.place b.place)

abbrev pub is_ending : Sbs → Bool
is_ending b = not (is_sbs_active b.phase)

-- an active job that counts to the subsystem
abbrev pub is_active_in : QName → Job → Bool
is_active_in sbs j = is_active j.phase && is_in_sbs sbs j.how

-- the active jobs of a subsystem, by number
abbrev pub active_jobs : State → QName → List JobLine
active_jobs s sbs = sorted by_number (map (job_line s.clock) (filter (is_active_in sbs) s.jobs))

abbrev pub active_line : State → Sbs → ActiveLine
active_line s b = record { sbs = b.sbsd; ending = is_ending b; jobs = active_jobs s b.sbsd }

-- WRKACTJOB: the started subsystems by name, with their active jobs
abbrev pub active_lines : State → List ActiveLine
active_lines s = map (active_line s) (sorted by_name s.started)

-- the jobs that wait on a queue, in their turn
abbrev pub waiting_jobs : State → QName → List JobLine
waiting_jobs s jobq = map (λ p. p.line) (sorted by_turn (map (placed s.clock) (filter (waits_on jobq) s.jobs)))

abbrev pub queue_shown : State → QName → QueueShown
queue_shown s jobq = record { jobq = jobq; held = is_held s jobq; jobs = waiting_jobs s jobq }

-- WRKJOBQ: the queue, where it is there
abbrev pub queue_view : State → QName → Shown
queue_view s jobq = if is_some (object_named jobq s.objects.jobqs) then view.Queue (queue_shown s jobq) else view.No (NoObject kind.Jobq)

-- a user's job that was submitted
abbrev pub is_submitted_by : List ℕ → Job → Bool
is_submitted_by user j = is_bch j.kind && pointwise nat_eq j.job.user user

-- WRKSBMJOB: the jobs that a user submitted, as they were made
abbrev pub submitted_lines : State → List ℕ → List JobLine
submitted_lines s user = map (job_line s.clock) (filter (is_submitted_by user) s.jobs)

-- MAXJOBS of a description
abbrev pub maxjobs_of : Option Sbsd → Limit
maxjobs_of None = NoMax
maxjobs_of (Some d) = d.maxjobs

abbrev pub sbs_line : State → Sbs → SbsLine
sbs_line s b = record { sbs = b.sbsd; count = count_in_sbs b.sbsd s.jobs; maxjobs = maxjobs_of (object_named b.sbsd s.objects.sbsds); ending = is_ending b }

-- WRKSBS: the started subsystems by name
abbrev pub sbs_lines : State → List SbsLine
sbs_lines s = map (sbs_line s) (sorted by_name s.started)

abbrev pub job_shown : State → Job → JobShown
job_shown s j = record { line = job_line s.clock j; jobq = j.jobq }

abbrev pub job_or_no : State → Result Job Refusal → Shown
job_or_no s (Err refusal) = view.No refusal
job_or_no s (Ok j) = view.Job (job_shown s j)

-- what is shown; the log is no view of the state, nor is what waits for a monitor
abbrev pub shown : State → Ask → Shown
shown s ask.Active = view.Active (active_lines s)
shown s (ask.Queue jobq) = queue_view s jobq
shown s (ask.Submitted user) = view.Submitted (submitted_lines s user)
shown s ask.Subsystems = view.Subsystems (sbs_lines s)
shown s (ask.Job reference) = job_or_no s (job_named s reference)
shown s ask.Log = view.NoView
shown s (ask.Pending monitor) = view.NoView
