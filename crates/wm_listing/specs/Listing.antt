-- The bytes of a listing, line by line.
use Rattle.std.specs.Prelude.{ℕ, List, ◌++◌, length, codes}
use Rattle.std.specs.List.{flat_map}
use Rattle.std.specs.Fmt.{decimal}
use Rattle.wm_base.specs.JobName.{job_name_text}
use Rattle.wm_base.specs.Limit.{limit_text}
use Rattle.wm_base.specs.Number.{zero_padded}
use Rattle.wm_base.specs.QName.{qname_text}
use Rattle.wm_base.specs.Refusal.{refusal_text}
use Rattle.wm_base.specs.declared.refusal.Refusal.{Refusal}
use Rattle.wm_views.specs.declared.shown.ActiveLine.{ActiveLine}
use Rattle.wm_views.specs.declared.shown.JobLine.{JobLine}
use Rattle.wm_views.specs.declared.shown.JobShown.{JobShown}
use Rattle.wm_views.specs.declared.shown.QueueShown.{QueueShown}
use Rattle.wm_views.specs.declared.shown.SbsLine.{SbsLine}
use Rattle.wm_views.specs.declared.shown.Shown.{Shown}
use Rattle.wm_views.specs.declared.shown.Shown.TheVariants as view
use Rattle.wm_listing.specs.Columns.{padded, aligned, newline}
use Rattle.wm_listing.specs.Words.{status_text, kind_word, ending_word, held_word, jobq_text}

-- a job's number in six digits, and a blank
abbrev pub number_field : JobLine → List ℕ
number_field l = zero_padded 6 l.job.number ++ codes " "

-- a job's name in a column of some width, its user and its number
abbrev pub job_fields : ℕ → JobLine → List ℕ
job_fields width l = padded width l.job.name ++ padded 11 l.job.user ++ number_field l

-- the last field of a line, which isn't padded
abbrev pub status_field : JobLine → List ℕ
status_field l = status_text l.status ++ newline

-- an active job below its subsystem
abbrev pub active_job_text : JobLine → List ℕ
active_job_text l = codes "  " ++ job_fields 10 l ++ padded 5 (kind_word l.kind) ++ status_field l

-- a subsystem, of the user QSYS and the type SBS
abbrev pub active_sbs_text : ActiveLine → List ℕ
active_sbs_text a = padded 12 a.sbs.name ++ codes "QSYS              SBS  " ++ ending_word a.ending ++ newline

-- a subsystem with its active jobs below
abbrev pub active_text : ActiveLine → List ℕ
active_text a = active_sbs_text a ++ flat_map active_job_text a.jobs

-- a queue, whether it is held, and how many jobs wait on it
abbrev pub queue_head : QueueShown → List ℕ
queue_head q = codes "QUEUE " ++ qname_text q.jobq ++ codes " " ++ held_word q.held ++ codes " " ++ decimal (length q.jobs) ++ codes " JOBS" ++ newline

-- a job that waits on a queue
abbrev pub queue_job_text : JobLine → List ℕ
queue_job_text l = job_fields 11 l ++ aligned 3 (decimal l.pty) ++ codes " " ++ status_field l

-- a job that was submitted
abbrev pub submitted_text : JobLine → List ℕ
submitted_text l = padded 11 l.job.name ++ number_field l ++ status_field l

-- a subsystem with its active jobs and MAXJOBS
abbrev pub sbs_text : SbsLine → List ℕ
sbs_text b =
    padded 11 b.sbs.name ++ aligned 6 (decimal b.count) ++ codes " " ++ aligned 7 (limit_text b.maxjobs) ++ codes " " ++ ending_word b.ending ++ newline

-- a word and its value
abbrev pub value_line : List ℕ → List ℕ → List ℕ
value_line word value = word ++ codes " " ++ value ++ newline

-- all of a job
abbrev pub job_text : JobShown → List ℕ
job_text j =
    value_line (codes "JOB") (job_name_text j.line.job)
    ++ value_line (codes "TYPE") (kind_word j.line.kind)
    ++ value_line (codes "QUEUE") (jobq_text j.jobq)
    ++ value_line (codes "PRIORITY") (decimal j.line.pty)
    ++ value_line (codes "STATUS") (status_text j.line.status)

abbrev pub active_head : List ℕ
active_head = codes "SUBSYSTEM/  USER       NUMBER TYPE STATUS" ++ newline

abbrev pub queue_jobs_head : List ℕ
queue_jobs_head = codes "JOB        USER       NUMBER PTY STATUS" ++ newline

abbrev pub submitted_head : List ℕ
submitted_head = codes "JOB        NUMBER STATUS" ++ newline

abbrev pub sbs_head : List ℕ
sbs_head = codes "SUBSYSTEM  ACTIVE MAXIMUM STATUS" ++ newline

-- the last line of a listing
abbrev pub list_end : List ℕ
list_end = codes "END OF LIST" ++ newline

-- the one line of a refusal
abbrev pub no_text : Refusal → List ℕ
no_text refusal = codes "NO " ++ refusal_text refusal ++ newline

-- the listing of what is shown
abbrev pub listing_text : Shown → List ℕ
listing_text (view.Active lines) = active_head ++ flat_map active_text lines ++ list_end
listing_text (view.Queue q) = queue_head q ++ queue_jobs_head ++ flat_map queue_job_text q.jobs ++ list_end
listing_text (view.Submitted lines) = submitted_head ++ flat_map submitted_text lines ++ list_end
listing_text (view.Subsystems lines) = sbs_head ++ flat_map sbs_text lines ++ list_end
listing_text (view.Job j) = job_text j ++ list_end
listing_text view.NoView = list_end
listing_text (view.No refusal) = no_text refusal
