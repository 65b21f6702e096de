-- Which jobs a command names.
use Rattle.std.specs.Prelude.{ℕ, Bool, true, false, not, ◌+◌, ◌&&◌, ◌==◌, nat_eq, List, [], ◌∷◌, length, filter, Result, Ok, Err, if◌then◌else◌}
use Rattle.std.specs.Cmp.Lexicographic.{pointwise}
use Rattle.wm_base.specs.declared.job.JobName.{JobName}
use Rattle.wm_base.specs.declared.refusal.Refusal.{Refusal}
use Rattle.wm_base.specs.declared.refusal.Refusal.TheVariants.{Ambiguous, NoJob, WrongPhase}
use Rattle.wm_law.specs.declared.command.JobRef.{JobRef}
use Rattle.wm_law.specs.declared.command.JobRef.TheVariants.{Simple, ByUser, Full}
use Rattle.wm_law.specs.declared.job.Job.{Job}
use Rattle.wm_law.specs.declared.job.Phase.{Phase}
use Rattle.wm_law.specs.declared.job.Phase.TheVariants.{Waiting, Starting, Handed, Running, Ended}
use Rattle.wm_law.specs.declared.state.State.{State}
use Rattle.wm_law.specs.Counts.{is_waiting}
use Rattle.wm_law.specs.Reports.{phase_word}

-- whether a job of the phase has ended
abbrev pub is_ended : Phase → Bool
is_ended Waiting = false
is_ended Starting = false
is_ended (Handed m) = false
is_ended (Running m) = false
is_ended (Ended c) = true

-- the job has the simple name
abbrev pub has_name : List ℕ → JobName → Bool
has_name name job = pointwise nat_eq job.name name

-- the job is the user's and has the simple name
abbrev pub has_user_name : List ℕ → List ℕ → JobName → Bool
has_user_name user name job = pointwise nat_eq job.user user && has_name name job

-- a reference names a job: without a number it looks among jobs that haven't ended, with one among all
abbrev pub is_named : JobRef → Job → Bool
is_named (Simple name) j = not (is_ended j.phase) && has_name name j.job
is_named (ByUser user name) j = not (is_ended j.phase) && has_user_name user name j.job
is_named (Full job) j = j.job.number == job.number && has_user_name job.user job.name j.job

-- the only one of some jobs: none is NOJOB, several are AMBIGUOUS with their number
abbrev pub only_one : List Job → Result Job Refusal
only_one [] = Err NoJob
only_one (j ∷ []) = Ok j
only_one (j ∷ k ∷ ks) = Err (Ambiguous (length ks + 2))

-- the job that a reference names
abbrev pub job_named : State → JobRef → Result Job Refusal
job_named s ref = only_one (filter (is_named ref) s.jobs)

-- the job, where it waits, else WRONGPHASE
abbrev pub if_waiting : Result Job Refusal → Result Job Refusal
if_waiting (Err x) = Err x
if_waiting (Ok j) = if is_waiting j.phase then Ok j else Err (WrongPhase (phase_word j.phase))

-- the Waiting job that a reference names
abbrev pub waiting_named : State → JobRef → Result Job Refusal
waiting_named s ref = if_waiting (job_named s ref)
