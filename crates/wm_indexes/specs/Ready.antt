-- What is found among active prestart jobs.
use Rattle.std.specs.Prelude.{ℕ, nat_lt, Bool, true, false, ◌&&◌, List, filter, fold, count_by, Option, Some, None, option_map, if◌then◌else◌}
use Rattle.std.specs.declared.cmp.Ordering.{Ordering}
use Rattle.wm_ordered.specs.Ordered.{key_of}
use Rattle.wm_indexes.specs.declared.prestart_job.PrestartEntry.{PrestartEntry}
use Rattle.wm_indexes.specs.declared.prestart_job.PrestartJob.{PrestartJob}
use Rattle.wm_indexes.specs.declared.prestart_job.Readiness.{Readiness}
use Rattle.wm_indexes.specs.declared.prestart_job.Readiness.TheVariants.{Coming, Idle, Taken}
use Rattle.wm_indexes.specs.contracts.prestart_job.PrestartEntryOrd.TheImpl as by_cmp
use Rattle.wm_indexes.specs.contracts.prestart_job.PrestartEntryPartialEq.TheImpl as by_eq

-- whether two entries are one, as `==` answers
abbrev pub same_entry : PrestartEntry → PrestartEntry → Bool
same_entry = (by_eq.ghosts).eq

-- by subsystem, then program, as `cmp` answers
abbrev pub entry_cmp : PrestartEntry → PrestartEntry → Ordering
entry_cmp = (by_cmp.ghosts).cmp

-- it can take a request, now or once it runs
abbrev pub is_available : Readiness → Bool
is_available Coming = true
is_available Idle = true
is_available Taken = false

-- it can take a request now
abbrev pub is_idle : Readiness → Bool
is_idle Coming = false
is_idle Idle = true
is_idle Taken = false

-- an available job of the entry
abbrev pub is_available_in : PrestartEntry → ℕ × PrestartJob → Bool
is_available_in entry job = same_entry job.1.entry entry && is_available job.1.readiness

-- an idle job of the entry
abbrev pub is_idle_in : PrestartEntry → ℕ × PrestartJob → Bool
is_idle_in entry job = same_entry job.1.entry entry && is_idle job.1.readiness

-- how many of its jobs are available
abbrev pub available : PrestartEntry → List (ℕ × PrestartJob) → ℕ
available entry jobs = count_by (is_available_in entry) jobs

-- the job of lesser number of two
abbrev pub of_lesser_number : Option (ℕ × PrestartJob) → ℕ × PrestartJob → Option (ℕ × PrestartJob)
of_lesser_number None job = Some job
of_lesser_number (Some other) job = if nat_lt job.1.number other.1.number then Some job else Some other

-- the serial of its idle job of least number
abbrev pub first_idle : PrestartEntry → List (ℕ × PrestartJob) → Option ℕ
first_idle entry jobs = option_map key_of (fold of_lesser_number None (filter (is_idle_in entry) jobs))
