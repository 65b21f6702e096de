-- The active prestart jobs of a state, and what its definitions find and count among them.
use Rattle.std.specs.Prelude.{◌≡◌, ℕ, List, filter_map, Option, Some, None, option_map, if◌then◌else◌}
use Rattle.wm_base.specs.declared.job.How.{How}
use Rattle.wm_base.specs.declared.job.How.TheVariants.{NotYet, FromQueue, Auto, Pre}
use Rattle.wm_base.specs.declared.qname.QName.{QName}
use Rattle.wm_law.specs.declared.job.Job.{Job}
use Rattle.wm_law.specs.Counts.{is_active}
use Rattle.wm_law.specs.Prestart as law
use Rattle.wm_indexes.specs.declared.prestart_job.PrestartEntry.{PrestartEntry}
use Rattle.wm_indexes.specs.declared.prestart_job.PrestartJob.{PrestartJob}
use Rattle.wm_indexes.specs.declared.prestart_job.Readiness.{Readiness}
use Rattle.wm_indexes.specs.declared.prestart_job.Readiness.TheVariants.{Coming, Idle, Taken}
use Rattle.wm_indexes.specs.Ready.{available, first_idle}

-- the entry for a program in a subsystem
abbrev pub entry_of : QName → QName → PrestartEntry
entry_of sbs pgm = record { sbs = sbs; pgm = pgm }

-- whether a prestart job can take a request
abbrev pub readiness_of : Job → Readiness
readiness_of j = if law.is_idle j then Idle else if law.is_available j then Coming else Taken

-- a job with its entry and its number, where it came by one
abbrev pub row_by : Job → How → Option (ℕ × PrestartJob)
row_by j NotYet = None
row_by j (FromQueue sbs jobq pty route) = None
row_by j (Auto sbs route) = None
row_by j (Pre sbs pgm) = Some (j.serial, record { entry = entry_of sbs pgm; number = j.job.number; readiness = readiness_of j })

-- a job with its entry, where it is active and came by one
abbrev pub row_of : Job → Option (ℕ × PrestartJob)
row_of j = if is_active j.phase then row_by j j.how else None

-- the active prestart jobs
abbrev pub prestart_jobs : List Job → List (ℕ × PrestartJob)
prestart_jobs jobs = filter_map row_of jobs

-- the available ones of an entry are those of the definition
abbrev pub AvailableAreCounted : Type 0
AvailableAreCounted = (sbs pgm : QName) (jobs : List Job) → available (entry_of sbs pgm) (prestart_jobs jobs) ≡ law.count_available sbs pgm jobs

-- the idle one of least number is that of the definition
abbrev pub FirstIdleIsFound : Type 0
FirstIdleIsFound = (sbs pgm : QName) (jobs : List Job) → first_idle (entry_of sbs pgm) (prestart_jobs jobs) ≡ option_map (λ j. j.serial) (law.first_idle sbs pgm jobs)
