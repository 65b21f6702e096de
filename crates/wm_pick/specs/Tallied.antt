-- The counts of a state by the tally of its active jobs' hows.
use Rattle.std.specs.Prelude.{◌≡◌, ℕ, List, filter, map}
use Rattle.wm_base.specs.declared.job.How.{How}
use Rattle.wm_base.specs.declared.qname.QName.{QName}
use Rattle.wm_law.specs.declared.job.Job.{Job}
use Rattle.wm_law.specs.Counts.{is_active, count_in_sbs, count_from_queue, count_from_priority, count_from_pre, count_by_route}
use Rattle.wm_pick.specs.declared.counted.Counted.TheVariants.{Sbs, Queue, Pty, Route, Pre}
use Rattle.wm_pick.specs.Tally.{Counts, IsTally, count_of}

-- the hows of the active jobs, in the order of the jobs
abbrev pub hows : List Job → List How
hows jobs = map (λ j. j.how) (filter (λ j. is_active j.phase) jobs)

-- the tally has each count of the jobs
pub record HasCounts (jobs : List Job) (tally : Counts) : Type 0 where
  pub in_sbs : (sbs : QName) → count_of (Sbs sbs) tally ≡ count_in_sbs sbs jobs
  pub from_queue : (sbs queue : QName) → count_of (Queue sbs queue) tally ≡ count_from_queue sbs queue jobs
  pub from_priority : (sbs queue : QName) (pty : ℕ) → count_of (Pty sbs queue pty) tally ≡ count_from_priority sbs queue pty jobs
  pub by_route : (sbs : QName) (seq : ℕ) → count_of (Route sbs seq) tally ≡ count_by_route sbs seq jobs
  pub from_pre : (sbs pgm : QName) → count_of (Pre sbs pgm) tally ≡ count_from_pre sbs pgm jobs

-- the tally of the active jobs' hows has the counts of the jobs
abbrev pub TallyHasCounts : Type 0
TallyHasCounts = (jobs : List Job) (tally : Counts) → IsTally (hows jobs) tally → HasCounts jobs tally
