-- How many active jobs count against a limit: those whose `how` names what is limited.
use Rattle.std.specs.Prelude.{ℕ, Bool, true, false, ◌&&◌, ◌==◌, List, count_by}
use Rattle.wm_base.specs.declared.qname.QName.{QName}
use Rattle.wm_base.specs.declared.job.How.{How}
use Rattle.wm_base.specs.declared.job.How.TheVariants.{NotYet, FromQueue, Auto, Pre}
use Rattle.wm_law.specs.declared.job.Job.{Job}
use Rattle.wm_law.specs.declared.job.JobKind.{JobKind}
use Rattle.wm_law.specs.declared.job.JobKind.TheVariants.{Bch, Asj, Pj}
use Rattle.wm_law.specs.declared.job.Phase.{Phase}
use Rattle.wm_law.specs.declared.job.Phase.TheVariants.{Waiting, Starting, Handed, Running, Ended}
use Rattle.wm_desc.specs.Table.{same_qname}

-- whether a job of the phase hasn't been launched
abbrev pub is_waiting : Phase → Bool
is_waiting Waiting = true
is_waiting Starting = false
is_waiting (Handed m) = false
is_waiting (Running m) = false
is_waiting (Ended c) = false

-- whether a job of the phase is yet to be handed to a monitor
abbrev pub is_starting : Phase → Bool
is_starting Waiting = false
is_starting Starting = true
is_starting (Handed m) = false
is_starting (Running m) = false
is_starting (Ended c) = false

-- Starting, Handed or Running
abbrev pub is_active : Phase → Bool
is_active Waiting = false
is_active Starting = true
is_active (Handed m) = true
is_active (Running m) = true
is_active (Ended c) = false

-- whether the job is a prestart job
abbrev pub is_prestart : JobKind → Bool
is_prestart Bch = false
is_prestart Asj = false
is_prestart Pj = true

-- whether it came into the subsystem
abbrev pub is_in_sbs : QName → How → Bool
is_in_sbs q NotYet = false
is_in_sbs q (FromQueue sbs jobq pty route) = same_qname sbs q
is_in_sbs q (Auto sbs route) = same_qname sbs q
is_in_sbs q (Pre sbs pgm) = same_qname sbs q

-- whether it came from the subsystem's entry for the queue
abbrev pub is_from_queue : QName → QName → How → Bool
is_from_queue q queue NotYet = false
is_from_queue q queue (FromQueue sbs jobq pty route) = same_qname sbs q && same_qname jobq queue
is_from_queue q queue (Auto sbs route) = false
is_from_queue q queue (Pre sbs pgm) = false

-- whether it came from there with the priority
abbrev pub is_from_priority : QName → QName → ℕ → How → Bool
is_from_priority q queue p NotYet = false
is_from_priority q queue p (FromQueue sbs jobq pty route) = same_qname sbs q && same_qname jobq queue && pty == p
is_from_priority q queue p (Auto sbs route) = false
is_from_priority q queue p (Pre sbs pgm) = false

-- whether it came through the subsystem's routing entry of that number
abbrev pub is_by_route : QName → ℕ → How → Bool
is_by_route q seq NotYet = false
is_by_route q seq (FromQueue sbs jobq pty route) = same_qname sbs q && route == seq
is_by_route q seq (Auto sbs route) = same_qname sbs q && route == seq
is_by_route q seq (Pre sbs pgm) = false

-- whether it came by the subsystem's prestart entry for the program
abbrev pub is_from_pre : QName → QName → How → Bool
is_from_pre q program NotYet = false
is_from_pre q program (FromQueue sbs jobq pty route) = false
is_from_pre q program (Auto sbs route) = false
is_from_pre q program (Pre sbs pgm) = same_qname sbs q && same_qname pgm program

-- the active jobs whose how passes a test
abbrev pub count_active : (How → Bool) → List Job → ℕ
count_active test jobs = count_by (λ j. is_active j.phase && test j.how) jobs

-- how many active jobs came into the subsystem
abbrev pub count_in_sbs : QName → List Job → ℕ
count_in_sbs q jobs = count_active (is_in_sbs q) jobs

-- how many active jobs came from the subsystem's entry for the queue
abbrev pub count_from_queue : QName → QName → List Job → ℕ
count_from_queue q queue jobs = count_active (is_from_queue q queue) jobs

-- how many of these came with the priority
abbrev pub count_from_priority : QName → QName → ℕ → List Job → ℕ
count_from_priority q queue p jobs = count_active (is_from_priority q queue p) jobs

-- how many active jobs came through the subsystem's routing entry of that number
abbrev pub count_by_route : QName → ℕ → List Job → ℕ
count_by_route q seq jobs = count_active (is_by_route q seq) jobs

-- how many active jobs came by the subsystem's prestart entry for the program
abbrev pub count_from_pre : QName → QName → List Job → ℕ
count_from_pre sbs pgm jobs = count_active (is_from_pre sbs pgm) jobs
