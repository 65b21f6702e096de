-- What a table was at its mark, and how the changes since then are undone.
use Rattle.std.specs.Prelude.{ℕ, Bool, not, ◌==◌, List, [], ◌∷◌, map, take}
use Rattle.std.specs.List.{list_any}
use Rattle.wm_law.specs.declared.job.Job.{Job}
use Rattle.wm_law.specs.Jobs.{changed_at}
use Rattle.wm_jobs.specs.declared.touched.Mark.{Mark}
use Rattle.wm_jobs.specs.declared.touched.Standing.{Standing}
use Rattle.wm_jobs.specs.declared.touched.Touched.{Touched}

-- the jobs at the mark, the moment up to which waiting jobs were due, and the serial and the place that the next job had
pub record Marked : Type 0 where
  pub jobs : List Job
  pub clock : ℕ
  pub next_serial : ℕ
  pub next_place : ℕ

-- what the calls of a table change of a job
abbrev pub standing_of : Job → Standing
standing_of j = record { phase = j.phase; how = j.how; wish = j.wish; held = j.held; due = j.due; jobq = j.jobq; pty = j.pty; place = j.place; uses = j.uses; evoke = j.evoke }

-- what is kept of a job that is touched
abbrev pub touched_of : Job → Touched
touched_of j = record { serial = j.serial; was = standing_of j }

-- the job, standing like that
abbrev pub standing_as : Standing → Job → Job
standing_as s j = record j { phase = s.phase; how = s.how; wish = s.wish; held = s.held; due = s.due; jobq = s.jobq; pty = s.pty; place = s.place; uses = s.uses; evoke = s.evoke }

-- the jobs, with a touched one as it stood before
abbrev pub restored : Touched → List Job → List Job
restored t jobs = map (changed_at t.serial (standing_as t.was)) jobs

-- the jobs before all that was done to them, the newest last
abbrev pub undone : List Touched → List Job → List Job
undone [] jobs = jobs
undone (t ∷ ts) jobs = restored t (undone ts jobs)

-- what the table was at a mark, by its jobs and by what was touched since then
abbrev pub marked_by : Mark → List Touched → List Job → Marked
marked_by m touched jobs = record { jobs = undone touched (take m.jobs jobs); clock = m.clock; next_serial = m.next_serial; next_place = m.next_place }

-- whether nothing was done to a job
abbrev pub is_untouched : List Touched → Job → Bool
is_untouched touched j = not (list_any (λ t. j.serial == t.serial) touched)
