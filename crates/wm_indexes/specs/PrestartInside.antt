-- What lies in a `PrestartJobs`.
use Rattle.std.specs.Prelude.{ℕ, ◌≤◌}
use Rattle.wm_ordered.specs.Index.{capacity_of}
use Rattle.wm_ordered.specs.Keys.{nothing_of}
use Rattle.wm_ordered.specs.Ordered.{Pairs}
use Rattle.wm_indexes.specs.declared.prestart_job.PrestartJob.{PrestartJob}
use Rattle.wm_indexes.specs.declared.prestart.PrestartJobs.TheInside.{Inside}
use Rattle.wm_indexes.specs.Rows.{HaveRoom, HaveRows, seen_of}
use Rattle.wm_indexes.specs.Seats.{AreNumbers, is_idle_job, seat_of}

abbrev pub prestart_of : Inside → Pairs ℕ PrestartJob
prestart_of t = seen_of t.most t.jobs

-- the seats and the numbers are those of the jobs
pub record IsPrestartInside (t : Inside) : Type 0 where
  pub jobs : HaveRoom t.most t.jobs
  pub seats : HaveRows seat_of nothing_of is_idle_job t.most t.jobs.items t.seats
  pub numbers : AreNumbers t.jobs.items t.numbers.items
  pub room : t.most ≤ capacity_of t.numbers
