-- What lies in an `ActiveJobs`.
use Rattle.std.specs.Prelude.{ℕ}
use Rattle.wm_ordered.specs.Keys.{nothing_of}
use Rattle.wm_ordered.specs.Ordered.{Pairs, key_of}
use Rattle.wm_indexes.specs.declared.acting.Acting.{Acting}
use Rattle.wm_indexes.specs.declared.active.ActiveJobs.TheInside.{Inside}
use Rattle.wm_indexes.specs.Moments.{AreInRange, has_moment, is_to_kill, monitor_of, turn_of}
use Rattle.wm_indexes.specs.Rows.{HaveRoom, HaveRows, seen_of}

abbrev pub active_of : Inside → Pairs ℕ Acting
active_of t = seen_of t.most t.jobs

-- the moments and the kills are those of the jobs
pub record IsActiveInside (t : Inside) : Type 0 where
  pub jobs : HaveRoom t.most t.jobs
  pub moments : HaveRows turn_of nothing_of has_moment t.most t.jobs.items t.moments
  pub range : AreInRange t.jobs.items
  pub kills : HaveRows key_of monitor_of is_to_kill t.most t.jobs.items t.kills
