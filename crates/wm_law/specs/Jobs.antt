-- A change to one job of the state.
use Rattle.std.specs.Prelude.{ℕ, ◌&&◌, ◌==◌, map, if◌then◌else◌}
use Rattle.wm_law.specs.declared.job.Job.{Job}
use Rattle.wm_law.specs.declared.state.State.{State}
use Rattle.wm_law.specs.Counts.{is_active, is_waiting}

-- the job changed, where it has that serial
abbrev pub changed_at : ℕ → (Job → Job) → Job → Job
changed_at serial change j = if j.serial == serial then change j else j

-- the state with the job of that serial changed
abbrev pub with_job : State → ℕ → (Job → Job) → State
with_job s serial change = record s { jobs = map (changed_at serial change) s.jobs }

-- the job changed, where it waits and has that serial
abbrev pub waiting_at : ℕ → (Job → Job) → Job → Job
waiting_at serial change j = if is_waiting j.phase && j.serial == serial then change j else j

-- the state with the Waiting job of that serial changed
abbrev pub with_waiting : State → ℕ → (Job → Job) → State
with_waiting s serial change = record s { jobs = map (waiting_at serial change) s.jobs }

-- the job changed, where it is active and has that serial
abbrev pub active_at : ℕ → (Job → Job) → Job → Job
active_at serial change j = if is_active j.phase && j.serial == serial then change j else j

-- the state with the active job of that serial changed
abbrev pub with_active : State → ℕ → (Job → Job) → State
with_active s serial change = record s { jobs = map (active_at serial change) s.jobs }
