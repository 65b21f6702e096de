-- What is found among active jobs.
use Rattle.std.specs.Prelude.{ℕ, Bool, false, ◌==◌, List, fold, find, count_by, Option, Some, None, option_map}
use Rattle.wm_law.specs.Pending.{ahead, soonest}
use Rattle.wm_ordered.specs.Ordered.{key_of}
use Rattle.wm_indexes.specs.declared.acting.Acting.{Acting}

-- whether it is that monitor
abbrev pub is_monitor : ℕ → Option ℕ → Bool
is_monitor m None = false
is_monitor m (Some n) = n == m

-- the monitor is to be handed the job's kill
abbrev pub has_kill : ℕ → ℕ × Acting → Bool
has_kill m job = is_monitor m job.1.kill

-- the job of least serial whose kill the monitor is to be handed
abbrev pub first_kill : ℕ → List (ℕ × Acting) → Option ℕ
first_kill m jobs = option_map key_of (find (has_kill m) jobs)

-- how many kills the monitor is to be handed
abbrev pub kills : ℕ → List (ℕ × Acting) → ℕ
kills m jobs = count_by (has_kill m) jobs

-- the least moment above the clock of a wish
abbrev pub next_above : ℕ → List (ℕ × Acting) → Option ℕ
next_above clock jobs = fold (λ least job. soonest least (ahead clock job.1.until)) None jobs
