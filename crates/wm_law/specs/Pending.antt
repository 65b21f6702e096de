-- What a monitor asks of the state.
use Rattle.std.specs.Prelude.{ℕ, Bool, not, ◌+◌, ◌&&◌, Option, Some, None, fold, min, count_by, nat_lt, if◌then◌else◌}
use Rattle.wm_law.specs.declared.job.Job.{Job}
use Rattle.wm_law.specs.declared.pending.Pending.{Pending}
use Rattle.wm_law.specs.declared.state.State.{State}
use Rattle.wm_law.specs.Counts.{is_waiting, is_starting, is_active, is_prestart}
use Rattle.wm_law.specs.Reports.{is_to_kill}
use Rattle.wm_law.specs.Settling.{sbs_moment}
use Rattle.wm_law.specs.Wishes.{wish_moment}

-- how many jobs are active
abbrev pub active : State → ℕ
active s = count_by (λ j. is_active j.phase) s.jobs

-- how many active jobs aren't prestart jobs
abbrev pub busy : State → ℕ
busy s = count_by (λ j. is_active j.phase && not (is_prestart j.kind)) s.jobs

-- how many jobs are Starting
abbrev pub starting : State → ℕ
starting s = count_by (λ j. is_starting j.phase) s.jobs

-- how many kills the monitor is yet to be handed
abbrev pub kills : State → ℕ → ℕ
kills s m = count_by (is_to_kill m) s.jobs

-- how many orders Hand would give the monitor, one after another
abbrev pub orders_left : State → ℕ → ℕ
orders_left s m = kills s m + starting s

-- the lesser of two moments, where there is one
abbrev pub sooner : Option ℕ → ℕ → Option ℕ
sooner None moment = Some moment
sooner (Some least) moment = Some (min least moment)

-- the lesser of two moments, of which each may lack
abbrev pub soonest : Option ℕ → Option ℕ → Option ℕ
soonest least None = least
soonest least (Some moment) = sooner least moment

-- whether a Waiting job is due above the clock
abbrev pub is_ahead : State → Job → Bool
is_ahead s j = is_waiting j.phase && nat_lt s.clock j.due

-- the least moment above the clock at which a Waiting job is due
abbrev pub next_due : State → Option ℕ
next_due s = fold (λ least j. if is_ahead s j then sooner least j.due else least) None s.jobs

-- the moment, where it is above the clock
abbrev pub ahead : ℕ → Option ℕ → Option ℕ
ahead clock None = None
ahead clock (Some moment) = if nat_lt clock moment then Some moment else None

-- the moment of an active job's wish
abbrev pub active_moment : Job → Option ℕ
active_moment j = if is_active j.phase then wish_moment j.wish else None

-- the least moment above the clock of an active job's wish
abbrev pub next_wish : State → Option ℕ
next_wish s = fold (λ least j. soonest least (ahead s.clock (active_moment j))) None s.jobs

-- the least moment above the clock at which an ending subsystem ends
abbrev pub next_ending : State → Option ℕ
next_ending s = fold (λ least b. soonest least (ahead s.clock (sbs_moment b.phase))) None s.started

-- the least moment above the clock at which a Waiting job, a wish or an ending subsystem is due
abbrev pub next_moment : State → Option ℕ
next_moment s = soonest (soonest (next_due s) (next_wish s)) (next_ending s)

-- what waits for a monitor, known by the number of its pass
abbrev pub pending : State → ℕ → Pending
pending s m = record { orders = orders_left s m; next = next_moment s; active = active s; busy = busy s; power = s.power }
