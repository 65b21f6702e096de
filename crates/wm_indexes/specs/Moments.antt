-- The rows of active jobs by what of their wishes acts: their moments, in the order in which they come, and their kills.
use Rattle.std.specs.Prelude.{ℕ, ◌≤◌, Bool, List, is_some, unwrap_or}
use Rattle.std.specs.List.{Contains}
use Rattle.wm_indexes.specs.declared.acting.Acting.{Acting}
use Rattle.wm_indexes.specs.declared.turn.Turn.{Turn}

-- whether a job's wish has a moment that is yet to come
abbrev pub has_moment : ℕ × Acting → Bool
has_moment job = is_some job.1.until

-- that moment, where there is one
abbrev pub moment_of : ℕ × Acting → ℕ
moment_of job = unwrap_or job.1.until 0

-- when it comes
abbrev pub turn_of : ℕ × Acting → Turn
turn_of job = record { moment = moment_of job; serial = job.0 }

-- whether a monitor is to be handed a job's kill
abbrev pub is_to_kill : ℕ × Acting → Bool
is_to_kill job = is_some job.1.kill

-- that monitor, where there is one
abbrev pub monitor_of : ℕ × Acting → ℕ
monitor_of job = unwrap_or job.1.kill 0

-- the moments are in range
abbrev pub AreInRange : List (ℕ × Acting) → Type 0
AreInRange jobs = (job : ℕ × Acting) → Contains jobs job → moment_of job ≤ 253402214399
