-- Which active jobs a run waits for.
use Rattle.std.specs.Prelude.{ℕ}
use Rattle.wm_law.specs.declared.pending.Pending.{Pending}
use Rattle.wm_run.specs.declared.finish.Awaited.{Awaited}
use Rattle.wm_run.specs.declared.finish.Awaited.TheVariants.{Busy, Active}

-- how many of them are left
abbrev pub jobs_left : Awaited → Pending → ℕ
jobs_left Busy p = p.busy
jobs_left Active p = p.active
