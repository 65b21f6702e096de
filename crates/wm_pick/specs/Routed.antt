-- What routing makes of a job.
use Rattle.std.specs.Prelude.{ℕ, Result, Ok, Err}
use Rattle.wm_base.specs.declared.job.EndCause.{EndCause}
use Rattle.wm_base.specs.declared.job.How.{How}
use Rattle.wm_law.specs.declared.launch.Launched.{Launched}
use Rattle.wm_law.specs.Launch.{ends_by, starts_as}

-- it starts by the routing entry of that number, or it ends
abbrev pub as_routed : (ℕ → How) → Result ℕ EndCause → Launched
as_routed how (Ok seq) = starts_as (how seq)
as_routed how (Err cause) = ends_by cause
