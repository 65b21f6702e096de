-- What a report on an active job comes to.
use Rattle.std.specs.Prelude.{ℕ, Bool, if◌then◌else◌}
use Rattle.wm_base.specs.declared.job.How.{How}
use Rattle.wm_law.specs.declared.job.Phase.{Phase}
use Rattle.wm_law.specs.declared.state.State.{State}
use Rattle.wm_law.specs.Reports.{stops_with, with_phase}

-- the job of the serial in that phase, and the prestart entry that the how names stopped, where that is said
abbrev pub moved_on : State → ℕ → Phase → How → Bool → State
moved_on s serial phase how stops = record (with_phase s serial phase) { stopped = if stops then stops_with how s.stopped else s.stopped }
