-- Child programs.
use Rattle.std.specs.Prelude.{◌≡◌, ◌≢◌, ℕ, ◌<◌, pos, List, map, Some, None}
use Rattle.std.specs.Process.{child_status, exit_code}
use Rattle.std.specs.declared.process.status.ExitStatus.{ExitStatus}
use Rattle.wm_base.specs.declared.job.Exit.{Exit}
use Rattle.wm_base.specs.declared.job.Exit.TheVariants.{Code, Killed}
use Rattle.wm_children.specs.declared.started.Started.{Started}
use Rattle.wm_children.specs.declared.running.Running.{Running}

-- the serials of the children that are out
abbrev pub serials_of : List Started → List ℕ
serials_of children = map (λ child. child.serial) children

-- a status is this exit: its code, or else a signal ended the child
abbrev pub IsExit : ExitStatus → Exit → Type 0
IsExit status exit = ((code : ℕ) → exit_code status ≡ Some (pos code) → code < 256 → exit ≡ Code code) × (exit_code status ≡ None → exit ≡ Killed)

-- a child has ended so, as std told it
abbrev pub HasEnded : Running → Exit → Type 0
HasEnded running exit = (child_status running.child ≢ None) × ((status : ExitStatus) → child_status running.child ≡ Some status → IsExit status exit)
