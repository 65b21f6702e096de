-- No ending subsystem stays without an active job.
use Rattle.std.specs.Prelude.{◌≡◌, ℕ, ◌<◌, true, List}
use Rattle.wm_law.specs.declared.call.Call.{Call}
use Rattle.wm_law.specs.declared.call.Entry.{Entry}
use Rattle.wm_law.specs.declared.state.State.{State}
use Rattle.wm_law.specs.declared.state.Sbs.{Sbs}
use Rattle.wm_law.specs.Counts.{count_in_sbs}
use Rattle.wm_law.specs.History.{after}
use Rattle.wm_law.specs.Kept.{IsNumbered}
use Rattle.wm_law.specs.Laws.{IsIn}
use Rattle.wm_law.specs.Machine.{step}
use Rattle.wm_law.specs.Settling.{is_ending}

-- each ending subsystem has an active job
abbrev pub EndingHaveJobs : State → Type 0
EndingHaveJobs s = (b : Sbs) → IsIn b s.started → is_ending b.phase ≡ true → 0 < count_in_sbs b.sbsd s.jobs

-- after every step each ending subsystem has an active job
abbrev pub StepLeavesEndingJobs : Type 0
StepLeavesEndingJobs = (s : State) (caller : ℕ) (call : Call) (moment : ℕ) → IsNumbered s → EndingHaveJobs (step s caller call moment).state

-- after every history from a state where it is so, each ending subsystem has an active job
abbrev pub EndingSubsystemsHaveJobs : Type 0
EndingSubsystemsHaveJobs = (s : State) (h : List Entry) → IsNumbered s → EndingHaveJobs s → EndingHaveJobs (after s h)
