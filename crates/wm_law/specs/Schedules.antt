-- From which moment on a job may start, by the schedule of a command.
use Rattle.std.specs.Prelude.{ℕ, Option, Some, None, Result, Ok, Err}
use Rattle.wm_base.specs.declared.refusal.Refusal.{Refusal}
use Rattle.wm_base.specs.declared.refusal.Refusal.TheVariants as refusal
use Rattle.wm_when.specs.Due.{due_of}
use Rattle.wm_when.specs.declared.fault.DueFault.{DueFault}
use Rattle.wm_when.specs.declared.fault.DueFault.TheVariants.{Past, OutOfRange}
use Rattle.wm_when.specs.declared.schedule.DateSpec.{DateSpec}
use Rattle.wm_when.specs.declared.schedule.DateSpec.TheVariants.{Current}
use Rattle.wm_when.specs.declared.schedule.TimeSpec.{TimeSpec}
use Rattle.wm_when.specs.declared.schedule.TimeSpec.TheVariants.{Current as Now}
use Rattle.wm_law.specs.declared.state.State.{State}

-- the refusal of a schedule that names no moment
abbrev pub due_refusal : DueFault → Refusal
due_refusal Past = refusal.Past
due_refusal OutOfRange = refusal.OutOfRange

-- the moment, or why there is none
abbrev pub or_refused : Result ℕ DueFault → Result ℕ Refusal
or_refused (Ok due) = Ok due
or_refused (Err fault) = Err (due_refusal fault)

-- the moment that the words name by the clock and the local time
abbrev pub scheduled : State → DateSpec → TimeSpec → Result ℕ Refusal
scheduled s date time = or_refused (due_of (record { date = date; time = time }) s.clock s.offset_min)

-- the moment that the words name where they may be left out: with one alone the other is *CURRENT, without both the moment stays
abbrev pub rescheduled : State → ℕ → Option DateSpec → Option TimeSpec → Result ℕ Refusal
rescheduled s due None None = Ok due
rescheduled s due None (Some time) = scheduled s Current time
rescheduled s due (Some date) None = scheduled s date Now
rescheduled s due (Some date) (Some time) = scheduled s date time
