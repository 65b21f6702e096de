-- What answers a line: the text of its reply or of its fault, with the line's end.
use Rattle.std.specs.Prelude.{ℕ, Bool, true, false, if◌then◌else◌, List, [], ◌∷◌, ◌++◌}
use Rattle.wm_clwords.specs.declared.fault.ClFault.TheVariants.{Empty}
use Rattle.wm_law.specs.declared.call.Reply.{Reply}
use Rattle.wm_law.specs.declared.call.Reply.TheVariants.{Made, SbsStarted, SbsEnding, Submitted, Held, Released, Changed, JobEnding, JobEnded, QueueHeld, QueueReleased, QueueCleared, PreStarted, PreEnding, Evoked, EvokeWaits, UseEnded, PowerDown, Order, Nothing, Noted, No}
use Rattle.wm_listing.specs.Said.{fault_text}
use Rattle.wm_listing.specs.declared.line_fault.LineFault.{LineFault}
use Rattle.wm_listing.specs.declared.line_fault.LineFault.TheVariants.{Cl}

-- a line with its end
abbrev pub with_end : List ℕ → List ℕ
with_end text = text ++ 10 ∷ []

-- an empty line isn't answered, and is no fault of the session
abbrev pub is_fault : LineFault → Bool
is_fault (Cl Empty) = false
is_fault fault = true

-- what answers a line that is no command
abbrev pub fault_answer : LineFault → List ℕ
fault_answer fault = if is_fault fault then with_end (fault_text fault) else []

-- whether a reply refuses
abbrev pub is_refused : Reply → Bool
is_refused Made = false
is_refused (SbsStarted sbs) = false
is_refused (SbsEnding sbs) = false
is_refused (Submitted job jobq) = false
is_refused (Held job) = false
is_refused (Released job) = false
is_refused (Changed job) = false
is_refused (JobEnding job) = false
is_refused (JobEnded job) = false
is_refused QueueHeld = false
is_refused QueueReleased = false
is_refused (QueueCleared count) = false
is_refused PreStarted = false
is_refused PreEnding = false
is_refused (Evoked job) = false
is_refused (EvokeWaits position) = false
is_refused (UseEnded job) = false
is_refused PowerDown = false
is_refused (Order asked) = false
is_refused Nothing = false
is_refused Noted = false
is_refused (No refusal) = true

-- whether a reply says that the power goes down
abbrev pub is_power_down : Reply → Bool
is_power_down Made = false
is_power_down (SbsStarted sbs) = false
is_power_down (SbsEnding sbs) = false
is_power_down (Submitted job jobq) = false
is_power_down (Held job) = false
is_power_down (Released job) = false
is_power_down (Changed job) = false
is_power_down (JobEnding job) = false
is_power_down (JobEnded job) = false
is_power_down QueueHeld = false
is_power_down QueueReleased = false
is_power_down (QueueCleared count) = false
is_power_down PreStarted = false
is_power_down PreEnding = false
is_power_down (Evoked job) = false
is_power_down (EvokeWaits position) = false
is_power_down (UseEnded job) = false
is_power_down PowerDown = true
is_power_down (Order asked) = false
is_power_down Nothing = false
is_power_down Noted = false
is_power_down (No refusal) = false
