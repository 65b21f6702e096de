-- What a monitor reports of what its spawner told, and what is counted of its entries.
use Rattle.std.specs.Prelude.{ℕ, ◌+◌, ◌-◌, ◌^◌, ◌≤◌, ◌==◌, ◌&&◌, Bool, true, false, min, List, [], ◌++◌, map, Option, option_map, option_to_list, Result, Ok, Err, count_by}
use Rattle.wm_base.specs.declared.job.Event.{Event}
use Rattle.wm_base.specs.declared.job.Event.TheVariants as event
use Rattle.wm_base.specs.declared.job.StartCause.{StartCause}
use Rattle.wm_base.specs.declared.job.StartCause.TheVariants as start
use Rattle.wm_law.specs.declared.call.Call.{Call}
use Rattle.wm_law.specs.declared.call.Call.TheVariants as call
use Rattle.wm_law.specs.declared.call.Entry.{Entry}
use Rattle.wm_law.specs.History.{is_hand, is_monitor_call, reports}
use Rattle.wm_traits.specs.declared.fault.Failed.{Failed}
use Rattle.wm_traits.specs.declared.fault.StartFault.{StartFault}
use Rattle.wm_traits.specs.declared.fault.StartFault.TheVariants as fault
use Rattle.wm_traits.specs.declared.spawner.Told.{Told}
use Rattle.wm_traits.specs.declared.spawner.Told.TheVariants.{Began, NotBegan, Happened}
use Rattle.wm_floor.specs.declared.report.Report.{Report}
use Rattle.wm_floor.specs.declared.report.Report.TheVariants.{Started, StartFailed, Finished, UseDone}
use Rattle.wm_floor.specs.Idle.{monitor_pass}

-- the call of a report
abbrev pub call_of : Report → Call
call_of (Started serial) = call.Started serial
call_of (StartFailed serial why) = call.StartFailed serial why
call_of (Finished serial end) = call.Finished serial end
call_of (UseDone serial) = call.UseDone serial

-- why a job couldn't be started
abbrev pub start_cause : StartFault → StartCause
start_cause fault.Failed = start.Spawner
start_cause fault.NoMemory = start.Memory

-- the report of what a child told
abbrev pub report_event : Event → Report
report_event (event.Ended serial end) = Finished serial end
report_event (event.Used serial) = UseDone serial

-- the report of what a spawner answered
abbrev pub report_of : Told → Report
report_of (Began serial) = Started serial
report_of (NotBegan serial why) = StartFailed serial (start_cause why)
report_of (Happened event) = report_event event

-- the calls that stand for what a spawner told
abbrev pub as_reports : Option (List Told) → Option (List Call)
as_reports told = option_map (map (λ t. call_of (report_of t))) told

-- the report of a look, where there was one
abbrev pub looked : Result (Option Report) Failed → List Report
looked (Ok o) = option_to_list o
looked (Err e) = []

-- all that the monitor has reported, and the report that it keeps
abbrev pub reported : List Entry → List Report → List Call
reported log kept = reports log monitor_pass ++ map call_of kept

-- whether a report says that the spawner failed
abbrev pub is_start_fault : StartCause → Bool
is_start_fault start.Spawner = true
is_start_fault start.Memory = false

-- whether a call reports so
abbrev pub is_spawner_fault : Call → Bool
is_spawner_fault (call.Change user c) = false
is_spawner_fault call.Hand = false
is_spawner_fault (call.Started serial) = false
is_spawner_fault (call.StartFailed serial why) = is_start_fault why
is_spawner_fault (call.Finished serial end) = false
is_spawner_fault (call.UseDone serial) = false
is_spawner_fault call.Tick = false

-- an entry of the monitor
abbrev pub is_own : Entry → Bool
is_own e = e.caller == monitor_pass && is_monitor_call e.call

-- how many Hands there are
abbrev pub hands_of : List Entry → ℕ
hands_of es = count_by (λ e. is_hand e.call) es

-- the count has risen by at least so many, or to the greatest u64
abbrev pub RisesBy : ℕ → ℕ → ℕ → Type 0
RisesBy before n now = min (before + n) (2 ^ 64 - 1) ≤ now
