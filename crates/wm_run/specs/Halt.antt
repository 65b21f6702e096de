-- Why a run ends early, and with which status.
use Rattle.std.specs.Prelude.{◌≡◌, ℕ, ◌+◌, ◌≤◌, max, length, Option, None, Result, IsErrOf}
use Rattle.wm_traits.specs.Cause.{raised}
use Rattle.wm_floor.specs.declared.call_fault.CallFault.{CallFault}
use Rattle.wm_floor.specs.declared.call_fault.CallFault.TheVariants as call
use Rattle.wm_floor.specs.declared.monitor_fault.MonitorFault.{MonitorFault}
use Rattle.wm_floor.specs.declared.monitor_fault.MonitorFault.TheVariants as monitor
use Rattle.wm_floor.specs.declared.report.Report.{Report}
use Rattle.wm_run.specs.declared.running.Run.{Run}
use Rattle.wm_run.specs.declared.halt.Halt.{Halt}
use Rattle.wm_run.specs.declared.halt.Halt.TheVariants.{ReadFault, WriteFault, KeeperFault, NoMemory, LogFull, WaitFault, InputFull}

-- a fault of a call ends the run
abbrev pub halt_of_call : CallFault → Halt
halt_of_call call.KeeperFault = KeeperFault
halt_of_call (call.LogFull limit) = LogFull
halt_of_call call.NoMemory = NoMemory

-- a monitor's fault ends the run
abbrev pub halt_of : MonitorFault → Halt
halt_of monitor.WaitFault = WaitFault
halt_of monitor.KeeperFault = KeeperFault
halt_of (monitor.LogFull limit) = LogFull
halt_of monitor.NoMemory = NoMemory

-- the status of a run that ends early
abbrev pub status_of : Halt → ℕ
status_of ReadFault = 3
status_of WriteFault = 4
status_of KeeperFault = 5
status_of NoMemory = 6
status_of LogFull = 7
status_of WaitFault = 8
status_of InputFull = 11

-- no count of the sink and of the spawner's looks has fallen, and the faults that are told have raised theirs
pub record HasCauses {T : Type 0} (result : Result T Halt) (written_before written_now looked_before looked_now : ℕ) : Type 0 where
  pub written : written_before ≤ written_now
  pub looked : looked_before ≤ looked_now
  pub write_fault : IsErrOf result WriteFault → raised written_before ≤ written_now
  pub wait_fault : IsErrOf result WaitFault → raised looked_before ≤ looked_now
  pub no_read_fault : IsErrOf result ReadFault → ⊥
  pub not_full : IsErrOf result InputFull → ⊥

-- the same of a part that writes nothing
abbrev pub HasMonitorCauses : {T : Type 0} → Result T Halt → ℕ → ℕ → Type 0
HasMonitorCauses result looked_before looked_now = HasCauses result 0 0 looked_before looked_now

-- the same, where the input is read too
pub record HasInputCauses {T : Type 0} (result : Result T Halt) (read_before read_now written_before written_now looked_before looked_now : ℕ) : Type 0 where
  pub read : read_before ≤ read_now
  pub written : written_before ≤ written_now
  pub looked : looked_before ≤ looked_now
  pub read_fault : IsErrOf result ReadFault → raised read_before ≤ read_now
  pub write_fault : IsErrOf result WriteFault → raised written_before ≤ written_now
  pub wait_fault : IsErrOf result WaitFault → raised looked_before ≤ looked_now

-- the faults of the floor that are told have their causes: a mark of the two passes isn't 0, or one of them has seen so many entries at the least
pub record HasFloorCauses {K : Type 0} (Failed Full : Type 0) (least : ℕ) (r : Run K) : Type 0 where
  pub keeper_fault : Failed → 1 ≤ r.session.mark + r.watch.mark
  pub log_full : Full → least ≤ max (length r.session.seen) (length r.watch.seen)

-- a monitor that kept no report keeps none
abbrev pub KeepsNone : Option Report → Option Report → Type 0
KeepsNone before now = before ≡ None → now ≡ None
