-- Why a server ends early, and with which status.
use Rattle.std.specs.Prelude.{ℕ, Option, Some, None, Result, Ok, Err, nat_lt, if◌then◌else◌}
use Rattle.wm_floor.specs.declared.call_fault.CallFault.{CallFault}
use Rattle.wm_floor.specs.declared.call_fault.CallFault.TheVariants as call_fault
use Rattle.wm_floor.specs.declared.monitor_fault.MonitorFault.{MonitorFault}
use Rattle.wm_floor.specs.declared.monitor_fault.MonitorFault.TheVariants as monitor_fault
use Rattle.wm_serve.specs.declared.halt.Halt.{Halt}
use Rattle.wm_serve.specs.declared.halt.Halt.TheVariants.{WriteFault, KeeperFault, NoMemory, LogFull, WaitFault, ListenFault}
use Rattle.wm_serve.specs.declared.seat.Seat.{Seat}
use Rattle.wm_serve.specs.declared.seat.Seat.TheVariants.{Worker, Closer, Monitor}
use Rattle.wm_serve.specs.declared.worker.Stopped.{Stopped}
use Rattle.wm_serve.specs.declared.worker.Stopped.TheVariants as stopped

-- the status of each
abbrev pub status_of : Halt → ℕ
status_of WriteFault = 4
status_of KeeperFault = 5
status_of NoMemory = 6
status_of LogFull = 7
status_of WaitFault = 8
status_of ListenFault = 10

-- the status of a server over an open floor
abbrev pub ended_status : Result (Unit {0}) Halt → ℕ
ended_status (Ok done) = 0
ended_status (Err halt) = status_of halt

-- a fault of a call of the floor
abbrev pub halt_of_call : CallFault → Halt
halt_of_call call_fault.KeeperFault = KeeperFault
halt_of_call (call_fault.LogFull n) = LogFull
halt_of_call call_fault.NoMemory = NoMemory

-- a fault of a monitor
abbrev pub halt_of_monitor : MonitorFault → Halt
halt_of_monitor monitor_fault.WaitFault = WaitFault
halt_of_monitor monitor_fault.KeeperFault = KeeperFault
halt_of_monitor (monitor_fault.LogFull n) = LogFull
halt_of_monitor monitor_fault.NoMemory = NoMemory

-- of two the one with the lesser status
abbrev pub least : Halt → Halt → Halt
least one other = if nat_lt (status_of other) (status_of one) then other else one

-- the same of two that may lack
abbrev pub lesser : Option Halt → Option Halt → Option Halt
lesser None other = other
lesser (Some one) None = Some one
lesser (Some one) (Some other) = Some (least one other)

-- why a worker has stopped, where that is a fault
abbrev pub worker_halt : Option Stopped → Option Halt
worker_halt None = None
worker_halt (Some stopped.Dry) = None
worker_halt (Some stopped.Closed) = None
worker_halt (Some stopped.Failed) = Some ListenFault
worker_halt (Some stopped.NoMemory) = Some NoMemory

-- why a monitor has stopped, where that is a fault
abbrev pub monitor_halt : Option MonitorFault → Option Halt
monitor_halt None = None
monitor_halt (Some fault) = Some (halt_of_monitor fault)

-- the fault that ended a seat's thread
abbrev pub seat_halt : {K D P C : Type 0} → Seat K D P C → Option Halt
seat_halt (Worker w) = worker_halt w.stopped
seat_halt (Closer c) = None
seat_halt (Monitor m) = monitor_halt m.fault
