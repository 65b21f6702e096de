-- Why a call of a monitor ends early.
use Rattle.std.specs.Prelude.{◌≡◌, ℕ, ◌≤◌, List, length}
use Rattle.wm_law.specs.declared.call.Entry.{Entry}
use Rattle.wm_traits.specs.Cause.{raised}
use Rattle.wm_floor.specs.declared.call_fault.CallFault.{CallFault}
use Rattle.wm_floor.specs.declared.call_fault.CallFault.TheVariants as call_fault
use Rattle.wm_floor.specs.declared.monitor_fault.MonitorFault.{MonitorFault}
use Rattle.wm_floor.specs.declared.monitor_fault.MonitorFault.TheVariants.{WaitFault, KeeperFault, LogFull, NoMemory}

-- a fault and its cause: the spawner's count of faults rose, the pass's mark rose, or 4,000,000 entries were seen
pub record IsCaused (faults faults_now mark mark_now : ℕ) (seen : List Entry) (fault : MonitorFault) : Type 0 where
  pub wait : fault ≡ WaitFault → raised faults ≤ faults_now
  pub keeper : fault ≡ KeeperFault → raised mark ≤ mark_now
  pub full : (n : ℕ) → fault ≡ LogFull n → (n ≡ 4000000) × (4000000 ≤ length seen)

-- a fault of the floor, as a monitor tells it
abbrev pub fault_of : CallFault → MonitorFault
fault_of call_fault.KeeperFault = KeeperFault
fault_of (call_fault.LogFull n) = LogFull n
fault_of call_fault.NoMemory = NoMemory
