-- Why a server's call ends early, and what is written.
use Rattle.std.specs.Prelude.{◌≡◌, ◌⊎◌, ℕ, ◌≤◌, List, [], ◌∷◌, ◌++◌, codes, length, slice_get, take, Option, Some, Result, OnErr, OnOk}
use Rattle.wm_traits.specs.Cause.{raised}
use Rattle.wm_traits.specs.Told.{Grows}
use Rattle.wm_floor.specs.Floor.{Seen}
use Rattle.wm_floor.specs.declared.monitor_fault.MonitorFault.{MonitorFault}
use Rattle.wm_floor.specs.MonitorCauses.{IsCaused}
use Rattle.wm_serve.specs.Halts.{seat_halt}
use Rattle.wm_serve.specs.declared.halt.Halt.{Halt}
use Rattle.wm_serve.specs.declared.halt.Halt.TheVariants.{WriteFault, KeeperFault, NoMemory, LogFull}
use Rattle.wm_serve.specs.declared.seat.MonitorSeat.{MonitorSeat}
use Rattle.wm_serve.specs.declared.seat.Seat.{Seat}
use Rattle.wm_serve.specs.declared.seat.Seat.TheVariants.{Closer}

-- the seat of the closer is at this place
abbrev pub IsCloserAt : {K D P C : Type 0} → ℕ → List (Seat K D P C) → Type 0
IsCloserAt {K} {D} {P} {C} at seats = (c : C) × (slice_get seats at ≡ Some (Closer c))

-- what is written once connections are taken
abbrev pub ready : List ℕ
ready = codes "ready" ++ 10 ∷ []

-- the first bytes of it, or all where the server went on
abbrev pub WritesReady : {T E : Type 0} → Result T E → Option (List ℕ) → Option (List ℕ) → Type 0
WritesReady result before now = OnOk result (Grows before now ready) × OnErr result ((n : ℕ) × Grows before now (take n ready))

-- what a server with this status wrote: the first bytes of it, and all where the status is 0
pub record HasWritten (status : ℕ) (before now : Option (List ℕ)) : Type 0 where
  pub part : (n : ℕ) × Grows before now (take n ready)
  pub all : status ≡ 0 → Grows before now ready

module _ {K : Type 0} where
  -- a call of pass 0 isn't made: its mark rose, or the history has as many entries as its limit, or memory was wanting
  pub record IsCallHalt (limit : ℕ) (old new : Seen K) (h : Halt) : Type 0 where
    pub keeper : h ≡ KeeperFault → raised old.mark ≤ new.mark
    pub full : h ≡ LogFull → limit ≤ length new.seen
    pub only : (h ≡ KeeperFault) ⊎ ((h ≡ LogFull) ⊎ (h ≡ NoMemory))

module _ {K D P C : Type 0} where
  -- a thread of one of the seats was ended by it
  abbrev pub IsSeatHalt : List (Seat K D P C) → Halt → Type 0
  IsSeatHalt [] h = ⊥
  IsSeatHalt (seat ∷ seats) h = (seat_halt seat ≡ Some h) ⊎ IsSeatHalt seats h

  -- serving connections ended early: its output failed, or a thread was ended
  abbrev pub IsRoundsHalt : ℕ → ℕ → List (Seat K D P C) → Halt → Type 0
  IsRoundsHalt writes writes_now seats h = ((h ≡ WriteFault) × (raised writes ≤ writes_now)) ⊎ IsSeatHalt seats h

  -- a server over its floor ended early: its output failed, a call of pass 0 wasn't made, or a thread was ended
  abbrev pub IsServeHalt : ℕ → ℕ → ℕ → Seen K → Seen K → List (Seat K D P C) → Halt → Type 0
  IsServeHalt limit writes writes_now old new seats h = ((h ≡ WriteFault) × (raised writes ≤ writes_now)) ⊎ (IsCallHalt limit old new h ⊎ IsSeatHalt seats h)

module _ {K P C : Type 0} where
  -- a monitor's call ended early, and why
  pub record IsTendHalt (faults : P → ℕ) (old new : MonitorSeat K P C) (fault : MonitorFault) : Type 0 where
    pub from : Seen K
    pub to : Seen K
    pub had : old.pass ≡ Some from
    pub has : new.pass ≡ Some to
    pub cause : IsCaused (faults old.spawner) (faults new.spawner) from.mark to.mark to.seen fault
