-- The seats of a server's threads, and what a thread makes of its seat.
use Rattle.std.specs.Prelude.{◌≡◌, ◌⊎◌, ℕ, ◌-◌, ◌^◌, ◌≤◌, min, Bool, true, false, List, Option, Some, None}
use Rattle.wm_base.specs.declared.job.Asked.{Asked}
use Rattle.wm_traits.specs.Cause.{raised}
use Rattle.wm_traits.specs.declared.spawner.Told.{Told}
use Rattle.wm_floor.specs.Floor.{Floored, IsPassOf, IsSame, Seen}
use Rattle.wm_listener.specs.Had.{Had}
use Rattle.wm_floor.specs.declared.monitor_fault.MonitorFault.{MonitorFault}
use Rattle.wm_floor.specs.MonitorCauses.{IsCaused}
use Rattle.wm_floor.specs.Scene.{IsClear}
use Rattle.wm_serve.specs.Connections.{DeskServes, MakesCommands}
use Rattle.wm_floor.specs.Attends.{MonitorAttends}
use Rattle.wm_serve.specs.declared.seat.MonitorSeat.{MonitorSeat}
use Rattle.wm_serve.specs.declared.seat.Seat.{Seat}
use Rattle.wm_serve.specs.declared.seat.Seat.TheVariants.{Worker, Closer, Monitor}
use Rattle.wm_serve.specs.declared.seat.WorkerSeat.{WorkerSeat}
use Rattle.wm_serve.specs.declared.worker.Stopped.{Stopped}
use Rattle.wm_serve.specs.declared.worker.Stopped.TheVariants.{Dry, Closed, Failed, NoMemory}

-- a count hasn't fallen, up to the greatest
abbrev pub IsLater : ℕ → ℕ → Type 0
IsLater before now = min before (2 ^ 64 - 1) ≤ now

-- what desks and spawners tell of themselves
pub record Tellers (D P : Type 0) : Type 0 where
  pub hand : D → Option (Option (List ℕ))
  pub had : D → Option (List Had)
  pub dries : D → ℕ
  pub looks : D → ℕ
  pub asked : P → Option (List Asked)
  pub told : P → Option (List Told)
  pub misses : P → ℕ
  pub faults : P → ℕ

abbrev pub tellers : {D P : Type 0} → (D → Option (Option (List ℕ))) → (D → Option (List Had)) → (D → ℕ) → (D → ℕ) → (P → Option (List Asked)) → (P → Option (List Told)) → (P → ℕ) → (P → ℕ) → Tellers D P
tellers hand had dries looks asked told misses faults =
    record { hand = hand; had = had; dries = dries; looks = looks; asked = asked; told = told; misses = misses; faults = faults }

-- a worker has stopped since no connection can come any more
abbrev pub has_met_dry : Option Stopped → Bool
has_met_dry None = false
has_met_dry (Some Dry) = true
has_met_dry (Some Closed) = false
has_met_dry (Some Failed) = false
has_met_dry (Some NoMemory) = false

module _ {K P C : Type 0} where
  -- a monitor with its pass of the floor
  pub record MonitorSits (f : Floored K) (m : MonitorSeat K P C) : Type 0 where
    pub pass : Seen K
    pub its : m.pass ≡ Some pass
    pub own : IsPassOf f pass

  -- a monitor did its part between two moments
  pub record Tends (asked : P → Option (List Asked)) (told : P → Option (List Told)) (misses faults : P → ℕ) (f : Floored K) (old new : MonitorSeat K P C) : Type 0 where
    pub from : Seen K
    pub to : Seen K
    pub had : old.pass ≡ Some from
    pub has : new.pass ≡ Some to
    pub part : MonitorAttends asked told misses faults f from old.monitor old.spawner to new.monitor new.spawner

module _ {K D P C : Type 0} where
  -- the pass of a seat
  abbrev pub pass_of : Seat K D P C → Option (Seen K)
  pass_of (Worker w) = w.pass
  pass_of (Closer c) = None
  pass_of (Monitor m) = m.pass

  -- a worker's desk
  abbrev pub desk_of : Seat K D P C → Option D
  desk_of (Worker w) = Some w.desk
  desk_of (Closer c) = None
  desk_of (Monitor m) = None

  -- whether a seat takes a pass: the closer's doesn't
  abbrev pub takes_pass : Seat K D P C → Bool
  takes_pass (Worker w) = true
  takes_pass (Closer c) = false
  takes_pass (Monitor m) = true

  -- no connection can come any more to the worker, if it is a worker's
  abbrev pub is_dry : Seat K D P C → Bool
  is_dry (Worker w) = has_met_dry w.stopped
  is_dry (Closer c) = true
  is_dry (Monitor m) = true

  -- nothing has run on the seat: it has no pass, its worker hasn't stopped, and its monitor keeps nothing
  abbrev pub IsFresh : Tellers D P → Seat K D P C → Type 0
  IsFresh t (Worker w) = (w.pass ≡ None) × ((w.stopped ≡ None) × (t.hand w.desk ≡ None))
  IsFresh t (Closer c) = Unit {0}
  IsFresh t (Monitor m) = (m.pass ≡ None) × ((m.fault ≡ None) × IsClear m.monitor)

  -- a worker with its pass of the floor, and with no connection in hand
  pub record WorkerSits (t : Tellers D P) (f : Floored K) (w : WorkerSeat K D C) : Type 0 where
    pub pass : Seen K
    pub its : w.pass ≡ Some pass
    pub own : IsPassOf f pass
    pub free : t.hand w.desk ≡ None

  -- the seat has what its thread needs; a monitor that no fault ended keeps no report
  abbrev pub Sits : Tellers D P → Floored K → Seat K D P C → Type 0
  Sits t f (Worker w) = WorkerSits t f w
  Sits t f (Closer c) = Unit {0}
  Sits t f (Monitor m) = MonitorSits f m × (m.fault ≡ None → m.monitor.kept ≡ None)

  -- a worker between two moments: its entries are users' commands, the connections that its desk tells were served, and its counts rose where it says why it stopped
  pub record WorkerRuns (t : Tellers D P) (f : Floored K) (old new : WorkerSeat K D C) : Type 0 where
    pub from : Seen K
    pub to : Seen K
    pub had : old.pass ≡ Some from
    pub has : new.pass ≡ Some to
    pub same : IsSame from to
    pub served : DeskServes f.opening (t.had old.desk) (t.had new.desk) from to
    pub dries : IsLater (t.dries old.desk) (t.dries new.desk)
    pub commands : MakesCommands from to
    pub dry : new.stopped ≡ Some Dry → (old.stopped ≡ Some Dry) ⊎ (raised (t.dries old.desk) ≤ t.dries new.desk)
    pub looks : IsLater (t.looks old.desk) (t.looks new.desk)
    pub failed : new.stopped ≡ Some Failed → (old.stopped ≡ Some Failed) ⊎ (raised (t.looks old.desk) ≤ t.looks new.desk)

  -- a monitor between two moments: it did its part, a fault has its cause, and without one no report is kept
  pub record MonitorRuns (t : Tellers D P) (f : Floored K) (old new : MonitorSeat K P C) : Type 0 where
    pub from : Seen K
    pub to : Seen K
    pub had : old.pass ≡ Some from
    pub has : new.pass ≡ Some to
    pub part : MonitorAttends t.asked t.told t.misses t.faults f from old.monitor old.spawner to new.monitor new.spawner
    pub cause : (fault : MonitorFault) → new.fault ≡ Some fault → (old.fault ≡ Some fault) ⊎ IsCaused (t.faults old.spawner) (t.faults new.spawner) from.mark to.mark to.seen fault
    pub told : new.fault ≡ None → new.monitor.kept ≡ None

  -- what a worker did until it stopped for this reason
  pub record WorkerServes (t : Tellers D P) (f : Floored K) (old new : WorkerSeat K D C) (why : Stopped) : Type 0 where
    pub from : Seen K
    pub to : Seen K
    pub had : old.pass ≡ Some from
    pub has : new.pass ≡ Some to
    pub same : IsSame from to
    pub served : DeskServes f.opening (t.had old.desk) (t.had new.desk) from to
    pub dries : IsLater (t.dries old.desk) (t.dries new.desk)
    pub commands : MakesCommands from to
    pub dry : why ≡ Dry → raised (t.dries old.desk) ≤ t.dries new.desk
    pub looks : IsLater (t.looks old.desk) (t.looks new.desk)
    pub failed : why ≡ Failed → raised (t.looks old.desk) ≤ t.looks new.desk

  -- a seat between two moments
  abbrev pub Runs : Tellers D P → Floored K → Seat K D P C → Seat K D P C → Type 0
  Runs t f (Worker w) (Worker w') = WorkerRuns t f w w'
  Runs t f (Worker w) (Closer c') = ⊥
  Runs t f (Worker w) (Monitor m') = ⊥
  Runs t f (Closer c) (Worker w') = ⊥
  Runs t f (Closer c) (Closer c') = Unit {0}
  Runs t f (Closer c) (Monitor m') = ⊥
  Runs t f (Monitor m) (Worker w') = ⊥
  Runs t f (Monitor m) (Closer c') = ⊥
  Runs t f (Monitor m) (Monitor m') = MonitorRuns t f m m'
