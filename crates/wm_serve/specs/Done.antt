-- What each seat did while a server ran, as its history tells it.
use Rattle.std.specs.Prelude.{◌≡◌, ℕ, ◌+◌, ◌≤◌, List, [], ◌∷◌, ⊤, Option, Some, None, IfSome}
use Rattle.wm_traits.specs.Cause.{raised}
use Rattle.wm_law.specs.declared.call.Entry.{Entry}
use Rattle.wm_law.specs.declared.state.State.{State}
use Rattle.wm_floor.specs.Floor.{Floored, Seen}
use Rattle.wm_floor.specs.Ledger.{caller_of}
use Rattle.wm_plan.specs.declared.plan.ServePlan.{ServePlan}
use Rattle.wm_turn.specs.Passed.{StartsWith, own}
use Rattle.wm_serve.specs.Connections.{DeskServes, MakesCommands}
use Rattle.wm_floor.specs.Attends.{MonitorAttends}
use Rattle.wm_serve.specs.Over.{AreServerCalls, IsOver}
use Rattle.wm_serve.specs.Seats.{IsLater, Tellers, pass_of}
use Rattle.wm_serve.specs.declared.seat.Seat.{Seat}
use Rattle.wm_serve.specs.declared.seat.Seat.TheVariants.{Worker, Closer, Monitor}
use Rattle.wm_serve.specs.declared.seat.WorkerSeat.{WorkerSeat}
use Rattle.wm_serve.specs.declared.worker.Stopped.TheVariants.{Dry, Failed}

module _ {K D P C : Type 0} where
  -- what a pass has seen begins with what the seat's has, where the seat has one
  abbrev pub HasTold : Seen K → Seat K D P C → Type 0
  HasTold zero seat = IfSome (pass_of seat) (λ pass. StartsWith zero.seen pass.seen)

  -- a worker between two moments of its pass: no connection is in hand, its entries are users' commands, the connections that its desk tells were served, its counts haven't fallen, and the one has risen that says why it stopped
  pub record WorkerDid (t : Tellers D P) (f : Floored K) (old new : WorkerSeat K D C) (from to : Seen K) : Type 0 where
    pub served : DeskServes f.opening (t.had old.desk) (t.had new.desk) from to
    pub free : t.hand new.desk ≡ None
    pub commands : MakesCommands from to
    pub dries : IsLater (t.dries old.desk) (t.dries new.desk)
    pub dry : new.stopped ≡ Some Dry → raised (t.dries old.desk) ≤ t.dries new.desk
    pub looks : IsLater (t.looks old.desk) (t.looks new.desk)
    pub failed : new.stopped ≡ Some Failed → raised (t.looks old.desk) ≤ t.looks new.desk

  -- what was done on a seat between two moments of its pass
  abbrev pub SeatDid : Tellers D P → Floored K → Seat K D P C → Seat K D P C → Seen K → Seen K → Type 0
  SeatDid t f (Worker w) (Worker w') from to = WorkerDid t f w w' from to
  SeatDid t f (Worker w) (Closer c') from to = ⊥
  SeatDid t f (Worker w) (Monitor m') from to = ⊥
  SeatDid t f (Closer c) new from to = ⊥
  SeatDid t f (Monitor m) (Worker w') from to = ⊥
  SeatDid t f (Monitor m) (Closer c') from to = ⊥
  SeatDid t f (Monitor m) (Monitor m') from to = MonitorAttends t.asked t.told t.misses t.faults f from m.monitor m.spawner to m'.monitor m'.spawner

  -- a seat whose pass had this number: the pass began with nothing seen and no entry, has seen the front of the history, and its entries are those of the history with its number
  pub record SeatServed (t : Tellers D P) (f : Floored K) (log : List Entry) (n : ℕ) (old new : Seat K D P C) : Type 0 where
    pub from : Seen K
    pub to : Seen K
    pub number : from.number ≡ n
    pub unseen : from.seen ≡ []
    pub unmade : from.mine ≡ []
    pub seen : StartsWith log to.seen
    pub mine : to.mine ≡ own caller_of n log
    pub did : SeatDid t f old new from to

  -- the seats in order, but for the closer's, with one number after another
  abbrev pub SeatsServed : Tellers D P → Floored K → List Entry → ℕ → List (Seat K D P C) → List (Seat K D P C) → Type 0
  SeatsServed t f log n [] [] = ⊤
  SeatsServed t f log n [] (new ∷ news) = ⊥
  SeatsServed t f log n (old ∷ olds) [] = ⊥
  SeatsServed t f log n (Worker w ∷ olds) (new ∷ news) = SeatServed t f log n (Worker w) new × SeatsServed t f log (n + 1) olds news
  SeatsServed t f log n (Closer c ∷ olds) (new ∷ news) = SeatsServed t f log n olds news
  SeatsServed t f log n (Monitor m ∷ olds) (new ∷ news) = SeatServed t f log n (Monitor m) new × SeatsServed t f log (n + 1) olds news

  -- on one floor that was opened with the state each seat did its part, and the other entries are those of the server's own calls; with status 0 it is over
  pub record AreServed (t : Tellers D P) (plan : ServePlan) (status : ℕ) (opened : State) (log : List Entry) (old new : List (Seat K D P C)) : Type 0 where
    pub floor : Floored K
    pub opening : floor.opening.state ≡ opened
    pub seats : SeatsServed t floor log 1 old new
    pub calls : AreServerCalls plan.ctl (own caller_of 0 log)
    pub over : status ≡ 0 → IsOver t plan.workers opened log old new

  -- the same of the plan, which there is
  abbrev pub AreServedBy : Tellers D P → Option ServePlan → ℕ → List (Seat K D P C) → List (Seat K D P C) → State → List Entry → Type 0
  AreServedBy t None status old new opened log = ⊥
  AreServedBy t (Some plan) status old new opened log = AreServed t plan status opened log old new
