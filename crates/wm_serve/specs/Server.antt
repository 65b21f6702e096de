-- What a whole server makes of the rows that it finds, and leaves of them.
use Rattle.std.specs.Prelude.{◌≡◌, ◌⊎◌, ℕ, ℤ, ◌+◌, ◌≤◌, ◌==◌, ◌&&◌, Bool, true, false, List, [], ◌∷◌, drop, length, pos, take, ⊤, Option, Some, None, nat_eq}
use Rattle.std.specs.List.{list_all, list_any}
use Rattle.wm_traits.specs.Cause.{raised}
use Rattle.wm_traits.specs.Told.{Grows, Stays}
use Rattle.wm_law.specs.History.{after}
use Rattle.wm_law.specs.Pending.{active}
use Rattle.wm_law.specs.declared.call.Entry.{Entry}
use Rattle.wm_law.specs.declared.state.State.{State}
use Rattle.wm_floor.specs.Keeping.{IsLeft, Telling}
use Rattle.wm_floor.specs.Floor.{Seen}
use Rattle.wm_plan.specs.Plans.{plan_of}
use Rattle.wm_plan.specs.declared.plan.Plan.{Plan}
use Rattle.wm_plan.specs.declared.plan.Plan.TheVariants.{Run, Serve, Drill}
use Rattle.wm_plan.specs.declared.plan.ServePlan.{ServePlan}
use Rattle.wm_run.specs.Kept.{HasOpened, IsUnopened}
use Rattle.wm_serve.specs.Seats.{Tellers}
use Rattle.wm_serve.specs.declared.halt.Halt.{Halt}
use Rattle.wm_serve.specs.declared.halt.Halt.TheVariants.{WriteFault, KeeperFault, LogFull, WaitFault, ListenFault}
use Rattle.wm_serve.specs.declared.seat.Seat.{Seat}
use Rattle.wm_serve.specs.declared.seat.Seat.TheVariants.{Worker, Closer, Monitor}

-- the plan of a server, where it is one
abbrev pub of_serve : Option Plan → Option ServePlan
of_serve None = None
of_serve (Some (Run plan)) = None
of_serve (Some (Serve plan)) = Some plan
of_serve (Some (Drill plan)) = None

-- the plan of a server that words are
abbrev pub serve_plan : List (List ℕ) → Option ServePlan
serve_plan words = of_serve (plan_of words)

-- what came of a server that opened with a state: this was done
pub record HasServed (status : ℕ) (log : List Entry) (Done : State → List Entry → Type 0) (opened : State) : Type 0 where
  pub idle : status ≡ 0 → active (after opened log) ≡ 0
  pub done : Done opened log

-- a server whose floor was opened
abbrev pub HasHistory : ℤ → ℕ → List Entry → Telling → Telling → (State → List Entry → Type 0) → Type 0
HasHistory offset status log old new Done = HasOpened offset log old new (HasServed status log Done)

-- the statuses of a server
abbrev pub serve_statuses : List ℕ
serve_statuses = 0 ∷ 2 ∷ 4 ∷ 5 ∷ 6 ∷ 7 ∷ 8 ∷ 9 ∷ 10 ∷ []

-- a status is one of these
abbrev pub IsServeStatus : ℕ → Type 0
IsServeStatus status = list_any (nat_eq status) serve_statuses ≡ true

-- a server whose floor wasn't opened left the rows or, for want of memory, has a history with no entry
pub record HasNone (offset : ℤ) (status : ℕ) (old new : Telling) : Type 0 where
  pub early : IsUnopened status
  pub left : IsLeft old new ⊎ ((status ≡ 6) × HasHistory offset status [] old new (λ opened log. ⊤))

-- the one or the other
abbrev pub HasLog : ℤ → ℕ → Option (List Entry) → Telling → Telling → (State → List Entry → Type 0) → Type 0
HasLog offset status None old new Done = HasNone offset status old new
HasLog offset status (Some log) old new Done = HasHistory offset status log old new Done

-- of a seat before and behind, at one place at least
abbrev pub AnyZip : {A B : Type 0} → (A → B → Type 0) → List A → List B → Type 0
AnyZip R [] ys = ⊥
AnyZip R (x ∷ xs) [] = ⊥
AnyZip R (x ∷ xs) (y ∷ ys) = R x y ⊎ AnyZip R xs ys

module _ {K D P C : Type 0} where
  abbrev pub is_worker : Seat K D P C → Bool
  is_worker (Worker w) = true
  is_worker (Closer c) = false
  is_worker (Monitor m) = false

  abbrev pub is_closer : Seat K D P C → Bool
  is_closer (Worker w) = false
  is_closer (Closer c) = true
  is_closer (Monitor m) = false

  abbrev pub is_monitor : Seat K D P C → Bool
  is_monitor (Worker w) = false
  is_monitor (Closer c) = false
  is_monitor (Monitor m) = true

  -- the seats are so many workers', a closer's and so many monitors', in this order
  abbrev pub are_fit : ℕ → ℕ → List (Seat K D P C) → Bool
  are_fit workers monitors seats =
      length seats == workers + 1 + monitors && (list_all is_worker (take workers seats) && (list_all is_closer (take 1 (drop workers seats)) && list_all is_monitor (drop (workers + 1) seats)))

  -- the count of a monitor's spawner rose
  abbrev pub SpawnerRose : Tellers D P → Seat K D P C → Seat K D P C → Type 0
  SpawnerRose t (Monitor m) (Monitor m') = raised (t.faults m.spawner) ≤ t.faults m'.spawner
  SpawnerRose t (Worker w) new = ⊥
  SpawnerRose t (Closer c) new = ⊥
  SpawnerRose t (Monitor m) (Worker w') = ⊥
  SpawnerRose t (Monitor m) (Closer c') = ⊥

  -- the count of a worker's desk rose
  abbrev pub DeskRose : Tellers D P → Seat K D P C → Seat K D P C → Type 0
  DeskRose t (Worker w) (Worker w') = raised (t.looks w.desk) ≤ t.looks w'.desk
  DeskRose t (Worker w) (Closer c') = ⊥
  DeskRose t (Worker w) (Monitor m') = ⊥
  DeskRose t (Closer c) new = ⊥
  DeskRose t (Monitor m) new = ⊥

  -- why a server over its floor ended early: what rose, or how long the history is behind its end
  pub record IsEndHalt (t : Tellers D P) (limit writes writes_now : ℕ) (old new : List (Seat K D P C)) (last : Seen K) (h : Halt) : Type 0 where
    pub write : h ≡ WriteFault → raised writes ≤ writes_now
    pub keeper : h ≡ KeeperFault → 1 ≤ last.mark
    pub full : h ≡ LogFull → limit ≤ length last.seen
    pub wait : h ≡ WaitFault → AnyZip (SpawnerRose t) old new
    pub listen : h ≡ ListenFault → AnyZip (DeskRose t) old new

-- what a server with the plan goes by; without a plan, no time ahead of UTC and the greatest limit
abbrev pub offset_of : Option ServePlan → ℤ
offset_of None = pos 0
offset_of (Some plan) = plan.offset

abbrev pub limit_of : Option ServePlan → ℕ
limit_of None = 1000000
limit_of (Some plan) = plan.log_limit

-- a store is opened once, at the path of the plan; none is where the seats aren't as it says, and for want of memory none may be
abbrev pub OpensPlanned : Option ServePlan → ℕ → Option (List (List ℕ)) → Option (List (List ℕ)) → Type 0
OpensPlanned None status old new = Stays old new
OpensPlanned (Some plan) status old new = ((status ≡ 2 → ⊥) × Grows old new (plan.store ∷ [])) ⊎ (((status ≡ 2) ⊎ (status ≡ 6)) × Stays old new)

-- there is no plan, or the seats aren't as it says
abbrev pub IsUnfit : {K D P C : Type 0} → Option ServePlan → List (Seat K D P C) → Type 0
IsUnfit None seats = ⊤
IsUnfit (Some plan) seats = are_fit plan.workers plan.monitors seats ≡ false
